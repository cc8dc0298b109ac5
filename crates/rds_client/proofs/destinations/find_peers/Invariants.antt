use Rattle.std.proofs.Common.{◌≡◌, vec_len}
use Rattle.rds_client.proofs.destinations.find_peers.Given as goal

abbrev pub invariant-loop-name : goal.invariant-loop-name
invariant-loop-name g l = vec_len l.found ≡ l.name-index

use Rattle.std.proofs.Common.{◌≡◌, ◌+◌, take, count_by}
use Rattle.rds_names.proofs.Cuts.{is_slash}
use Rattle.rds_names.proofs.path.count_pieces.Given as goal

abbrev pub invariant-loop-byte : goal.invariant-loop-byte
invariant-loop-byte l = l.pieces ≡ 1 + count_by is_slash (take l.byte-index l.fn.text)

use Rattle.std.proofs.Common.{◌≡◌}
use Rattle.rds_client.proofs.requests.Talk.request.Given as goal

-- what came isn't touched
abbrev pub invariant-loop-piece : goal.invariant-loop-piece
invariant-loop-piece l = l.self.input ≡ l.fn.self.input

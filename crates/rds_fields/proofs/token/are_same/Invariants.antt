use Rattle.std.proofs.Common.{◌≡◌, bytes_eq, take}
use Rattle.rds_fields.proofs.token.are_same.Given as goal

-- the bytes so far are the same, or not
abbrev pub invariant-loop-i : goal.invariant-loop-i
invariant-loop-i l = l.same ≡ bytes_eq (take l.i l.shown) (take l.i l.due)

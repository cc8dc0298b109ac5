use Rattle.std.proofs.Common.{◌≡◌, length}
use Rattle.std.specs.Prelude.{fold}
use Rattle.rds_state.specs.Mark.{with_byte}
use Rattle.rds_state.proofs.mark.short_word.Given as goal

-- what is still read ends as all would
abbrev pub invariant-reading : goal.invariant-reading
invariant-reading l = fold with_byte l.word l.bytes ≡ fold with_byte 0 l.fn.bytes

abbrev pub decreases-reading : goal.decreases-reading
decreases-reading l = length l.bytes

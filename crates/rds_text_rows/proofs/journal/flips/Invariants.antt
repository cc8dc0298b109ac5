use Rattle.std.proofs.Common.{◌≡◌, ◌<◌, length}
use Rattle.rds_text_rows.proofs.journal.flips.Given as goal

abbrev pub invariant-loop-bit : goal.invariant-loop-bit
invariant-loop-bit l = (l.at < length l.bytes.items) × (l.at-end ≡ length l.bytes.items)

abbrev pub invariant-loop-at : goal.invariant-loop-at
invariant-loop-at l = l.at-end ≡ length l.bytes.items

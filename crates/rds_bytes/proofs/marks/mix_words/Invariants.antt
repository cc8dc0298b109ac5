use Rattle.std.proofs.Common.{◌≡◌, length}
use Rattle.std.specs.Prelude.{fold}
use Rattle.std.specs.Int.{w64, from_le_bytes}
use Rattle.rds_bytes.specs.Marks.{mixed}
use Rattle.rds_bytes.proofs.marks.mix_words.Given as goal

-- what is still mixed ends as all would
abbrev pub invariant-mixing : goal.invariant-mixing
invariant-mixing l =
    fold (λ m word. mixed m (from_le_bytes w64 word)) l.mark l.words ≡ fold (λ m word. mixed m (from_le_bytes w64 word)) 0 l.fn.words

abbrev pub decreases-mixing : goal.decreases-mixing
decreases-mixing l = length l.words

use Rattle.std.proofs.Common.{◌≡◌, length}
use Rattle.std.specs.Prelude.{fold}
use Rattle.std.specs.Int.{w64, from_be_bytes}
use Rattle.rds_state.specs.Mark.{with_word}
use Rattle.rds_state.proofs.mark.Mark.with_words.Given as goal

-- what is still mixed ends as all would
abbrev pub invariant-mixing : goal.invariant-mixing
invariant-mixing l =
    fold (λ n word. with_word n (from_be_bytes w64 word)) l.mark l.words ≡ fold (λ n word. with_word n (from_be_bytes w64 word)) l.fn.self l.fn.words

abbrev pub decreases-mixing : goal.decreases-mixing
decreases-mixing l = length l.words

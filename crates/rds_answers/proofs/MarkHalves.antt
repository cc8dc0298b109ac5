-- The halves of a mark have 64 bits.
use Rattle.std.proofs.Common.{◌^◌, ◌<◌, List, [], ◌∷◌, arith}
use Rattle.std.specs.Prelude.{fold}
use Rattle.rds_counts.specs.RowsOf.{count_rows}
use Rattle.rds_life.specs.Life.{live_rows}
use Rattle.rds_state.specs.Mark.{count_mark, live_mark, mark_of, no_mark, plus, plus_count, plus_live}
use Rattle.rds_state.specs.Value.{StateValue}
use Rattle.rds_state.specs.declared.mark.Mark.{Mark}

pub record IsMark (m : Mark) : Type 0 where
  pub high : m.high < 2 ^ 64
  pub low : m.low < 2 ^ 64

plus_is_mark : (m n : Mark) → IsMark (plus m n)
unfolding plus
plus_is_mark m n = record { high = omega arith; low = omega arith }

sum_is_mark : {A : Type 0} (f : Mark → A → Mark) → ((m : Mark) (a : A) → IsMark (f m a)) → (m : Mark) → IsMark m → (xs : List A) → IsMark (fold f m xs)
sum_is_mark f each m is [] = is
sum_is_mark f each m is (x ∷ xs) = sum_is_mark f each (f m x) (each m x) xs

empty_is_mark : IsMark no_mark
empty_is_mark = record { high = omega arith; low = omega arith }

-- the halves of a state's mark have 64 bits
pub mark_is_mark : (v : StateValue) → IsMark (mark_of v)
unfolding mark_of
mark_is_mark v =
    sum_is_mark plus_count (λ m row. plus_is_mark m (count_mark row)) (fold plus_live no_mark (live_rows v.lives))
    (sum_is_mark plus_live (λ m row. plus_is_mark m (live_mark row.0 row.1)) no_mark empty_is_mark (live_rows v.lives)) (count_rows v.counts)

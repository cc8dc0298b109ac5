-- How many rows are left.
use Rattle.std.proofs.Common.{◌≡◌, ◌+◌, Bool, true, false, not, cond, Option, Some, None, refl, sym, ◌∙◌, ap, length}
use Rattle.std.proofs.Common.{arith}
use Rattle.std.specs.Prelude.{count_by}
use Rattle.std.specs.FinMap as map
use Rattle.std.proofs.lemmas.List.Filters.{length-filter_both}
use Rattle.std.proofs.lemmas.List.Sums.{length-filter}
use Rattle.rds_names.specs.declared.entry.Entry.{Entry}
use Rattle.rds_dots.specs.declared.dot.Dot.{Dot}
use Rattle.rds_life.specs.Killed.{killed_by}
use Rattle.rds_life.specs.Life.{Life, Live, Dead, Lived, entry_of, live_rows}
use Rattle.rds_life.proofs.Kills.{left, spared, find-left, rise-left}
use Rattle.rds_life.proofs.RowLemmas.{same_rows}
use Rattle.rds_life.proofs.Views.{find-live_rows, rise-live_rows}

entry_left : (test : Dot → Entry → Bool) (d : Dot) (o : Option Life) → entry_of (killed_by test d o) ≡ spared test d (entry_of o)
entry_left test d None = refl
entry_left test d (Some (Live e)) = by (test d e)
  where
    by : (b : Bool) → entry_of (cond b (Some Dead) (Some (Live e))) ≡ cond (not b) (Some e) None
    by true = refl
    by false = refl
entry_left test d (Some Dead) = refl

-- the rows that are left
pub live_rows-killed : (test : Dot → Entry → Bool) (v w : Lived) → ((d : Dot) → map.get w d ≡ killed_by test d (map.get v d)) → live_rows w ≡ left test (live_rows v)
live_rows-killed test v w killed = same_rows _ _ (rise-live_rows w) (rise-left test (live_rows v) (rise-live_rows v)) (λ d.
    find-live_rows w d ∙ ap entry_of (killed d) ∙ entry_left test d (map.get v d)
    ∙ sym (find-left test (live_rows v) (rise-live_rows v) d ∙ ap (spared test d) (find-live_rows v d)))

pub count_killed : (test : Dot → Entry → Bool) (v w : Lived) → ((d : Dot) → map.get w d ≡ killed_by test d (map.get v d)) → length (live_rows v) ≡ length (live_rows w) + count_by (λ (r : Dot × Entry). test r.0 r.1) (live_rows v)
count_killed test v w killed =
    let chosen : Dot × Entry → Bool = λ r. test r.0 r.1 in
    let both = length-filter_both chosen (λ r. not (chosen r)) (λ r. refl) (live_rows v) in
    let count = length-filter chosen (live_rows v) in
    let after = ap length (live_rows-killed test v w killed) in
    omega (arith, both, count, after)

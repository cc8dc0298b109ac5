-- The steps of a check of dot rows.
use Rattle.std.proofs.Common.{◌≡◌, ℕ, suc, ◌+◌, ◌-◌, ◌<◌, ◌≤◌, Bool, true, false, ◌==◌, nat_lt, List, [], ◌∷◌, ◌++◌}
use Rattle.std.proofs.Common.{length, Option, Some, None, refl, sym, ◌∙◌, ap, arith, length-append, inl, inr, ◌⊎◌}
use Rattle.std.specs.Prelude.{map as each, is_some}
use mathlib.Core.Bool.{false≢true}
use Rattle.std.specs.Ordering.{nat_cmp, ordering_then, is_lt}
use Rattle.std.specs.declared.cmp.Ordering.{Ordering}
use Rattle.std.specs.declared.cmp.Ordering.TheVariants.{Less, Equal, Greater}
use Rattle.std.specs.FinMap as map
use Rattle.std.proofs.lemmas.Bool.Decides.{nat_tests}
use Rattle.rds_dots.specs.declared.dot.Dot.{Dot}
use Rattle.rds_dots.specs.Dots.{dot_cmp, first_of, last_of, comes_after}
use Rattle.rds_dots.specs.Lacking.{dot_of}
use Rattle.rds_dots.specs.Listed.{dots_from}
use Rattle.rds_dots.specs.Order.{dots_exact, after_before}
use Rattle.rds_life.specs.Life.{Life, Live, Dead, Lived, entry_of}
use Rattle.rds_delta.specs.Ranks.{life_rank}
use Rattle.rds_delta.specs.declared.row.Row.{Row}
use Rattle.rds_delta.specs.declared.step.DotRow.{DotRow}
use Rattle.rds_delta.specs.declared.step.DotRow.TheVariants as dots
use Rattle.rds_delta.specs.Next.{IsNextRow}
use Rattle.rds_delta.specs.Rest.{after_of, claims_after, is_flat, certified_row}
use Rattle.rds_delta.specs.Claimed.{row_above, end_of, IsAboveAt, IsClaimedTo, IsClaimed, IsUnclaimed}
use Rattle.rds_delta.proofs.AfterLemmas.{after_next, after_dead, step_none, step_live, step_dead}

-- what the next row is
pub step_rows : (peer : Dot → ℕ) (v : Lived) (after : Option Dot) (next : DotRow) → IsNextRow peer v after (Some next) → (more : List Row) → is_flat more ≡ true → claims_after peer v after more ≡ certified_row next ∷ claims_after peer v (Some (end_of next)) more
step_rows peer v after (dots.Live d p) is more flat = step_live peer v after d p more is
step_rows peer v after (dots.Dead r p) is more flat = step_dead peer v after r p more flat is

nothing : (peer : Dot → ℕ) (v : Lived) (d : Dot) → map.get v d ≡ None → IsAboveAt peer v d
nothing peer v d none some = absurd (false≢true (sym (ap is_some none) ∙ some))

live_rank : (o : Option Life) → is_some (entry_of o) ≡ true → life_rank o ≡ 1
live_rank None h = absurd (false≢true h)
live_rank (Some (Live e)) h = refl
live_rank (Some Dead) h = absurd (false≢true h)

is_zero : (p : ℕ) → (p == 0) ≡ true → p ≡ 0
is_zero p h = grind (arith, nat_tests)

is_below : (p : ℕ) → nat_lt p 2 ≡ true → p < 2
is_below p h = grind (arith, nat_tests)

-- a dot up to the last of a run is before it, or in it
upto : (a b s lo hi : ℕ) → lo ≤ hi → is_lt (ordering_then (nat_cmp b a) (nat_cmp hi s)) ≡ false → (is_lt (ordering_then (nat_cmp a b) (nat_cmp s lo)) ≡ true) ⊎ ((a ≡ b) × (lo ≤ s) × (s ≤ hi))
upto a b s lo hi le h = grind (arith, nat_tests)

above_next : (peer : Dot → ℕ) (v : Lived) (after : Option Dot) (next : DotRow) → IsNextRow peer v after (Some next) → row_above next ≡ true → (d : Dot) → comes_after after d ≡ true → comes_after (Some (end_of next)) d ≡ false → IsAboveAt peer v d
above_next peer v after (dots.Live x p) is above d comes ends = by_order (dot_cmp d x) refl
  where
    by_order : (o : Ordering) → dot_cmp d x ≡ o → IsAboveAt peer v d
    by_order Less h = nothing peer v d (is.gap d comes (ap is_lt h))
    by_order Equal h =
        let e = dots_exact d x h in
        let one : life_rank (map.get v d) ≡ 1 = ap (λ q. life_rank (map.get v q)) e ∙ live_rank (map.get v x) is.live in
        let zero : peer d ≡ 0 = ap peer e ∙ is.rank ∙ is_zero p above in
        λ some. omega (arith, one, zero)
    by_order Greater h = absurd (false≢true (sym ends ∙ ap is_lt (after_before d x h)))
above_next peer v after (dots.Dead r p) is above d comes ends = in_or_before (upto d.replica r.replica d.seq r.lo r.hi is.is_run.rises ends)
  where
    in_or_before : (is_lt (dot_cmp d (first_of r)) ≡ true) ⊎ ((d.replica ≡ r.replica) × (r.lo ≤ d.seq) × (d.seq ≤ r.hi)) → IsAboveAt peer v d
    in_or_before (inl lt) = nothing peer v d (is.gap d comes lt)
    in_or_before (inr k) =
        let e : d ≡ dot_of r.replica d.seq = ap (λ a. dot_of a d.seq) k.0 in
        let two : life_rank (map.get v d) ≡ 2 = ap (λ q. life_rank (map.get v q)) e ∙ ap life_rank (is.dead d.seq k.1 k.2) in
        let low : peer d ≡ p = ap peer e ∙ is.rank d.seq k.1 k.2 in
        let lt = is_below p above in
        λ some. omega (arith, two, low, lt)

tail_of : List Row → List Row
tail_of [] = []
tail_of (r ∷ rs) = rs

-- a row that is the next one
pub claim_step : (peer : Dot → ℕ) (v : Lived) (rows : List Row) (after : Option Dot) (next : DotRow) (later : List Row) → IsNextRow peer v after (Some next) → row_above next ≡ true → IsClaimedTo peer v rows after (certified_row next ∷ later) → IsClaimedTo peer v rows (Some (end_of next)) later
unfolding tail_of
claim_step peer v rows after next later is above to = record {
  above = λ d ends. by_after d ends (comes_after after d) refl;
  left = λ more flat.
      let e = step_rows peer v after next is more flat in
      (λ h. ap tail_of ((to.left more flat).0 h ∙ e), λ h. (to.left more flat).1 (ap (λ rs. certified_row next ∷ rs) h ∙ sym e));
}
  where
    by_after : (d : Dot) → comes_after (Some (end_of next)) d ≡ false → (b : Bool) → comes_after after d ≡ b → IsAboveAt peer v d
    by_after d ends true comes = above_next peer v after next is above d comes ends
    by_after d ends false comes = to.above d comes

-- rows that don't begin with the next one
pub claim_other : (peer : Dot → ℕ) (v : Lived) (rows : List Row) (after : Option Dot) (next : DotRow) (rest : List Row) → IsNextRow peer v after (Some next) → IsClaimedTo peer v rows after rest → ((later : List Row) → rest ≡ certified_row next ∷ later → ⊥) → IsUnclaimed peer v rows
claim_other peer v rows after next rest is to other = record { fails = λ above more flat h. other (claims_after peer v (Some (end_of next)) more) ((to.left more flat).0 h ∙ step_rows peer v after next is more flat) }

-- no more dots
pub claim_end : (peer : Dot → ℕ) (v : Lived) (rows : List Row) (after : Option Dot) (rest : List Row) → IsNextRow peer v after None → IsClaimedTo peer v rows after rest → IsClaimed peer v rows rest
claim_end peer v rows after rest none to = record {
  above = λ d. by_after d (comes_after after d) refl;
  left = λ more flat.
      let e = step_none peer v after more none in
      (λ h. (to.left more flat).0 h ∙ e, λ h. (to.left more flat).1 (h ∙ sym e));
}
  where
    by_after : (d : Dot) (b : Bool) → comes_after after d ≡ b → IsAboveAt peer v d
    by_after d true comes = nothing peer v d (none d comes)
    by_after d false comes = to.above d comes

-- fewer dots are left
pub fewer_left : (peer : Dot → ℕ) (v : Lived) (after : Option Dot) (next : DotRow) → IsNextRow peer v after (Some next) → length (after_of (Some (end_of next)) v) < length (after_of after v)
fewer_left peer v after (dots.Live d p) is =
    by_life (map.get v d) refl
  where
    by_life : (o : Option Life) → map.get v d ≡ o → length (after_of (Some d) v) < length (after_of after v)
    by_life None h = absurd (false≢true (sym (ap (λ o. is_some (entry_of o)) h) ∙ is.live))
    by_life (Some l) h = let e = ap length (after_next v after d l h is.follows is.gap) in omega (arith, e)
fewer_left peer v after (dots.Dead r p) is =
    let rises = is.is_run.rises in
    let count : r.hi + 1 - r.lo ≡ suc (r.hi - r.lo) = omega arith in
    let e = ap length (after_dead v after peer r p is ∙ ap (λ n. each (λ d. (d, Dead)) (dots_from r.replica r.lo n) ++ after_of (Some (last_of r)) v) count) in
    let f = length-append (each (λ d. (d, Dead)) (dots_from r.replica (r.lo + 1) (r.hi - r.lo))) (after_of (Some (last_of r)) v) in
    omega (arith, e, f)

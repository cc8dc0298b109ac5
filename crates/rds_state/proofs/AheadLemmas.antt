-- Rows that are ahead are numbers that are.
use Rattle.std.proofs.Common.{◌≡◌, ℕ, zero, suc, ◌+◌, Bool, true, false, ◌&&◌, ◌==◌, nat_lt, cond, List, [], ◌∷◌, ◌++◌}
use Rattle.std.proofs.Common.{Option, Some, None, refl, sym, ◌∙◌, ap, subst, arith}
use Rattle.std.proofs.Math.Path.{fun_ext}
use Rattle.std.specs.FinMap as map
use Rattle.std.proofs.lemmas.Bool.Decides.{nat_tests}
use Rattle.rds_names.specs.Conditions.{true_of}
use Rattle.rds_names.specs.declared.fault.Own.{Own}
use Rattle.rds_names.specs.declared.fault.Own.TheVariants.{Seq, Plus, Minus}
use Rattle.rds_dots.specs.Dots.{Dots}
use Rattle.rds_dots.specs.Lacking.{IsLacking}
use Rattle.rds_life.specs.Life.{Lived, seen_of}
use Rattle.rds_counts.specs.declared.row.Which.TheVariants.{P, N}
use Rattle.rds_counts.specs.declared.row.CountRow.{CountRow}
use Rattle.rds_counts.specs.Place.{Place}
use Rattle.rds_counts.specs.Counted.{Above, Counted, number, number_from, place, entry_above, components, counts_of}
use Rattle.rds_counts.specs.Counted.{AreCountRows}
use Rattle.rds_counts.specs.Entries.{entries-counts_of}
use Rattle.rds_state.specs.Value.{StateValue}
use Rattle.rds_state.specs.Ahead.{Ahead, SeqAhead, NumberAhead}
use Rattle.rds_state.specs.RowsAhead.{rows_ahead}
use Rattle.rds_state.proofs.FirstAbove.{own_number, first_ahead, listed, first_ahead_is}

module _ (here : Place → ℕ) (own : ℕ) where
  never : (x : ℕ) (b : Bool) → (b && nat_lt x 0) ≡ false
  never x b = grind (arith, nat_tests)

  ahead-above : (q : Place) (n : ℕ) (es : List (Place × Above)) → first_ahead here own (entry_above q n ++ es) ≡ cond ((q.replica == own) && nat_lt (here q) n) (Some (own_number q.which n)) (first_ahead here own es)
  ahead-above q zero es = sym (ap (λ b. cond b (Some (own_number q.which 0)) (first_ahead here own es)) (never (here q) (q.replica == own)))
  ahead-above q (suc n) es = let e : n + 1 ≡ suc n = omega arith in ap (λ m. cond ((q.replica == own) && nat_lt (here q) m) (Some (own_number q.which m)) (first_ahead here own es)) e

  both : (b x y : Bool) (u v w : Option Own) → cond (b && x) u (cond (b && y) v w) ≡ cond b (cond x u (cond y v w)) w
  both true x y u v w = refl
  both false x y u v w = refl

  pub ahead-components : (rs : List CountRow) → first_ahead here own (components rs) ≡ rows_ahead here own rs
  ahead-components [] = refl
  ahead-components (r ∷ rs) =
      let p = place r.key r.replica P in
      let n = place r.key r.replica N in
      ahead-above p r.p (entry_above n r.n ++ components rs)
      ∙ ap (cond ((r.replica == own) && nat_lt (here p) r.p) (Some (Plus r.p))) (ahead-above n r.n (components rs) ∙ ap (cond ((r.replica == own) && nat_lt (here n) r.n) (Some (Minus r.n))) (ahead-components rs))
      ∙ both (r.replica == own) (nat_lt (here p) r.p) (nat_lt (here n) r.n) (Some (Plus r.p)) (Some (Minus r.n)) (rows_ahead here own rs)

rows_are_entries : (here : Place → ℕ) (own : ℕ) (d : Counted) (rs : List CountRow) → AreCountRows rs → d ≡ counts_of rs → first_ahead here own (map.entries d) ≡ rows_ahead here own rs
rows_are_entries here own d rs are is = ap (first_ahead here own) (ap map.entries is ∙ entries-counts_of rs are.rise) ∙ ahead-components here own rs

-- what the search in rows finds is the first own number above
pub rows_ahead_is : (here : Place → ℕ) (own : ℕ) (d : Counted) (rs : List CountRow) → AreCountRows rs → d ≡ counts_of rs → NumberAhead here own (number d) (rows_ahead here own rs)
rows_ahead_is here own d rs are is =
    let es = map.entries d in
    let listed_is : listed es ≡ (λ q. number d q) = fun_ext (λ q. ap number_from (sym (map.get-entries d q))) in
    subst (NumberAhead here own (number d)) (rows_are_entries here own d rs are is)
    (subst (λ (sent : Place → ℕ). NumberAhead here own sent (first_ahead here own es)) listed_is (first_ahead_is here own es (true_of _ (map.entries_sorted d))))

pub ahead_of_numbers : (a : StateValue) (own : ℕ) (d : StateValue) → SeqAhead a.lives own d.lives None → (o : Option Own) → NumberAhead (number a.counts) own (number d.counts) o → Ahead a own d o
ahead_of_numbers a own d knows None h = (knows, h)
ahead_of_numbers a own d knows (Some (Seq n)) h = absurd h
ahead_of_numbers a own d knows (Some (Plus n)) h = (knows, h)
ahead_of_numbers a own d knows (Some (Minus n)) h = (knows, h)

-- what the sets of seen dots say of lives
pub lacking_ahead : (a d : Lived) (s t : Dots) (own : ℕ) → s ≡ seen_of a → t ≡ seen_of d → (o : Option ℕ) → IsLacking s t own o → SeqAhead a own d o
lacking_ahead a d s t own p q o h = subst (λ (x : Dots). IsLacking x (seen_of d) own o) p (subst (λ (x : Dots). IsLacking s x own o) q h)

-- The greatest dot of a replica, by where its dots end.
use Rattle.std.proofs.Common.{◌≡◌, ℕ, suc, zero, ◌+◌, ◌-◌, ◌≤◌, Bool, true, false, not, ◌||◌, ◌⊎◌, List, [], ◌∷◌, ◌++◌}
use Rattle.std.proofs.Common.{length, Some, None, slice_get, refl, sym, ◌∙◌, ap, arith, inl, inr}
use mathlib.Core.Bool.{false≢true}
use Rattle.std.proofs.lemmas.Bool.{or_right}
use Rattle.std.specs.List.{list_all}
use Rattle.std.specs.Ordering.{eq_by_cmp, is_eq, is_lt, nat_cmp, ordering_then}
use Rattle.std.specs.Cmp.{tied_itself}
use Rattle.std.specs.FinSet as set
use Rattle.std.proofs.lemmas.List.Folds.{list_any-append}
use Rattle.std.proofs.lemmas.Bool.Decides.{nat_tests}
use Rattle.std.proofs.lemmas.Option.{slice_get_within, slice_get-get_or}
use Rattle.rds_dots.specs.declared.dot.Dot.{Dot}
use Rattle.rds_dots.specs.declared.dot.TheConstants.{MAX_SEQ}
use Rattle.rds_dots.specs.Dots.{dot_cmp, is_dot, IsTop}
use Rattle.rds_dots.specs.Ascending.{is_above, ascends}
use Rattle.rds_dots.specs.Listed.{lists}
use Rattle.rds_dots.specs.Order.{dots_total}
use Rattle.rds_names.specs.Conditions.{and_left, and_right, and_true}
use Rattle.rds_dots.proofs.Parts.{all_back}
use Rattle.rds_dots.specs.Sets.{all_listed, contains_list, dot_limits, tied_dots_are_one}

abbrev dot : ℕ → ℕ → Dot
dot replica seq = record { replica = replica; seq = seq }

not_past : (a s : ℕ) → s ≤ 281474976710655 → is_lt (ordering_then (nat_cmp a a) (nat_cmp 281474976710655 s)) ≡ false
not_past a s le = grind (arith, nat_tests)

or_true : (a b : Bool) → (a || b) ≡ true → (b ≡ true → ⊥) → a ≡ true
or_true true b h none = refl
or_true false b h none = absurd (none h)

-- all that a rising list has before its last dot is below that
below_last : (ds : List Dot) (last : Dot) → ascends (ds ++ last ∷ []) ≡ true → list_all (λ d. is_above d last) ds ≡ true
below_last [] last rise = refl
below_last (d ∷ ds) last rise =
    and_true (is_above d last) _
    (and_left (is_above d last) true (all_back (is_above d) ds (last ∷ []) (and_left _ (ascends (ds ++ last ∷ [])) rise)))
    (below_last ds last (and_right (list_all (is_above d) (ds ++ last ∷ [])) _ rise))

-- the dots of a replica are in front of where they can only end
module _ (ds front back : List Dot) (replica : ℕ) (is : front ++ back ≡ ds) (all : list_all is_dot ds ≡ true) (past : list_all (is_above (dot replica MAX_SEQ)) back ≡ true) where
  in_front : (n : ℕ) → lists ds (dot replica n) ≡ true → lists front (dot replica n) ≡ true
  in_front n there =
      let le = (dot_limits (dot replica n) (all_listed is_dot ds all (dot replica n) there)).within in
      let split : (lists front (dot replica n) || lists back (dot replica n)) ≡ true = sym (list_any-append (eq_by_cmp dot_cmp (dot replica n)) front back) ∙ ap (λ es. lists es (dot replica n)) is ∙ there in
      or_true _ _ split (λ h. false≢true (sym (not_past replica n le) ∙ all_listed (is_above (dot replica MAX_SEQ)) back past (dot replica n) h))

  in_all : (d : Dot) → lists front d ≡ true → lists ds d ≡ true
  in_all d there = ap (λ es. lists es d) (sym is) ∙ list_any-append (eq_by_cmp dot_cmp d) front back ∙ ap (λ b. b || lists back d) there

  -- no dots in front
  pub no_top : length front ≡ 0 → IsTop (set.from_list {R = dot_cmp} ds) replica 0
  no_top none = record {
    at_most = λ n h. absurd (empty front none n (in_front n (sym (contains_list ds (dot replica n)) ∙ h)));
    there = λ h. absurd (omega arith);
  }
    where
      empty : (front : List Dot) → length front ≡ 0 → (n : ℕ) → lists front (dot replica n) ≡ true → ⊥
      empty [] none n h = false≢true h
      empty (d ∷ ds) none n h = omega arith

  module _ (last : Dot) (earlier : List Dot) (ends : front ≡ earlier ++ last ∷ []) (rise : ascends front ≡ true) where
    -- a dot in front is before the last one, or that one
    before_last : (d : Dot) → lists front d ≡ true → (is_above d last ≡ true) ⊎ (d ≡ last)
    before_last d there =
        or_cases (lists earlier d) (eq_by_cmp dot_cmp d last || false)
        (λ h. inl (all_listed (λ e. is_above e last) earlier (below_last earlier last (ap ascends (sym ends) ∙ rise)) d h))
        (λ h. inr (tied_dots_are_one d last (or_true _ false h (λ f. false≢true f))))
        (sym (list_any-append (eq_by_cmp dot_cmp d) earlier (last ∷ [])) ∙ ap (λ es. lists es d) (sym ends) ∙ there)
      where
        or_cases : (a b : Bool) → {P : Type 0} → (a ≡ true → P) → (b ≡ true → P) → (a || b) ≡ true → P
        or_cases true b p q h = p refl
        or_cases false b p q h = q h

    last_listed : lists ds last ≡ true
    last_listed = in_all last (ap (λ es. lists es last) ends ∙ list_any-append (eq_by_cmp dot_cmp last) earlier (last ∷ []) ∙ or_right (lists earlier last) _ (ap (λ o. is_eq o || false) (tied_itself dots_total last)))

    -- the last dot in front has the greatest number, if it is the replica's
    pub last_top : last.replica ≡ replica → IsTop (set.from_list {R = dot_cmp} ds) replica last.seq
    last_top same = record {
      at_most = λ n h. (elim (before_last (dot replica n) (in_front n (sym (contains_list ds (dot replica n)) ∙ h))) [
        | inl below ↦ at_most replica n last.replica last.seq same below
        | inr is ↦ (let e : n ≡ last.seq = ap (λ (d : Dot). d.seq) is in omega (arith, e))
      ]);
      there = λ _. contains_list ds (dot replica last.seq) ∙ ap (λ n. lists ds (dot n last.seq)) (sym same) ∙ last_listed;
    }
      where
        at_most : (a s b t : ℕ) → b ≡ a → is_lt (ordering_then (nat_cmp a b) (nat_cmp s t)) ≡ true → s ≤ t
        at_most a s b t e h = grind (arith, nat_tests)

    -- and otherwise the replica has none
    pub other_top : list_all (λ d. not (is_above (dot replica MAX_SEQ) d)) front ≡ true → (last.replica ≡ replica → ⊥) → IsTop (set.from_list {R = dot_cmp} ds) replica 0
    other_top upto other = record {
      at_most = λ n h. (elim (before_last (dot replica n) (in_front n (sym (contains_list ds (dot replica n)) ∙ h))) [
        | inl below ↦ absurd (other (between replica n last.replica last.seq below last_upto))
        | inr is ↦ absurd (other (sym (ap (λ (d : Dot). d.replica) is)))
      ]);
      there = λ h. absurd (omega arith);
    }
      where
        last_upto : not (is_above (dot replica MAX_SEQ) last) ≡ true
        last_upto = and_left _ true (all_back _ earlier (last ∷ []) (ap (list_all _) (sym ends) ∙ upto))

        between : (a s b t : ℕ) → is_lt (ordering_then (nat_cmp a b) (nat_cmp s t)) ≡ true → not (is_lt (ordering_then (nat_cmp a b) (nat_cmp 281474976710655 t))) ≡ true → b ≡ a
        between a s b t h k = grind (arith, nat_tests)

-- what the last element tells of a list
ends_at : (ds : List Dot) (last : Dot) (n : ℕ) → n + 1 ≡ length ds → slice_get ds n ≡ Some last → (earlier : List Dot) × (ds ≡ earlier ++ last ∷ [])
ends_at [] last n long is = absurd (omega arith)
ends_at (d ∷ []) last zero long is = ([], (let same : d ≡ last = cc in ap (λ e. e ∷ []) same))
ends_at (d ∷ []) last (suc n) long is = absurd (omega arith)
ends_at (d ∷ e ∷ ds) last zero long is = absurd (omega arith)
ends_at (d ∷ e ∷ ds) last (suc n) long is = (let again = ends_at (e ∷ ds) last n (omega arith) is in (d ∷ again.0, ap (λ es. d ∷ es) again.1))

pub ends_with : (ds : List Dot) (last : Dot) → slice_get ds (length ds - 1) ≡ Some last → (earlier : List Dot) × (ds ≡ earlier ++ last ∷ [])
ends_with ds last is = ends_at ds last (length ds - 1) (let within = slice_get_within ds (length ds - 1) last is in omega arith) is

pub is_empty : (ds : List Dot) → slice_get ds (length ds - 1) ≡ None → length ds ≡ 0
is_empty [] is = refl
is_empty (d ∷ ds) is = (let e = slice_get-get_or (d ∷ ds) (length (d ∷ ds) - 1) d (omega arith) in let none : ⊥ = cc in absurd none)

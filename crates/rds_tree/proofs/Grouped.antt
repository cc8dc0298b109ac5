-- Members by key, where those of one key change.
use Rattle.std.proofs.Common.{◌≡◌, Bool, true, false, cond, not, ◌&&◌, ◌||◌, List, [], ◌∷◌, ◌++◌, map, refl, sym, ◌∙◌}
use Rattle.std.proofs.Common.{ap, subst}
use Rattle.std.proofs.Math.Bool.{and-true, or-false, or_comm, or_assoc}
use Rattle.std.specs.Prelude.{Some, None, Result, Ok, Err, OnOk, OnErr, filter}
use Rattle.std.specs.List.{list_any, AllByRecursion}
use Rattle.std.specs.List.Sorted.{IsStrictlySortedBy}
use Rattle.std.specs.Ordering.{is_eq, match_ordering}
use Rattle.std.specs.declared.cmp.Ordering.{Ordering}
use Rattle.std.specs.declared.cmp.Ordering.TheVariants.{Less, Equal, Greater}
use Rattle.std.specs.Map.{lookup, set_value, remove_entry}
use Rattle.std.specs.Map.Calls.{RetainsPairs}
use Rattle.std.specs.BTreeMap.{insert_entry}
use Rattle.std.specs.FinMap as map_of
use Rattle.std.proofs.lemmas.List.Folds.{list_any-append}
use Rattle.rds_names.specs.Conditions.{and_true, and_left, and_right, equal_of}
use Rattle.rds_tree.specs.Held.{any_held}
use Rattle.rds_tree.specs.Row.{is_filled, are_full}

pub over : (a b c : Bool) → (a || (b || c)) ≡ (b || (a || c))
over true true c = refl
over true false c = refl
over false b c = refl

same_some : {A : Type 0} (a b : A) → Some a ≡ Some b → a ≡ b
same_some a b h = cc

-- ---- lists

pub any-filter : {X : Type 0} (t p : X → Bool) (xs : List X) → list_any t (filter p xs) ≡ list_any (λ x. t x && p x) xs
any-filter t p [] = refl
any-filter t p (x ∷ xs) = elim (p x) as (λ b. list_any t (cond b (x ∷ filter p xs) (filter p xs)) ≡ ((t x && b) || list_any (λ x. t x && p x) xs)) [
  | true ↦ ap (λ b. t x || b) (any-filter t p xs) ∙ sym (ap (λ b. b || list_any (λ x. t x && p x) xs) (and-true (t x)))
  | false ↦ any-filter t p xs ∙ falls (t x) _
]
  where
    falls : (a b : Bool) → b ≡ ((a && false) || b)
    falls true b = refl
    falls false b = refl

pub any-push : {X : Type 0} (t : X → Bool) (xs : List X) (x : X) → list_any t (xs ++ x ∷ []) ≡ (t x || list_any t xs)
any-push t xs x = list_any-append t xs (x ∷ []) ∙ ap (λ b. list_any t xs || b) (or-false (t x)) ∙ or_comm (list_any t xs) (t x)

any_none : {X : Type 0} (xs : List X) → list_any (λ x. false) xs ≡ false
any_none [] = refl
any_none (x ∷ xs) = any_none xs

full-push : {X : Type 0} (xs : List X) (x : X) → is_filled (xs ++ x ∷ []) ≡ true
full-push [] x = refl
full-push (y ∷ xs) x = refl

-- ---- by key

module _ {K X : Type 0} where
  pub none_held : (cs : List (K × List X)) → any_held (λ k x. false) cs ≡ false
  none_held [] = refl
  none_held (c ∷ cs) = ap (λ b. b || any_held (λ k x. false) cs) (any_none c.1) ∙ none_held cs

  module _ (t : K → Bool) where
    pub full-set_value : (xs : List X) (cs : List (K × List X)) → is_filled xs ≡ true → are_full cs ≡ true → are_full (set_value t cs xs) ≡ true
    full-set_value xs [] one all = refl
    full-set_value xs (c ∷ cs) one all =
        elim (t c.0) as (λ b. are_full (cond b ((c.0, xs) ∷ cs) (c ∷ set_value t cs xs)) ≡ true) [
          | true ↦ and_true _ _ one (and_right (is_filled c.1) _ all)
          | false ↦ and_true _ _ (and_left (is_filled c.1) _ all) (full-set_value xs cs one (and_right (is_filled c.1) _ all))
        ]

    pub full-removed : (xs : List X) (cs : List (K × List X)) → are_full cs ≡ true → are_full (remove_entry t (set_value t cs xs)) ≡ true
    full-removed xs [] all = refl
    full-removed xs (c ∷ cs) all =
        elim (t c.0) as (λ b. t c.0 ≡ b → are_full (remove_entry t (cond b ((c.0, xs) ∷ cs) (c ∷ set_value t cs xs))) ≡ true) [
          | true ↦ λ e. rw e (and_right (is_filled c.1) _ all)
          | false ↦ λ e. rw e (and_true _ _ (and_left (is_filled c.1) _ all) (full-removed xs cs (and_right (is_filled c.1) _ all)))
        ] refl

    pub found_full : (old : List X) (cs : List (K × List X)) → are_full cs ≡ true → lookup t cs ≡ Some old → is_filled old ≡ true
    found_full old [] all here = absurd (cc)
    found_full old (c ∷ cs) all here =
        elim (t c.0) as (λ b. cond b (Some c.1) (lookup t cs) ≡ Some old → is_filled old ≡ true) [
          | true ↦ λ h. ap is_filled (sym (same_some c.1 old h)) ∙ and_left (is_filled c.1) _ all
          | false ↦ λ h. found_full old cs (and_right (is_filled c.1) _ all) h
        ] here

    -- what is written back unchanged changes nothing
    pub set_value-same : (old : List X) (cs : List (K × List X)) → lookup t cs ≡ Some old → set_value t cs old ≡ cs
    set_value-same old [] here = refl
    set_value-same old (c ∷ cs) here =
        elim (t c.0) as (λ b. cond b (Some c.1) (lookup t cs) ≡ Some old → cond b ((c.0, old) ∷ cs) (c ∷ set_value t cs old) ≡ c ∷ cs) [
          | true ↦ λ h. ap (λ xs. (c.0, xs) ∷ cs) (sym (same_some c.1 old h))
          | false ↦ λ h. ap (λ ds. c ∷ ds) (set_value-same old cs h)
        ] here

    pub full-pushed : {A E : Type 0} (r : Result A E) (x : X) (old new : List X) (cs ds : List (K × List X)) → OnOk r (new ≡ old ++ x ∷ []) → OnErr r (new ≡ old) → are_full cs ≡ true → lookup t cs ≡ Some old → ds ≡ set_value t cs new → are_full ds ≡ true
    full-pushed (Ok y) x old new cs ds ok err all here is = ap are_full is ∙ full-set_value new cs (ap is_filled ok ∙ full-push old x) all
    full-pushed (Err e) x old new cs ds ok err all here is = ap are_full is ∙ full-set_value new cs (ap is_filled err ∙ found_full old cs all here) all

    -- a key without members may be taken away
    pub any-removed : (s : K → X → Bool) (cs : List (K × List X)) → any_held s (remove_entry t (set_value t cs [])) ≡ any_held s (set_value t cs [])
    any-removed s [] = refl
    any-removed s (c ∷ cs) =
        elim (t c.0) as (λ b. t c.0 ≡ b → any_held s (remove_entry t (cond b ((c.0, []) ∷ cs) (c ∷ set_value t cs []))) ≡ any_held s (cond b ((c.0, []) ∷ cs) (c ∷ set_value t cs []))) [
          | true ↦ λ e. rw e refl
          | false ↦ λ e. rw e (ap (λ b. list_any (s c.0) c.1 || b) (any-removed s cs))
        ] refl

  -- where a closure leaves out members at each key, and keys without
  pub any-retained : {F : Type 0} (T : F → K → List X → Bool → List X → F → Type 0) (p : X → Bool) (f : F) → ((k : K) (v : List X) (b : Bool) (w : List X) (f' : F) → T f k v b w f' → (w ≡ filter p v) × ((b ≡ is_filled w) × (f' ≡ f))) → (es kept : List (K × List X)) → RetainsPairs T f es kept
      → (s : K → X → Bool) → any_held s kept ≡ any_held (λ k x. s k x && p x) es
  any-retained T p f h [] kept r s = ap (any_held s) r
  any-retained T p f h (e ∷ es) kept r s =
      let a = h e.0 e.1 r.0 r.1 r.2 r.4 in
      let rest = any-retained T p f h es r.3 (subst (λ u. RetainsPairs T u es r.3) a.1.1 r.5) s in
      ap (any_held s) r.6 ∙ whole r.0 r.1 a.1.0 r.3 ∙ ap (λ b. list_any (s e.0) r.1 || b) rest ∙ ap (λ b. b || any_held (λ k x. s k x && p x) es) (ap (list_any (s e.0)) a.0 ∙ any-filter (s e.0) p e.1)
    where
      whole : (b : Bool) (w : List X) → b ≡ is_filled w → (rest : List (K × List X)) → any_held s (cond b ((e.0, w) ∷ rest) rest) ≡ (list_any (s e.0) w || any_held s rest)
      whole b [] is rest = ap (λ c. any_held s (cond c ((e.0, []) ∷ rest) rest)) is
      whole b (x ∷ w) is rest = ap (λ c. any_held s (cond c ((e.0, x ∷ w) ∷ rest) rest)) is

  pub full-retained : {F : Type 0} (T : F → K → List X → Bool → List X → F → Type 0) (p : X → Bool) (f : F) → ((k : K) (v : List X) (b : Bool) (w : List X) (f' : F) → T f k v b w f' → (w ≡ filter p v) × ((b ≡ is_filled w) × (f' ≡ f))) → (es kept : List (K × List X)) → RetainsPairs T f es kept → are_full kept ≡ true
  full-retained T p f h [] kept r = ap are_full r
  full-retained T p f h (e ∷ es) kept r =
      let a = h e.0 e.1 r.0 r.1 r.2 r.4 in
      ap are_full r.6 ∙ whole r.0 r.1 a.1.0 r.3 (full-retained T p f h es r.3 (subst (λ u. RetainsPairs T u es r.3) a.1.1 r.5))
    where
      whole : (b : Bool) (w : List X) → b ≡ is_filled w → (rest : List (K × List X)) → are_full rest ≡ true → are_full (cond b ((e.0, w) ∷ rest) rest) ≡ true
      whole b [] is rest all = ap (λ c. are_full (cond c ((e.0, []) ∷ rest) rest)) is ∙ all
      whole b (x ∷ w) is rest all = ap (λ c. are_full (cond c ((e.0, x ∷ w) ∷ rest) rest)) is ∙ all

pub full-inserted : {K X : Type 0} (R : K → K → Ordering) (k : K) (xs : List X) (cs : List (K × List X)) → is_filled xs ≡ true → are_full cs ≡ true → are_full (insert_entry R cs k xs) ≡ true
full-inserted R k xs [] one all = and_true _ _ one refl
full-inserted R k xs (c ∷ cs) one all =
    elim (R k c.0) as (λ o. are_full (match_ordering o ((k, xs) ∷ c ∷ cs) ((c.0, xs) ∷ cs) (c ∷ insert_entry R cs k xs)) ≡ true) [
      | Less ↦ and_true _ _ one all
      | Equal ↦ and_true _ _ one (and_right (is_filled c.1) _ all)
      | Greater ↦ and_true _ _ (and_left (is_filled c.1) _ all) (full-inserted R k xs cs one (and_right (is_filled c.1) _ all))
    ]

module _ {K : Type 0} {R : K → K → Ordering} (exact : map_of.IsAntisymmetric R) (k : K) where
  abbrev at : K → Bool
  at q = is_eq (R k q)

  is_key : (q : K) → at q ≡ true → k ≡ q
  is_key q h = exact k q (equal_of _ h)

  module _ {X : Type 0} where
    -- ---- a key that grows

    pub any-grown : (t : K → X → Bool) (x : X) (old : List X) (cs : List (K × List X)) → lookup at cs ≡ Some old → any_held t (set_value at cs (old ++ x ∷ [])) ≡ (t k x || any_held t cs)
    any-grown t x old [] here = absurd (cc)
    any-grown t x old (c ∷ cs) here =
        elim (at c.0) as (λ b. at c.0 ≡ b → cond b (Some c.1) (lookup at cs) ≡ Some old → any_held t (cond b ((c.0, old ++ x ∷ []) ∷ cs) (c ∷ set_value at cs (old ++ x ∷ []))) ≡ (t k x || (list_any (t c.0) c.1 || any_held t cs))) [
          | true ↦ λ e h.
              ap (λ b. b || any_held t cs) (any-push (t c.0) old x) ∙ or_assoc (t c.0 x) _ _
              ∙ ap (λ q. t q x || (list_any (t c.0) old || any_held t cs)) (sym (is_key c.0 e))
              ∙ ap (λ xs. t k x || (list_any (t c.0) xs || any_held t cs)) (sym (same_some c.1 old h))
          | false ↦ λ e h. ap (λ b. list_any (t c.0) c.1 || b) (any-grown t x old cs h) ∙ over (list_any (t c.0) c.1) (t k x) _
        ] refl here

    pub any-inserted : (t : K → X → Bool) (x : X) (cs : List (K × List X)) → lookup at cs ≡ None → any_held t (insert_entry R cs k (x ∷ [])) ≡ (t k x || any_held t cs)
    any-inserted t x [] none = ap (λ b. b || false) (or-false (t k x))
    any-inserted t x (c ∷ cs) none =
        elim (R k c.0) as (λ o. R k c.0 ≡ o → cond (is_eq o) (Some c.1) (lookup at cs) ≡ None → any_held t (match_ordering o ((k, x ∷ []) ∷ c ∷ cs) ((c.0, x ∷ []) ∷ cs) (c ∷ insert_entry R cs k (x ∷ []))) ≡ (t k x || (list_any (t c.0) c.1 || any_held t cs))) [
          | Less ↦ λ e h. ap (λ b. b || (list_any (t c.0) c.1 || any_held t cs)) (or-false (t k x))
          | Equal ↦ λ e h. absurd (cc)
          | Greater ↦ λ e h. ap (λ b. list_any (t c.0) c.1 || b) (any-inserted t x cs h) ∙ over (list_any (t c.0) c.1) (t k x) _
        ] refl none

    -- ---- the other keys

    abbrev AreOthers : List (K × List X) → Type 0
    AreOthers cs = AllByRecursion (λ q. at q ≡ false) (map (λ c. c.0) cs)

    others_above : (q : K) (cs : List (K × List X)) → k ≡ q → AllByRecursion (λ y. R q y ≡ Less) (map (λ c. c.0) cs) → AreOthers cs
    others_above q [] is h = tt
    others_above q (c ∷ cs) is h = (ap (λ z. is_eq (R z c.0)) is ∙ ap is_eq h.0, others_above q cs is h.1)

    others_none : (cs : List (K × List X)) → lookup at cs ≡ None → AreOthers cs
    others_none [] none = tt
    others_none (c ∷ cs) none =
        elim (at c.0) as (λ b. at c.0 ≡ b → cond b (Some c.1) (lookup at cs) ≡ None → AreOthers (c ∷ cs)) [
          | true ↦ λ e h. absurd (cc)
          | false ↦ λ e h. (e, others_none cs h)
        ] refl none

    -- ---- a key of which members go

    module _ (m : X → Bool) (t : K → X → Bool) where
      abbrev stays : K → X → Bool
      stays q x = t q x && not (at q && m x)

      untouched_one : (c : K × List X) → at c.0 ≡ false → list_any (stays c.0) c.1 ≡ list_any (t c.0) c.1
      untouched_one c e = (λ i. list_any (λ x. t c.0 x && not (e i && m x)) c.1) ∙ (λ i. list_any (λ x. and-true (t c.0 x) i) c.1)

      untouched : (cs : List (K × List X)) → AreOthers cs → any_held stays cs ≡ any_held t cs
      untouched [] h = refl
      untouched (c ∷ cs) h = ap (λ b. b || any_held stays cs) (untouched_one c h.0) ∙ ap (λ b. list_any (t c.0) c.1 || b) (untouched cs h.1)

      pub cut_none : (cs : List (K × List X)) → lookup at cs ≡ None → any_held t cs ≡ any_held stays cs
      cut_none cs none = sym (untouched cs (others_none cs none))

      pub cut_some : (old : List X) (cs : List (K × List X)) → IsStrictlySortedBy R (map (λ c. c.0) cs) → lookup at cs ≡ Some old → any_held t (set_value at cs (filter (λ x. not (m x)) old)) ≡ any_held stays cs
      unfolding IsStrictlySortedBy
      cut_some old [] rise here = refl
      cut_some old (c ∷ cs) rise here =
          elim (at c.0) as (λ b. at c.0 ≡ b → cond b (Some c.1) (lookup at cs) ≡ Some old → any_held t (cond b ((c.0, filter (λ x. not (m x)) old) ∷ cs) (c ∷ set_value at cs (filter (λ x. not (m x)) old))) ≡ (list_any (stays c.0) c.1 || any_held stays cs)) [
            | true ↦ λ e h.
                ap (λ b. b || any_held t cs) (any-filter (t c.0) (λ x. not (m x)) old ∙ ap (list_any (λ x. t c.0 x && not (m x))) (sym (same_some c.1 old h)) ∙ sym (λ i. list_any (λ x. t c.0 x && not (e i && m x)) c.1))
                ∙ ap (λ b. list_any (stays c.0) c.1 || b) (sym (untouched cs (others_above c.0 cs (is_key c.0 e) rise.0)))
            | false ↦ λ e h. ap (λ b. b || any_held t (set_value at cs (filter (λ x. not (m x)) old))) (sym (untouched_one c e)) ∙ ap (λ b. list_any (stays c.0) c.1 || b) (cut_some old cs rise.1 h)
          ] refl here

    -- ---- what one key has

    module _ (s : X → Bool) where
      abbrev hits : K → X → Bool
      hits q x = at q && s x

      missed : (c : K × List X) → at c.0 ≡ false → list_any (hits c.0) c.1 ≡ false
      missed c e = (λ i. list_any (λ x. e i && s x) c.1) ∙ any_none c.1

      all_missed : (cs : List (K × List X)) → AreOthers cs → any_held hits cs ≡ false
      all_missed [] h = refl
      all_missed (c ∷ cs) h = ap (λ b. b || any_held hits cs) (missed c h.0) ∙ all_missed cs h.1

      pub found_none : (cs : List (K × List X)) → lookup at cs ≡ None → any_held hits cs ≡ false
      found_none cs none = all_missed cs (others_none cs none)

      pub found_some : (old : List X) (cs : List (K × List X)) → IsStrictlySortedBy R (map (λ c. c.0) cs) → lookup at cs ≡ Some old → list_any s old ≡ any_held hits cs
      unfolding IsStrictlySortedBy
      found_some old [] rise here = absurd (cc)
      found_some old (c ∷ cs) rise here =
          elim (at c.0) as (λ b. at c.0 ≡ b → cond b (Some c.1) (lookup at cs) ≡ Some old → list_any s old ≡ (list_any (hits c.0) c.1 || any_held hits cs)) [
            | true ↦ λ e h.
                ap (list_any s) (sym (same_some c.1 old h)) ∙ sym (λ i. list_any (λ x. e i && s x) c.1) ∙ sym (or-false (list_any (hits c.0) c.1))
                ∙ ap (λ b. list_any (hits c.0) c.1 || b) (sym (all_missed cs (others_above c.0 cs (is_key c.0 e) rise.0)))
            | false ↦ λ e h. found_some old cs rise.1 h ∙ ap (λ b. b || any_held hits cs) (sym (missed c e))
          ] refl here

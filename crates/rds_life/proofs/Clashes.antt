-- Looking for a clash through two lists of rows.
use Rattle.std.proofs.Common.{◌≡◌, ◌⊎◌, inl, inr, true, false, cond, List, ◌∷◌, Option, Some, None, refl, sym, ◌∙◌, ap}
use Rattle.std.proofs.Common.{subst}
use Rattle.std.specs.Ordering.{eq_by_cmp, is_eq, is_lt}
use Rattle.std.specs.List.{list_all}
use Rattle.std.specs.FinMap.{find}
use Rattle.std.specs.declared.cmp.Ordering.TheVariants.{Less, Equal, Greater}
use Rattle.std.specs.Cmp.{tied_itself}
use Rattle.rds_dots.specs.declared.dot.Dot.{Dot}
use Rattle.rds_dots.specs.Dots.{dot_cmp}
use Rattle.rds_dots.specs.Ascending.{is_above, ascends}
use Rattle.rds_dots.specs.Order.{dots_total, dots_exact, after_before}
use Rattle.rds_dots.specs.Merges.{less_is_above, above_trans}
use Rattle.rds_names.specs.Conditions.{and_true, and_left, and_right, less_of}
use Rattle.rds_dots.specs.Sets.{tied_dots_are_one}
use Rattle.rds_life.specs.Life.{keys}
use Rattle.rds_life.specs.Clash.{SameIfBoth, IsFirstClash}
use Rattle.rds_life.proofs.RowLemmas.{find_above}

-- how far a search has come: xs and ys are left of a and b, and what is past is the same
pub record IsPast {X : Type 0} (a b xs ys : List (Dot × X)) : Type 0 where
  pub rise_xs : ascends (keys xs) ≡ true
  pub rise_ys : ascends (keys ys) ≡ true
  pub from_a : (d : Dot) (e : X) → find dot_cmp d xs ≡ Some e → find dot_cmp d a ≡ Some e
  pub from_b : (d : Dot) (e : X) → find dot_cmp d ys ≡ Some e → find dot_cmp d b ≡ Some e
  pub each_dot : (d : Dot) → SameIfBoth (find dot_cmp d a) (find dot_cmp d b) ⊎ ((find dot_cmp d xs ≡ find dot_cmp d a) × (find dot_cmp d ys ≡ find dot_cmp d b))

module _ {X : Type 0} where
  pub none_right : (e : Option X) → SameIfBoth e None
  none_right None = tt
  none_right (Some e) = tt

  by_left : (e f : Option X) → e ≡ None → SameIfBoth e f
  by_left e f h = subst (λ o. SameIfBoth o f) (sym h) tt

  pub by_right : (e f : Option X) → f ≡ None → SameIfBoth e f
  by_right e f h = subst (λ o. SameIfBoth e o) (sym h) (none_right e)

  not_none : (e : X) → ¬ (None ≡ Some e)
  not_none e h = cc

  -- what is found behind the first row is found
  behind : (x : Dot × X) (xs : List (Dot × X)) → ascends (keys (x ∷ xs)) ≡ true → (d : Dot) (e : X) → find dot_cmp d xs ≡ Some e → find dot_cmp d (x ∷ xs) ≡ Some e
  behind x xs rise d e h = elim (eq_by_cmp dot_cmp d x.0) as (λ t. eq_by_cmp dot_cmp d x.0 ≡ t → cond t (Some x.1) (find dot_cmp d xs) ≡ Some e) [
    | true ↦ λ is. absurd (not_none e (sym (ap (λ q. find dot_cmp q xs) (tied_dots_are_one d x.0 is) ∙ find_above x.0 xs (and_left _ (ascends (keys xs)) rise)) ∙ h))
    | false ↦ λ _. h
  ] refl

  -- the right's rows all come after x
  after : (x y : Dot × X) (ys : List (Dot × X)) → dot_cmp x.0 y.0 ≡ Less → ascends (keys (y ∷ ys)) ≡ true → find dot_cmp x.0 (y ∷ ys) ≡ None
  after x y ys less rise = find_above x.0 (y ∷ ys) (and_true _ _ (less_is_above x.0 y.0 less) (above_trans x.0 y.0 less (keys ys) (and_left _ (ascends (keys ys)) rise)))

  pub past_left : (a b : List (Dot × X)) (x y : Dot × X) (xs ys : List (Dot × X)) → dot_cmp x.0 y.0 ≡ Less → IsPast a b (x ∷ xs) (y ∷ ys) → IsPast a b xs (y ∷ ys)
  past_left a b x y xs ys less past = record {
    rise_xs = and_right (list_all (is_above x.0) (keys xs)) _ past.rise_xs;
    rise_ys = past.rise_ys;
    from_a = λ d e h. past.from_a d e (behind x xs past.rise_xs d e h);
    from_b = past.from_b;
    each_dot = λ d. elim (past.each_dot d) [
      | inl same ↦ inl same
      | inr both ↦ elim (eq_by_cmp dot_cmp d x.0) as (λ t. eq_by_cmp dot_cmp d x.0 ≡ t → cond t (Some x.1) (find dot_cmp d xs) ≡ find dot_cmp d a → SameIfBoth (find dot_cmp d a) (find dot_cmp d b) ⊎ ((find dot_cmp d xs ≡ find dot_cmp d a) × (find dot_cmp d (y ∷ ys) ≡ find dot_cmp d b))) [
        | true ↦ λ is _. inl (by_right _ _ (sym both.1 ∙ ap (λ q. find dot_cmp q (y ∷ ys)) (tied_dots_are_one d x.0 is) ∙ after x y ys less past.rise_ys))
        | false ↦ λ _ e. inr (e, both.1)
      ] refl both.0
    ];
  }

  pub past_right : (a b : List (Dot × X)) (x y : Dot × X) (xs ys : List (Dot × X)) → dot_cmp x.0 y.0 ≡ Greater → IsPast a b (x ∷ xs) (y ∷ ys) → IsPast a b (x ∷ xs) ys
  past_right a b x y xs ys more past = record {
    rise_xs = past.rise_xs;
    rise_ys = and_right (list_all (is_above y.0) (keys ys)) _ past.rise_ys;
    from_a = past.from_a;
    from_b = λ d e h. past.from_b d e (behind y ys past.rise_ys d e h);
    each_dot = λ d. elim (past.each_dot d) [
      | inl same ↦ inl same
      | inr both ↦ elim (eq_by_cmp dot_cmp d y.0) as (λ t. eq_by_cmp dot_cmp d y.0 ≡ t → cond t (Some y.1) (find dot_cmp d ys) ≡ find dot_cmp d b → SameIfBoth (find dot_cmp d a) (find dot_cmp d b) ⊎ ((find dot_cmp d (x ∷ xs) ≡ find dot_cmp d a) × (find dot_cmp d ys ≡ find dot_cmp d b))) [
        | true ↦ λ is _. inl (by_left _ _ (sym both.0 ∙ ap (λ q. find dot_cmp q (x ∷ xs)) (tied_dots_are_one d y.0 is) ∙ after y x xs (after_before x.0 y.0 more) past.rise_xs))
        | false ↦ λ _ e. inr (both.0, e)
      ] refl both.1
    ];
  }

  pub past_both : (a b : List (Dot × X)) (x y : Dot × X) (xs ys : List (Dot × X)) → dot_cmp x.0 y.0 ≡ Equal → x.1 ≡ y.1 → IsPast a b (x ∷ xs) (y ∷ ys) → IsPast a b xs ys
  past_both a b x y xs ys tied same past = record {
    rise_xs = and_right (list_all (is_above x.0) (keys xs)) _ past.rise_xs;
    rise_ys = and_right (list_all (is_above y.0) (keys ys)) _ past.rise_ys;
    from_a = λ d e h. past.from_a d e (behind x xs past.rise_xs d e h);
    from_b = λ d e h. past.from_b d e (behind y ys past.rise_ys d e h);
    each_dot = λ d. elim (past.each_dot d) [
      | inl one ↦ inl one
      | inr both ↦
          let tests : eq_by_cmp dot_cmp d x.0 ≡ eq_by_cmp dot_cmp d y.0 = ap (eq_by_cmp dot_cmp d) (dots_exact x.0 y.0 tied) in
          elim (eq_by_cmp dot_cmp d x.0) as (λ t. t ≡ eq_by_cmp dot_cmp d y.0 → cond t (Some x.1) (find dot_cmp d xs) ≡ find dot_cmp d a → SameIfBoth (find dot_cmp d a) (find dot_cmp d b) ⊎ ((find dot_cmp d xs ≡ find dot_cmp d a) × (find dot_cmp d ys ≡ find dot_cmp d b))) [
            | true ↦ λ t e. inl (subst (λ o. SameIfBoth o (find dot_cmp d b)) e (subst (SameIfBoth (Some x.1)) (ap (λ u. cond u (Some y.1) (find dot_cmp d ys)) t ∙ both.1) same))
            | false ↦ λ t e. inr (e, ap (λ u. cond u (Some y.1) (find dot_cmp d ys)) t ∙ both.1)
          ] tests both.0
    ];
  }

  -- a dot with different entries is the first
  before_none : (q : Dot) (x : Dot × X) (xs : List (Dot × X)) → dot_cmp q x.0 ≡ Less → list_all (is_above x.0) (keys xs) ≡ true → find dot_cmp q (x ∷ xs) ≡ None
  before_none q x xs less all = find_above q (x ∷ xs) (and_true _ _ (less_is_above q x.0 less) (above_trans q x.0 less (keys xs) all))

  clash_first : (a b : List (Dot × X)) (x y : Dot × X) (xs ys : List (Dot × X)) → IsPast a b (x ∷ xs) (y ∷ ys) → (q : Dot) → is_lt (dot_cmp q x.0) ≡ true → SameIfBoth (find dot_cmp q a) (find dot_cmp q b)
  clash_first a b x y xs ys past q lt = elim (past.each_dot q) [
    | inl same ↦ same
    | inr both ↦ by_left _ _ (sym both.0 ∙ before_none q x xs (less_of (dot_cmp q x.0) lt) (and_left _ (ascends (keys xs)) past.rise_xs))
  ]

  clash_here : (a b : List (Dot × X)) (x y : Dot × X) (xs ys : List (Dot × X)) → dot_cmp x.0 y.0 ≡ Equal → ¬ (x.1 ≡ y.1) → IsPast a b (x ∷ xs) (y ∷ ys) → ¬ (SameIfBoth (find dot_cmp x.0 a) (find dot_cmp x.0 b))
  clash_here a b x y xs ys tied differ past same =
      let left = past.from_a x.0 x.1 (ap (λ o. cond (is_eq o) (Some x.1) (find dot_cmp x.0 xs)) (tied_itself dots_total x.0)) in
      let right = past.from_b x.0 y.1 (ap (λ o. cond (is_eq o) (Some y.1) (find dot_cmp x.0 ys)) tied) in
      differ (subst (SameIfBoth (Some x.1)) right (subst (λ o. SameIfBoth o (find dot_cmp x.0 b)) left same))

  module _ (a b l r : List (Dot × X)) (x y : Dot × X) (xs ys : List (Dot × X)) (el : l ≡ x ∷ xs) (er : r ≡ y ∷ ys) (past : IsPast a b l r) where
    there : IsPast a b (x ∷ xs) (y ∷ ys)
    there = subst (λ k. IsPast a b k (y ∷ ys)) el (subst (IsPast a b l) er past)

    pub step_left : dot_cmp x.0 y.0 ≡ Less → IsPast a b xs r
    step_left less = subst (IsPast a b xs) (sym er) (past_left a b x y xs ys less there)

    pub step_right : dot_cmp x.0 y.0 ≡ Greater → IsPast a b l ys
    step_right more = subst (λ k. IsPast a b k ys) (sym el) (past_right a b x y xs ys more there)

    pub step_both : dot_cmp x.0 y.0 ≡ Equal → x.1 ≡ y.1 → IsPast a b xs ys
    step_both tied same = past_both a b x y xs ys tied same there

    pub step_clash : dot_cmp x.0 y.0 ≡ Equal → ¬ (x.1 ≡ y.1) → IsFirstClash a b x.0
    step_clash tied differ = record { here = clash_here a b x y xs ys tied differ there; first = clash_first a b x y xs ys there }

-- A run put into a rising list of dots.
use Rattle.std.proofs.Common.{◌≡◌, ℕ, suc, zero, ◌+◌, ◌-◌, ◌<◌, ◌≤◌, Bool, true, false, not, ◌&&◌, ◌||◌, ◌==◌, List, []}
use Rattle.std.proofs.Common.{◌∷◌, ◌++◌, length, refl, sym, ◌∙◌, ap, arith, eqb, leb}
use mathlib.Core.Bool.{false≢true}
use Rattle.std.proofs.Math.Bool.{or_comm}
use Rattle.std.specs.List.{list_all}
use Rattle.std.specs.Ordering.{eq_by_cmp, is_lt, nat_cmp, ordering_then}
use Rattle.std.specs.FinSet as set
use Rattle.std.proofs.lemmas.List.Folds.{list_any-append, list_all-append}
use Rattle.std.proofs.lemmas.Bool.Decides.{nat_tests}
use Rattle.rds_dots.specs.declared.dot.Dot.{Dot}
use Rattle.rds_dots.specs.declared.dot.Run.{Run}
use Rattle.rds_dots.specs.Dots.{dot_cmp, is_dot, in_run, IsRun}
use Rattle.rds_dots.specs.Ascending.{is_above, ascends}
use Rattle.rds_dots.specs.Listed.{lists, dots_from, dots_of}
use Rattle.rds_names.specs.Conditions.{and_left, and_right, and_true}
use Rattle.rds_dots.specs.Sets.{all_listed, contains_list, lists-run, ascends-run, all-run}
use Rattle.rds_dots.proofs.Parts.{all_front, all_back, front_rises, back_rises}

-- the dot before a run's first, and its last
abbrev before : Run → Dot
before r = record { replica = r.replica; seq = r.lo - 1 }

abbrev last : Run → Dot
last r = record { replica = r.replica; seq = r.hi }

-- what lies in order at a cut is in order
crosses : (a s p l b t : ℕ) → not (is_lt (ordering_then (nat_cmp p a) (nat_cmp l s))) ≡ true → is_lt (ordering_then (nat_cmp p b) (nat_cmp l t)) ≡ true → is_lt (ordering_then (nat_cmp a b) (nat_cmp s t)) ≡ true
crosses a s p l b t h k = grind (arith, nat_tests)

cross_all : (cut d : Dot) → not (is_above cut d) ≡ true → (es : List Dot) → list_all (is_above cut) es ≡ true → list_all (is_above d) es ≡ true
cross_all cut d h [] all = refl
cross_all cut d h (e ∷ es) all =
    and_true _ _ (crosses d.replica d.seq cut.replica cut.seq e.replica e.seq h (and_left (is_above cut e) _ all)) (cross_all cut d h es (and_right (is_above cut e) _ all))

joined_rise : (cut : Dot) (ds es : List Dot) → ascends ds ≡ true → ascends es ≡ true → list_all (λ d. not (is_above cut d)) ds ≡ true → list_all (is_above cut) es ≡ true → ascends (ds ++ es) ≡ true
joined_rise cut [] es p q h k = q
joined_rise cut (d ∷ ds) es p q h k =
    and_true _ _ (list_all-append (is_above d) ds es ∙ and_true _ _ (and_left _ (ascends ds) p) (cross_all cut d (and_left (not (is_above cut d)) _ h) es k)) (joined_rise cut ds es (and_right (list_all (is_above d) ds) _ p) q (and_right (not (is_above cut d)) _ h) k)

-- what the dots of a run are to the dot before it and to its last
run_later : (r : Run) → IsRun r → list_all (is_above (before r)) (dots_of r) ≡ true
run_later r is = each_from r.replica (r.lo - 1) r.lo (r.hi + 1 - r.lo) (let one = is.from_one in omega arith)
  where
    past : (a p q : ℕ) → p < q → is_lt (ordering_then (nat_cmp a a) (nat_cmp p q)) ≡ true
    past a p q lt = grind (arith, nat_tests)

    each_from : (a p lo n : ℕ) → p < lo → (let cut : Dot = record { replica = a; seq = p } in list_all (is_above cut) (dots_from a lo n)) ≡ true
    each_from a p lo zero lt = refl
    each_from a p lo (suc n) lt = and_true _ _ (past a p lo lt) (each_from a p (lo + 1) n (omega arith))

run_upto : (r : Run) → IsRun r → list_all (λ d. not (is_above (last r) d)) (dots_of r) ≡ true
run_upto r is = each_from r.replica r.hi r.lo (r.hi + 1 - r.lo) (let rises = is.rises in omega arith)
  where
    not_past : (a p q : ℕ) → q ≤ p → not (is_lt (ordering_then (nat_cmp a a) (nat_cmp p q))) ≡ true
    not_past a p q le = grind (arith, nat_tests)

    each_from : (a p lo n : ℕ) → lo + n ≤ p + 1 → (let cut : Dot = record { replica = a; seq = p } in list_all (λ d. not (is_above cut d)) (dots_from a lo n)) ≡ true
    each_from a p lo zero le = refl
    each_from a p lo (suc n) le = and_true _ _ (not_past a p lo (omega arith)) (each_from a p (lo + 1) n (omega arith))

earlier_upto : (r : Run) → IsRun r → (ds : List Dot) → list_all (λ d. not (is_above (before r) d)) ds ≡ true → list_all (λ d. not (is_above (last r) d)) ds ≡ true
earlier_upto r is [] all = refl
earlier_upto r is (d ∷ ds) all =
    and_true _ _ (weaker r.replica (r.lo - 1) r.hi d.replica d.seq (let rises = is.rises in omega arith) (and_left (not (is_above (before r) d)) _ all)) (earlier_upto r is ds (and_right (not (is_above (before r) d)) _ all))
  where
    weaker : (a p q b t : ℕ) → p ≤ q → not (is_lt (ordering_then (nat_cmp a b) (nat_cmp p t))) ≡ true → not (is_lt (ordering_then (nat_cmp a b) (nat_cmp q t))) ≡ true
    weaker a p q b t le h = grind (arith, nat_tests)

-- a run behind the dots before it
module _ (ds : List Dot) (r : Run) (is : IsRun r) (upto : list_all (λ d. not (is_above (before r) d)) ds ≡ true) where
  pub put_rises : ascends ds ≡ true → ascends (ds ++ dots_of r) ≡ true
  put_rises rise = joined_rise (before r) ds (dots_of r) rise (ascends-run r is) upto (run_later r is)

  pub put_all : list_all is_dot ds ≡ true → r.replica ≤ 255 → list_all is_dot (ds ++ dots_of r) ≡ true
  put_all all small = list_all-append is_dot ds (dots_of r) ∙ and_true _ _ all (all-run r is small)

  lists-put : (d : Dot) → lists (ds ++ dots_of r) d ≡ (in_run r d || lists ds d)
  lists-put d = list_any-append (eq_by_cmp dot_cmp d) ds (dots_of r) ∙ ap (λ b. lists ds d || b) (lists-run r is d) ∙ or_comm (lists ds d) (in_run r d)

  pub put_contains : (d : Dot) → set.contains (set.from_list {R = dot_cmp} (ds ++ dots_of r)) d ≡ (in_run r d || set.contains (set.from_list {R = dot_cmp} ds) d)
  put_contains d = contains_list (ds ++ dots_of r) d ∙ lists-put d ∙ ap (λ b. in_run r d || b) (sym (contains_list ds d))

-- where nothing is behind the cut, all is before it
pub all_upto : (p : Dot → Bool) (front back ds : List Dot) → front ++ back ≡ ds → true ≡ (length back == 0) → list_all p front ≡ true → list_all p ds ≡ true
all_upto p front [] ds whole none all = ap (list_all p) (sym whole) ∙ list_all-append p front [] ∙ and_true _ _ all refl
all_upto p front (e ∷ back) ds whole none all = (let no : ⊥ = grind (arith, nat_tests) in absurd no)

-- a run between the dots before it and those after it
module _ (ds front back inside later : List Dot) (r : Run) (is : IsRun r) (whole : front ++ back ≡ ds) (parts : inside ++ later ≡ back)
    (upto : list_all (λ d. not (is_above (before r) d)) front ≡ true) (least : list_all (is_above (before r)) back ≡ true)
    (most : list_all (λ d. not (is_above (last r) d)) inside ≡ true) (past : list_all (is_above (last r)) later ≡ true) where
  pub insert_rises : ascends ds ≡ true → ascends ((front ++ dots_of r) ++ later) ≡ true
  insert_rises rise =
      let rises : ascends (front ++ back) ≡ true = ap ascends whole ∙ rise in
      joined_rise (last r) (front ++ dots_of r) later (put_rises front r is upto (front_rises front back rises)) (back_rises inside later (ap ascends parts ∙ back_rises front back rises))
      (list_all-append _ front (dots_of r) ∙ and_true _ _ (earlier_upto r is front upto) (run_upto r is)) past

  pub insert_all : list_all is_dot ds ≡ true → r.replica ≤ 255 → list_all is_dot ((front ++ dots_of r) ++ later) ≡ true
  insert_all all small =
      let dots : list_all is_dot (front ++ back) ≡ true = ap (list_all is_dot) whole ∙ all in
      list_all-append is_dot (front ++ dots_of r) later
      ∙ and_true _ _ (put_all front r is upto (all_front is_dot front back dots) small) (all_back is_dot inside later (ap (list_all is_dot) parts ∙ all_back is_dot front back dots))

  inside_run : (d : Dot) → lists inside d ≡ true → in_run r d ≡ true
  inside_run d h =
      between r.replica r.lo r.hi d.replica d.seq is.from_one
      (all_listed (is_above (before r)) inside (all_front (is_above (before r)) inside later (ap (list_all (is_above (before r))) parts ∙ least)) d h)
      (all_listed (λ e. not (is_above (last r) e)) inside most d h)
    where
      between : (a lo hi b s : ℕ) → 1 ≤ lo → is_lt (ordering_then (nat_cmp a b) (nat_cmp (lo - 1) s)) ≡ true → not (is_lt (ordering_then (nat_cmp a b) (nat_cmp hi s))) ≡ true → (eqb b a && leb lo s && leb s hi) ≡ true
      between a lo hi b s one h k = grind (arith, nat_tests)

  lists-parts : (d : Dot) → lists ds d ≡ (lists front d || (lists inside d || lists later d))
  lists-parts d = ap (λ es. lists es d) (sym whole) ∙ list_any-append (eq_by_cmp dot_cmp d) front back ∙ ap (λ b. lists front d || b) (ap (λ es. lists es d) (sym parts) ∙ list_any-append (eq_by_cmp dot_cmp d) inside later)

  pub insert_contains : (d : Dot) → set.contains (set.from_list {R = dot_cmp} ((front ++ dots_of r) ++ later)) d ≡ (in_run r d || set.contains (set.from_list {R = dot_cmp} ds) d)
  insert_contains d =
      contains_list ((front ++ dots_of r) ++ later) d
      ∙ list_any-append (eq_by_cmp dot_cmp d) (front ++ dots_of r) later ∙ ap (λ b. b || lists later d) (lists-put front r is upto d)
      ∙ covered (lists front d) (in_run r d) (lists inside d) (lists later d) (inside_run d)
      ∙ ap (λ b. in_run r d || b) (sym (contains_list ds d ∙ lists-parts d))
    where
      covered : (f i n l : Bool) → (n ≡ true → i ≡ true) → ((i || f) || l) ≡ (i || (f || (n || l)))
      covered f true n l h = refl
      covered true false n l h = refl
      covered false false true l h = absurd (false≢true (h refl))
      covered false false false l h = refl

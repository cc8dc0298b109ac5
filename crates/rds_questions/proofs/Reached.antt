-- How far digests and states have come, by their sets of dots and their numbers.
use Rattle.std.proofs.Common.{◌≡◌, ◌≤◌, ℕ, zero, suc, Bool, true, false, not, ◌&&◌, cond, List, [], ◌∷◌, Option, Some, None, Result, Ok, Err, refl, sym, ap, subst, ◌∙◌, nat_lt, arith}
use Rattle.std.specs.Prelude.{◌↔◌, IsTrue, IfOk}
use Rattle.std.specs.List.{list_all}
use Rattle.std.specs.Ordering.{eq_by_cmp, is_lt}
use Rattle.std.specs.FinSet as set
use Rattle.std.proofs.lemmas.Bool.{false≢true}
use Rattle.std.proofs.lemmas.Bool.Decides.{nat_tests}
use Rattle.rds_names.specs.Conditions.{and_left, and_right, equal_of}
use Rattle.rds_names.specs.declared.fault.Fault.{Fault}
use Rattle.rds_dots.specs.declared.dot.Dot.{Dot}
use Rattle.rds_dots.specs.Dots.{Dots}
use Rattle.rds_dots.specs.Order.{dots_exact, dots_total}
use Rattle.rds_counts.specs.Counted.{Counted, number, place, row_cmp, rows_rise}
use Rattle.rds_counts.specs.CountedLemmas.{get-counts_of, number-own, number-row, number_in, number_past, some}
use Rattle.rds_counts.specs.Counted.{AreCountRows, counts_of}
use Rattle.rds_counts.specs.Place.{Place, place_cmp}
use Rattle.rds_counts.specs.PlaceOrder.{place_exact}
use Rattle.rds_counts.specs.declared.row.CountRow.{CountRow}
use Rattle.rds_counts.specs.declared.row.Which.{Which}
use Rattle.rds_counts.specs.declared.row.Which.TheVariants.{P, N}
use Rattle.rds_life.specs.Life.{Dead, Life, Live, live_of, seen_of}
use Rattle.rds_state.specs.Coordinates.{Coordinates}
use Rattle.rds_state.specs.Value.{StateValue, coordinates}
use Rattle.rds_delta.proofs.Digests.{live_inside, ranks_of_digest}
use Rattle.rds_delta.proofs.Sent.{in_difference}
use Rattle.rds_delta.specs.Digested.{DigestValue, IsInside, digest_of, ranks_in}
use Rattle.rds_delta.specs.Least.{IsNothing, least}
use Rattle.rds_delta.specs.Ranks.{Ranks, life_rank, ranks}
use Rattle.rds_questions.specs.Lacking.{AreRowsReached, StayLive}
use Rattle.rds_questions.specs.Taking.{AreReached, HasAllOf}

-- ---- numbers

module _ (here : Place → ℕ) where
  by_tests : (s t : Bool) (p n rest a : ℕ) → (s ≡ true → p ≤ a) → (t ≡ true → n ≤ a) → rest ≤ a → cond (s && some p) p (cond (t && some n) n rest) ≤ a
  by_tests s t p n rest a x y z = first s p x (second t n y)
    where
      second : (t : Bool) (n : ℕ) → (t ≡ true → n ≤ a) → cond (t && some n) n rest ≤ a
      second true zero y = z
      second true (suc n) y = y refl
      second false n y = z

      first : (s : Bool) (p : ℕ) → (s ≡ true → p ≤ a) → {m : ℕ} → m ≤ a → cond (s && some p) p m ≤ a
      first true zero x le = le
      first true (suc p) x le = x refl
      first false p x le = le

  -- what rows say is reached where each row is
  pub numbers_reached : (rows : List CountRow) → AreRowsReached here rows → (q : Place) → number_in rows q ≤ here q
  numbers_reached [] all q = omega arith
  numbers_reached (r ∷ rows) all q =
      let same : (w : Which) (n : ℕ) → n ≤ here (place r.key r.replica w) → eq_by_cmp place_cmp q (place r.key r.replica w) ≡ true → n ≤ here q
      = λ w n le e. subst (λ x. n ≤ here x) (sym (place_exact q (place r.key r.replica w) (equal_of _ e))) le in
      subst (λ n. n ≤ here q) (sym (number-row q r rows))
      (by_tests _ _ r.p r.n (number_in rows q) (here q) (same P r.p all.0.0) (same N r.n all.0.1) (numbers_reached rows all.1 q))

  -- the number of a later row is said also where an earlier row has none there
  later : (s t : Bool) (p n rest a : ℕ) → (s ≡ true → rest ≡ 0) → (t ≡ true → rest ≡ 0) → cond (s && some p) p (cond (t && some n) n rest) ≤ a → rest ≤ a
  later true t p n rest a x y le = let none = x refl in omega (arith, none)
  later false true p n rest a x y le = let none = y refl in omega (arith, none)
  later false false p n rest a x y le = le

  pub rows_reached : (rows : List CountRow) → rows_rise rows ≡ true → ((q : Place) → number_in rows q ≤ here q) → AreRowsReached here rows
  rows_reached [] rise each = tt
  rows_reached (r ∷ rows) rise each =
      let all = and_left (list_all (λ t. is_lt (row_cmp r t)) rows) _ rise in
      let own_p : number_in (r ∷ rows) (place r.key r.replica P) ≡ r.p = number-own r rows P all in
      let own_n : number_in (r ∷ rows) (place r.key r.replica N) ≡ r.n = number-own r rows N all in
      let past : (q : Place) (w : Which) → eq_by_cmp place_cmp q (place r.key r.replica w) ≡ true → number_in rows q ≡ 0
      = λ q w e. ap (number_in rows) (place_exact q (place r.key r.replica w) (equal_of _ e)) ∙ number_past r w rows all in (
        (subst (λ n. n ≤ here (place r.key r.replica P)) own_p (each (place r.key r.replica P)), subst (λ n. n ≤ here (place r.key r.replica N)) own_n (each (place r.key r.replica N))),
        rows_reached rows (and_right (list_all (λ t. is_lt (row_cmp r t)) rows) _ rise)
            (λ q. later _ _ r.p r.n (number_in rows q) (here q) (past q P) (past q N) (subst (λ n. n ≤ here q) (number-row q r rows) (each q))),
      )

  -- so counters are reached exactly where their rows are
  module _ (told : Counted) (rows : List CountRow) (are : AreCountRows rows) (is : told ≡ counts_of rows) where
    said : (q : Place) → number_in rows q ≡ number told q
    said q = get-counts_of rows told (sym is) q

    pub all_rows : AreRowsReached here rows → (q : Place) → number told q ≤ here q
    all_rows all q = subst (λ n. n ≤ here q) (said q) (numbers_reached rows all q)

    pub each_row : ((q : Place) → number told q ≤ here q) → AreRowsReached here rows
    each_row each = rows_reached rows are.rise (λ q. subst (λ n. n ≤ here q) (sym (said q)) (each q))

pub known_at : (told here t h : Counted) → told ≡ t → here ≡ h → ((q : Place) → number told q ≤ number here q) → (q : Place) → number t q ≤ number h q
known_at told here t h is_told is_here known = rw (← is_told, ← is_here) known

-- ---- dots

abbrev rank : Bool → Bool → ℕ
rank live seen = cond live 1 (cond seen 2 0)

rank_reached : (l s live seen : Bool) → (l ≡ true → s ≡ true) → (s ≡ true → seen ≡ true) → (live ≡ true → s ≡ true → l ≡ true) → rank l s ≤ rank live seen
rank_reached true true true seen inside all still = omega arith
rank_reached true true false true inside all still = omega arith
rank_reached true true false false inside all still = absurd (false≢true (all refl))
rank_reached true false live seen inside all still = absurd (false≢true (inside refl))
rank_reached false true true seen inside all still = absurd (false≢true (still refl refl))
rank_reached false true false true inside all still = omega arith
rank_reached false true false false inside all still = absurd (false≢true (all refl))
rank_reached false false live seen inside all still = omega arith

is_seen : (l s live seen : Bool) → rank l s ≤ rank live seen → (live ≡ true → seen ≡ true) → s ≡ true → seen ≡ true
is_seen l s true seen le inside is = inside refl
is_seen l s false true le inside is = refl
is_seen true true false false le inside is = absurd (omega (arith, le))
is_seen false true false false le inside is = absurd (omega (arith, le))
is_seen l false false false le inside is = is

is_live : (l s live seen : Bool) → rank l s ≤ rank live seen → live ≡ true → s ≡ true → l ≡ true
is_live true s live seen le is has = refl
is_live false true true seen le is has = absurd (omega (arith, le))
is_live false true false seen le is has = is
is_live false false live seen le is has = has

module _ (told here : DigestValue) where
  pub all_reached : IsInside told.live told.seen → IsInside told.seen here.seen → StayLive here.live told.seen told.live → ((q : Place) → number told.counts q ≤ number here.counts q) → AreReached (ranks_in told) (ranks_in here)
  all_reached inside all still numbers = record {
    ranks = λ d. rank_reached (set.contains told.live d) (set.contains told.seen d) (set.contains here.live d) (set.contains here.seen d) (inside.each_dot d) (all.each_dot d) (still d);
    numbers = numbers;
  }

  pub seen_reached : IsInside here.live here.seen → AreReached (ranks_in told) (ranks_in here) → IsInside told.seen here.seen
  seen_reached inside reached = record {
    each_dot = λ d. is_seen (set.contains told.live d) (set.contains told.seen d) (set.contains here.live d) (set.contains here.seen d) (reached.ranks d) (inside.each_dot d);
  }

  pub live_reached : AreReached (ranks_in told) (ranks_in here) → StayLive here.live told.seen told.live
  live_reached reached d = is_live (set.contains told.live d) (set.contains told.seen d) (set.contains here.live d) (set.contains here.seen d) (reached.ranks d)

-- ---- nothing is above what is reached

none_above : (l : Option Life) (n : ℕ) → life_rank l ≤ n → cond (nat_lt n (life_rank l)) l None ≡ None
none_above l n le = grind (arith, nat_tests)

is_reached : (l : Option Life) (n : ℕ) → cond (nat_lt n (life_rank l)) l None ≡ None → life_rank l ≤ n
is_reached None n none = omega arith
is_reached (Some (Live e)) zero none = absurd cc
is_reached (Some (Live e)) (suc n) none = omega arith
is_reached (Some Dead) zero none = absurd cc
is_reached (Some Dead) (suc zero) none = absurd cc
is_reached (Some Dead) (suc (suc n)) none = omega arith

no_number : (a b : ℕ) → a ≤ b → cond (nat_lt b a) a 0 ≡ 0
no_number a b le = grind (arith, nat_tests)

number_reached : (a b : ℕ) → cond (nat_lt b a) a 0 ≡ 0 → a ≤ b
number_reached a b none = grind (arith, nat_tests)

module _ (a : Coordinates) (b : Ranks) where
  pub nothing_above : AreReached (ranks a) b → IsNothing (least a b)
  nothing_above reached = record { lives = λ d. none_above (a.life d) (b.rank d) (reached.ranks d); numbers = λ q. no_number (a.number q) (b.number q) (reached.numbers q) }

  pub reached_of : IsNothing (least a b) → AreReached (ranks a) b
  reached_of none = record { ranks = λ d. is_reached (a.life d) (b.rank d) (none.lives d); numbers = λ q. number_reached (a.number q) (b.number q) (none.numbers q) }

-- ---- dots of one set that another has seen

none_more : (l seen t : Bool) → (l ≡ true → seen ≡ true → t ≡ true) → (l && not t) ≡ ((l && not t) && not seen)
none_more true true true all = refl
none_more true true false all = absurd (false≢true (all refl refl))
none_more true false true all = refl
none_more true false false all = refl
none_more false seen t all = refl

is_still : (l seen t : Bool) → (l && not t) ≡ ((l && not t) && not seen) → l ≡ true → seen ≡ true → t ≡ true
is_still l seen true same live has = refl
is_still true true false same live has = absurd (false≢true (sym same))
is_still true false false same live has = absurd (false≢true has)
is_still false seen false same live has = absurd (false≢true live)

module _ (live seen still others unseen : Dots) (is_others : others ≡ set.difference live still) (is_unseen : unseen ≡ set.difference others seen) where
  other : (d : Dot) → set.contains others d ≡ (set.contains live d && not (set.contains still d))
  other d = ap (λ (s : Dots). set.contains s d) is_others ∙ in_difference live still d

  not_seen : (d : Dot) → set.contains unseen d ≡ ((set.contains live d && not (set.contains still d)) && not (set.contains seen d))
  not_seen d = ap (λ (s : Dots). set.contains s d) is_unseen ∙ in_difference others seen d ∙ ap (λ b. b && not (set.contains seen d)) (other d)

  pub all_stay : others ≡ unseen → StayLive live seen still
  all_stay same d = is_still (set.contains live d) (set.contains seen d) (set.contains still d) (sym (other d) ∙ (ap (λ (s : Dots). set.contains s d) same ∙ not_seen d))

  pub none_unseen : StayLive live seen still → others ≡ unseen
  none_unseen stay = set.same_set dots_total dots_exact others unseen (λ d. other d ∙ (none_more (set.contains live d) (set.contains seen d) (set.contains still d) (stay d) ∙ sym (not_seen d)))

-- ---- a state and a digest

-- an answer that is exact of one thing is so of another that holds as it does
exact_of : {A B : Type 0} (r : Result Bool Fault) → IfOk r (λ has. IsTrue has ↔ A) → (A → B) → (B → A) → IfOk r (λ has. IsTrue has ↔ B)
exact_of (Ok has) exact there back = (λ h. there (exact.0 h), λ b. exact.1 (back b))
exact_of (Err e) exact there back = tt

module _ (v : StateValue) (g : DigestValue) where
  pub told_here : HasAllOf g v → AreReached (ranks_in g) (ranks_in (digest_of v))
  told_here has = subst (AreReached (ranks_in g)) (sym (ranks_of_digest v)) has

  pub here_told : IsNothing (least (coordinates v) (ranks_in g)) → AreReached (ranks_in (digest_of v)) (ranks_in g)
  here_told none = subst (λ (r : Ranks). AreReached r (ranks_in g)) (sym (ranks_of_digest v)) (reached_of (coordinates v) (ranks_in g) none)

  -- sets that are those of the state and of the digest
  module _ (seen told_seen : Dots) (is_seen : seen ≡ seen_of v.lives) (is_told : told_seen ≡ g.seen) where
    pub seen_here : HasAllOf g v → IsInside told_seen seen
    seen_here has = rw (is_told, is_seen) (seen_reached g (digest_of v) (live_inside v.lives) (told_here has))

    module _ (inside : IsInside g.live g.seen) where
      pub seen_there : IsNothing (least (coordinates v) (ranks_in g)) → IsInside seen told_seen
      seen_there none = rw (is_told, is_seen) (seen_reached (digest_of v) g inside (here_told none))

      module _ (live told_live : Dots) (is_live : live ≡ live_of v.lives) (is_told_live : told_live ≡ g.live) (r : Result Bool Fault) where
        pub has_all : IsInside told_seen seen → ((q : Place) → number g.counts q ≤ number v.counts q) → IfOk r (λ stay. IsTrue stay ↔ StayLive live told_seen told_live) → IfOk r (λ has. IsTrue has ↔ HasAllOf g v)
        has_all all numbers stay = exact_of r stay
            (λ still. subst (AreReached (ranks_in g)) (ranks_of_digest v) (all_reached g (digest_of v) inside (rw (← is_told, ← is_seen) all) (rw (← is_live, ← is_told, ← is_told_live) still) numbers))
            (λ has. rw (is_live, is_told, is_told_live) (live_reached g (digest_of v) (told_here has)))

        pub has_nothing : IsInside seen told_seen → ((q : Place) → number v.counts q ≤ number g.counts q) → IfOk r (λ stay. IsTrue stay ↔ StayLive told_live seen live) → IfOk r (λ nothing. IsTrue nothing ↔ IsNothing (least (coordinates v) (ranks_in g)))
        has_nothing all numbers stay = exact_of r stay
            (λ still. nothing_above (coordinates v) (ranks_in g) (subst (λ (s : Ranks). AreReached s (ranks_in g)) (ranks_of_digest v)
            (all_reached (digest_of v) g (live_inside v.lives) (rw (← is_told, ← is_seen) all) (rw (← is_told_live, ← is_seen, ← is_live) still) numbers)))
            (λ none. rw (is_told_live, is_seen, is_live) (live_reached (digest_of v) g (here_told none)))

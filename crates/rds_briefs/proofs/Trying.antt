-- Reading with one of many sets.
use Rattle.std.proofs.Common.{◌≡◌, ℕ, zero, suc, ◌+◌, ◌⊎◌, inl, inr, Bool, true, false, ◌&&◌, ◌||◌, eqb, leb, ltb, List, [], ◌∷◌, Result, Ok, Err, refl, sym, ap, subst, ◌∙◌, arith}
use Rattle.std.specs.Prelude.{min}
use Rattle.std.specs.Ordering.{eq_by_cmp}
use Rattle.std.specs.FinSet as set
use mathlib.Core.Bool.{false≢true}
use Rattle.std.proofs.lemmas.Bool.{or_left}
use Rattle.std.proofs.lemmas.Bool.Decides.{nat_tests}
use Rattle.std.proofs.lemmas.List.Folds.{list_any-append}
use Rattle.rds_names.specs.declared.fault.Fault.{Fault}
use Rattle.rds_names.specs.declared.fault.Fault.TheVariants.{Bad}
use Rattle.rds_dots.specs.declared.dot.Dot.{Dot}
use Rattle.rds_dots.specs.declared.dot.TheConstants.{MAX_SEQ}
use Rattle.rds_dots.specs.Dots.{Dots, dot_cmp, is_dot}
use Rattle.rds_dots.specs.Listed.{lists, dots_from}
use Rattle.rds_dots.specs.Order.{dots_total, dots_exact}
use Rattle.rds_dots.specs.Sets.{lists-dots_from, tied_dots_are_one}
use Rattle.rds_bytes.specs.Reading.{Reader}
use Rattle.rds_bytes.proofs.Format.{err_is}
use Rattle.rds_briefs.specs.ReadBriefs.{dots_up_to, or_else, with_some}

-- ---- one answer or another

or_ok : {A : Type 0} (r s : Result A Fault) (y : A) → or_else r s ≡ Ok y → (r ≡ Ok y) ⊎ (s ≡ Ok y)
or_ok (Ok x) s y e = inl e
or_ok (Err d) s y e = inr e

or_err : {A : Type 0} (r s : Result A Fault) (e : Fault) → or_else r s ≡ Err e → s ≡ Err e
or_err (Ok x) s e h = absurd cc
or_err (Err d) s e h = h

abbrev pub Succeeds : {A : Type 0} → Result A Fault → Type 0
Succeeds {A} r = (x : A) × (r ≡ Ok x)

first_succeeds : {A : Type 0} (r s : Result A Fault) → Succeeds r → Succeeds (or_else r s)
first_succeeds r s h = (h.0, ap (λ t. or_else t s) h.1)

other_succeeds : {A : Type 0} (r s : Result A Fault) → Succeeds s → Succeeds (or_else r s)
other_succeeds (Ok x) s h = (x, refl)
other_succeeds (Err d) s h = h

-- ---- tests

beside : (a b c : Bool) → (a || c) ≡ true → (a || (b || c)) ≡ true
beside true b c h = refl
beside false true c h = refl
beside false false c h = h

moved : (a b c : Bool) → ((b || a) || c) ≡ true → (a || (b || c)) ≡ true
moved true b c h = refl
moved false true c h = refl
moved false false c h = h

moved_back : (a b c : Bool) → (a || (b || c)) ≡ true → ((b || a) || c) ≡ true
moved_back a true c h = refl
moved_back true false c h = refl
moved_back false false c h = h

same_test : (a b : Bool) → (a ≡ true → b ≡ true) → (b ≡ true → (a || false) ≡ true) → a ≡ b
same_test true b there back = sym (there refl)
same_test false true there back = back refl
same_test false false there back = refl

-- ---- sets of some dots

module _ {A : Type 0} (read : Dots → Reader A) (bytes : List ℕ) where
  -- the set that was read with
  pub record ReadWith (ds : List Dot) (s : Dots) (x : A × List ℕ) : Type 0 where
    pub dots : Dots
    pub reads : read dots bytes ≡ Ok x
    pub within : (q : Dot) → set.contains dots q ≡ true → (set.contains s q || lists ds q) ≡ true

  without_first : (d : Dot) (ds : List Dot) (s : Dots) (x : A × List ℕ) → ReadWith ds s x → ReadWith (d ∷ ds) s x
  without_first d ds s x h =
      record { dots = h.dots; reads = h.reads; within = λ q has. beside (set.contains s q) (eq_by_cmp dot_cmp q d) (lists ds q) (h.within q has) }

  with_first : (d : Dot) (ds : List Dot) (s : Dots) (x : A × List ℕ) → ReadWith ds (set.insert s d) x → ReadWith (d ∷ ds) s x
  with_first d ds s x h = record {
    dots = h.dots;
    reads = h.reads;
    within = λ q has.
        moved (set.contains s q) (eq_by_cmp dot_cmp q d) (lists ds q) (ap (λ b. b || lists ds q) (sym (set.contains-insert dots_total s d q)) ∙ h.within q has);
  }

  pub read_with : (ds : List Dot) (s : Dots) (x : A × List ℕ) → with_some read ds s bytes ≡ Ok x → ReadWith ds s x
  unfolding with_some
  read_with [] s x e = elim (or_ok (read s bytes) (Err Bad) x e) [
    | inl h ↦ record { dots = s; reads = h; within = λ q has. or_left _ _ has }
    | inr h ↦ absurd cc
  ]
  read_with (d ∷ ds) s x e = elim (or_ok (with_some read ds s bytes) (with_some read ds (set.insert s d) bytes) x e) [
    | inl h ↦ without_first d ds s x (read_with ds s x h)
    | inr h ↦ with_first d ds s x (read_with ds (set.insert s d) x h)
  ]

  pub all_bad : (ds : List Dot) (s : Dots) (e : Fault) → with_some read ds s bytes ≡ Err e → e ≡ Bad
  unfolding with_some
  all_bad [] s e h = sym (err_is {A = A × List ℕ} Bad e (or_err (read s bytes) (Err Bad) e h))
  all_bad (d ∷ ds) s e h = all_bad ds (set.insert s d) e (or_err (with_some read ds s bytes) _ e h)

  -- where a set can be read with, one is
  module _ (t : Dots) (reads : Succeeds (read t bytes)) where
    abbrev HasAll : Dots → Type 0
    HasAll s = (q : Dot) → set.contains s q ≡ true → set.contains t q ≡ true

    abbrev IsWithin : List Dot → Dots → Type 0
    IsWithin ds s = (q : Dot) → set.contains t q ≡ true → (set.contains s q || lists ds q) ≡ true

    one_more : (d : Dot) (s : Dots) → set.contains t d ≡ true → HasAll s → HasAll (set.insert s d)
    one_more d s is has q h = elim (eq_by_cmp dot_cmp q d) as (λ b. eq_by_cmp dot_cmp q d ≡ b → (b || set.contains s q) ≡ true → set.contains t q ≡ true) [
      | true ↦ λ e _. ap (λ (x : Dot). set.contains t x) (tied_dots_are_one q d e) ∙ is
      | false ↦ λ _ old. has q old
    ] refl (sym (set.contains-insert dots_total s d q) ∙ h)

    one_less : (d : Dot) (ds : List Dot) (s : Dots) → set.contains t d ≡ false → IsWithin (d ∷ ds) s → IsWithin ds s
    one_less d ds s none all q h = elim (eq_by_cmp dot_cmp q d) as (λ b. eq_by_cmp dot_cmp q d ≡ b → (set.contains s q || (b || lists ds q)) ≡ true → (set.contains s q || lists ds q) ≡ true) [
      | true ↦ λ e _. absurd (false≢true (sym none ∙ ap (λ (x : Dot). set.contains t x) (sym (tied_dots_are_one q d e)) ∙ h))
      | false ↦ λ _ old. old
    ] refl (all q h)

    pub one_reads : (ds : List Dot) (s : Dots) → HasAll s → IsWithin ds s → Succeeds (with_some read ds s bytes)
    unfolding with_some
    one_reads [] s has all =
        let same : s ≡ t = set.same_set dots_total dots_exact s t (λ q. same_test (set.contains s q) (set.contains t q) (has q) (all q)) in
        first_succeeds (read s bytes) (Err Bad) (subst (λ (x : Dots). Succeeds (read x bytes)) (sym same) reads)
    one_reads (d ∷ ds) s has all = elim (set.contains t d) as (λ b. set.contains t d ≡ b → Succeeds (or_else (with_some read ds s bytes) (with_some read ds (set.insert s d) bytes))) [
      | true ↦ λ is.
          other_succeeds (with_some read ds s bytes) (with_some read ds (set.insert s d) bytes)
          (one_reads ds (set.insert s d) (one_more d s is has) (λ q h. ap (λ b. b || lists ds q) (set.contains-insert dots_total s d q) ∙ moved_back (set.contains s q) (eq_by_cmp dot_cmp q d) (lists ds q) (all q h)))
      | false ↦ λ none. first_succeeds (with_some read ds s bytes) (with_some read ds (set.insert s d) bytes) (one_reads ds s has (one_less d ds s none all))
    ] refl

-- ---- all dots

no_replica : (a s most : ℕ) → false ≡ (ltb a 0 && (leb 1 s && leb s most))
no_replica a s most = grind (arith, nat_tests)

one_replica : (a s n most : ℕ) → ((eqb a n && (leb 1 s && leb (s + 1) (1 + most))) || (ltb a n && (leb 1 s && leb s most))) ≡ (ltb a (suc n) && (leb 1 s && leb s most))
one_replica a s n most = grind (arith, nat_tests)

lists-up_to : (n most : ℕ) (q : Dot) → lists (dots_up_to n most) q ≡ (ltb q.replica n && (leb 1 q.seq && leb q.seq most))
unfolding dots_up_to
lists-up_to zero most q = no_replica q.replica q.seq most
lists-up_to (suc n) most q =
    list_any-append (eq_by_cmp dot_cmp q) (dots_from n 1 most) (dots_up_to n most)
    ∙ ap (λ b. b || lists (dots_up_to n most) q) (lists-dots_from n 1 most q)
    ∙ ap (λ b. (eqb q.replica n && (leb 1 q.seq && leb (q.seq + 1) (1 + most))) || b) (lists-up_to n most q)
    ∙ one_replica q.replica q.seq n most

dot_of_few : (a s replicas : ℕ) → (ltb a (min replicas 256) && (leb 1 s && leb s 281474976710655)) ≡ ((leb a 255 && leb 1 s && leb s 281474976710655) && ltb a replicas)
dot_of_few a s replicas = grind (arith, nat_tests)

-- all dots of so many replicas are listed, and no others
pub lists-all : (replicas : ℕ) (q : Dot) → lists (dots_up_to (min replicas 256) MAX_SEQ) q ≡ (is_dot q && ltb q.replica replicas)
lists-all replicas q = lists-up_to (min replicas 256) MAX_SEQ q ∙ dot_of_few q.replica q.seq replicas

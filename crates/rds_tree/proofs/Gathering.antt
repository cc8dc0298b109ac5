-- Dots of a tree that are gathered one after another.
use Rattle.std.proofs.Common.{◌≡◌, Bool, true, false, ◌||◌, List, [], ◌++◌, Result, Ok, Err, OnOk, refl, sym, ◌∙◌, ap}
use Rattle.std.proofs.Math.Bool.{or-false}
use Rattle.std.proofs.lemmas.List.Folds.{list_any-append}
use Rattle.std.proofs.lemmas.List.Sorted.{list_any-IsPermutation}
use Rattle.std.specs.List.Sorted.{IsPermutation}
use Rattle.std.specs.Ordering.{eq_by_cmp}
use Rattle.rds_names.specs.declared.entry.Entry.{Entry}
use Rattle.rds_names.specs.declared.fault.Fault.{Fault}
use Rattle.rds_dots.specs.declared.dot.Dot.{Dot}
use Rattle.rds_dots.specs.Dots.{dot_cmp}
use Rattle.rds_tree.specs.Held.{among_dots, IsGathered}
use Rattle.rds_tree.proofs.Killing.{Test}

then_or : (a b c : Bool) → ((a || b) || c) ≡ (a || (b || c))
then_or true b c = refl
then_or false b c = refl

pub gathers_list : (dots old new : List Dot) → new ≡ old ++ dots → IsGathered (among_dots dots) old new
gathers_list dots old new is = record {
  any = λ d e. ap (λ xs. among_dots xs d e) is ∙ list_any-append (λ x. eq_by_cmp dot_cmp x d) old dots;
}

pub gathers_same : (f g : Test) (old new : List Dot) → ((d : Dot) (e : Entry) → f d e ≡ g d e) → IsGathered f old new → IsGathered g old new
gathers_same f g old new same h = record { any = λ d e. h.any d e ∙ ap (λ b. among_dots old d e || b) (same d e) }

pub gathers_none : (f : Test) (dots : List Dot) → ((d : Dot) (e : Entry) → f d e ≡ false) → IsGathered f dots dots
gathers_none f dots none = record { any = λ d e. sym (ap (λ b. among_dots dots d e || b) (none d e) ∙ or-false (among_dots dots d e)) }

-- one walk, and what is left of another
pub gathers_next : (f rest : Test) (old new : List Dot) → IsGathered f old new → (d : Dot) (e : Entry) → (among_dots new d e || rest d e) ≡ (among_dots old d e || (f d e || rest d e))
gathers_next f rest old new h d e = ap (λ b. b || rest d e) (h.any d e) ∙ then_or (among_dots old d e) (f d e) (rest d e)

pub gathers_both : (f g h : Test) (old mid new : List Dot) → IsGathered f old mid → IsGathered g mid new → ((d : Dot) (e : Entry) → h d e ≡ (f d e || g d e)) → IsGathered h old new
gathers_both f g h old mid new first second either = record {
  any = λ d e. second.any d e ∙ gathers_next f g old mid first d e ∙ ap (λ b. among_dots old d e || b) (sym (either d e));
}

-- some that were found, behind others
pub gathers_more : (f : Test) (old found new : List Dot) → new ≡ old ++ found → IsGathered f [] found → IsGathered f old new
gathers_more f old found new is h = record {
  any = λ d e. (gathers_list found old new is).any d e ∙ ap (λ b. among_dots old d e || b) (h.any d e);
}

-- the last of several walks
pub gathers_whole : (f : Test) (old new : List Dot) → ((d : Dot) (e : Entry) → (among_dots new d e || false) ≡ (among_dots old d e || f d e)) → IsGathered f old new
gathers_whole f old new h = record { any = λ d e. sym (or-false (among_dots new d e)) ∙ h d e }

-- in another order
pub gathers_sorted : (f : Test) (old new sorted : List Dot) → IsPermutation new sorted → IsGathered f old new → IsGathered f old sorted
gathers_sorted f old new sorted same h = record {
  any = λ d e. sym (list_any-IsPermutation (λ x. eq_by_cmp dot_cmp x d) new sorted same) ∙ h.any d e;
}

-- ---- where a walk may want memory

pub gathers_same_if : (r : Result (Unit {0}) Fault) (f g : Test) (old new : List Dot) → ((d : Dot) (e : Entry) → f d e ≡ g d e) → OnOk r (IsGathered f old new) → OnOk r (IsGathered g old new)
gathers_same_if (Ok x) f g old new same h = gathers_same f g old new same h
gathers_same_if (Err e) f g old new same h = tt

pub gathers_both_if : (r : Result (Unit {0}) Fault) (f g h : Test) (old mid new : List Dot) → IsGathered f old mid → ((d : Dot) (e : Entry) → h d e ≡ (f d e || g d e)) → OnOk r (IsGathered g mid new) → OnOk r (IsGathered h old new)
gathers_both_if (Ok x) f g h old mid new first either second = gathers_both f g h old mid new first second either
gathers_both_if (Err e) f g h old mid new first either second = tt

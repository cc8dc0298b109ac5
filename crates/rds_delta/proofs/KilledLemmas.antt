-- The dots of a set up to a dot that are dead here, part after part.
use Rattle.std.proofs.Common.{◌≡◌, ℕ, ◌+◌, ◌-◌, ◌*◌, ◌<◌, ◌≤◌, Bool, true, false, not, ◌&&◌, ◌||◌, Option, Some, None}
use Rattle.std.proofs.Common.{refl, sym, ◌∙◌, ap, arith, eqb, leb}
use mathlib.Core.Bool.{false≢true}
use Rattle.std.specs.Ordering.{nat_cmp, ordering_then, is_lt}
use Rattle.std.specs.FinMap as map
use Rattle.std.specs.FinSet as set
use Rattle.std.proofs.lemmas.Bool.Decides.{nat_tests}
use Rattle.rds_dots.specs.declared.dot.Dot.{Dot}
use Rattle.rds_dots.specs.declared.dot.Run.{Run}
use Rattle.rds_dots.specs.declared.dot.TheConstants.{MAX_SEQ}
use Rattle.rds_dots.specs.Dots.{Dots, in_run, first_of, comes_after}
use Rattle.rds_dots.specs.Lacking.{dot_of}
use Rattle.rds_dots.specs.Runs.{dot_place}
use Rattle.rds_life.specs.Life.{Lived, is_dead}
use Rattle.rds_delta.specs.DeadParts.{IsDeadTo}
use Rattle.rds_delta.specs.Parts.{IsNextPart, IsPartAfter}

-- a dot's number is in its range, where there is a dot
abbrev InRange : Option Dot → Type 0
InRange None = Unit {0}
InRange (Some d) = d.seq ≤ MAX_SEQ

-- all that are killed up to a dot, and nothing else
pub record AreKilledTo (v : Lived) (live : Dots) (after : Option Dot) (killed : Dots) : Type 0 where
  pub range : InRange after
  pub same : (d : Dot) → set.contains killed d ≡ (is_dead (map.get v d) && set.contains live d && not (comes_after after d))

-- how many places are left after a dot
abbrev pub places_after : Option Dot → ℕ
places_after None = 256 * (MAX_SEQ + 1)
places_after (Some d) = 256 * (MAX_SEQ + 1) - dot_place d.replica d.seq

abbrev pub part_to : Run → ℕ → Run
part_to r hi = record { replica = r.replica; lo = r.lo; hi = hi }

-- numbers
place_rises : (a b s t u : ℕ) → s ≤ 281474976710655 → t ≤ u → is_lt (ordering_then (nat_cmp a b) (nat_cmp s t)) ≡ true → a * 281474976710656 + s < b * 281474976710656 + u
place_rises a b s t u most le h = grind (arith, nat_tests)

after_first : (x r a z lo s hi : ℕ) → is_lt (ordering_then (nat_cmp x r) (nat_cmp z lo)) ≡ true → (eqb a r && leb lo s && leb s hi) ≡ true → is_lt (ordering_then (nat_cmp x a) (nat_cmp z s)) ≡ true
after_first x r a z lo s hi h k = grind (arith, nat_tests)

not_after_last : (r a lo s hi : ℕ) → (eqb a r && leb lo s && leb s hi) ≡ true → is_lt (ordering_then (nat_cmp r a) (nat_cmp hi s)) ≡ false
not_after_last r a lo s hi k = grind (arith, nat_tests)

after_both : (x r a z lo s hi : ℕ) → lo ≤ hi → is_lt (ordering_then (nat_cmp x r) (nat_cmp z lo)) ≡ true → is_lt (ordering_then (nat_cmp r a) (nat_cmp hi s)) ≡ true → is_lt (ordering_then (nat_cmp x a) (nat_cmp z s)) ≡ true
after_both x r a z lo s hi le h k = grind (arith, nat_tests)

before_first : (r a lo s hi : ℕ) → (eqb a r && leb lo s && leb s hi) ≡ false → is_lt (ordering_then (nat_cmp r a) (nat_cmp hi s)) ≡ false → is_lt (ordering_then (nat_cmp a r) (nat_cmp s lo)) ≡ true
before_first r a lo s hi h k = grind (arith, nat_tests)

in_it : (r a lo s hi : ℕ) → (eqb a r && leb lo s && leb s hi) ≡ true → (a ≡ r) × (lo ≤ s) × (s ≤ hi)
in_it r a lo s hi h = grind (arith, nat_tests)

-- tests
in_part : (dead live new old has : Bool) → dead ≡ has → live ≡ true → new ≡ true → old ≡ false → ((has && true) || (dead && live && old)) ≡ (dead && live && new)
in_part true true true false true a b c d = refl
in_part false true true false false a b c d = refl
in_part dead live new old has a b c d = cc

outside : (dead live old new has : Bool) → (dead && live && old) ≡ (dead && live && new) → ((has && false) || (dead && live && old)) ≡ (dead && live && new)
outside dead live old new true h = h
outside dead live old new false h = h

no_dot : (dead live old new : Bool) → live ≡ false → (dead && live && old) ≡ (dead && live && new)
no_dot true live old new h = rw h refl
no_dot false live old new h = refl

module _ (v : Lived) (live : Dots) where
  pub none_killed : (killed : Dots) → killed ≡ set.empty → AreKilledTo v live None killed
  none_killed killed none = record { range = tt; same = λ d. ap (λ s. set.contains s d) none ∙ set.contains-empty _ d ∙ no_test (is_dead (map.get v d)) (set.contains live d) }
    where
      no_test : (a b : Bool) → false ≡ (a && b && false)
      no_test true true = refl
      no_test true false = refl
      no_test false b = refl

  pub all_killed : (after : Option Dot) (killed : Dots) → IsNextPart live after None → AreKilledTo v live after killed → (d : Dot) → set.contains killed d ≡ (is_dead (map.get v d) && set.contains live d)
  all_killed after killed none all d = all.same d ∙ past (is_dead (map.get v d)) (set.contains live d) (comes_after after d) (none d)
    where
      past : (a b c : Bool) → (c ≡ true → b ≡ false) → (a && b && not c) ≡ (a && b)
      past true true true h = sym (h refl)
      past true true false h = refl
      past true false c h = refl
      past false b c h = refl

  module _ (after : Option Dot) (r : Run) (part : IsPartAfter live after r) (has : Bool) (until : ℕ) (dead : IsDeadTo v r has until) where
    abbrev pub last : Dot
    last = dot_of r.replica until

    comes : (d : Dot) → in_run (part_to r until) d ≡ true → comes_after after d ≡ true
    comes d h = by_after after part.follows
      where
        by_after : (o : Option Dot) → comes_after o (first_of r) ≡ true → comes_after o d ≡ true
        by_after None f = refl
        by_after (Some x) f = after_first x.replica r.replica d.replica x.seq r.lo d.seq until f h

    later : (d : Dot) → comes_after (Some last) d ≡ true → comes_after after d ≡ true
    later d h = by_after after part.follows
      where
        by_after : (o : Option Dot) → comes_after o (first_of r) ≡ true → comes_after o d ≡ true
        by_after None f = refl
        by_after (Some x) f = after_both x.replica r.replica d.replica x.seq r.lo d.seq until dead.from f h

    alike_at : (d : Dot) → in_run (part_to r until) d ≡ true → (is_dead (map.get v d) ≡ has) × (set.contains live d ≡ true)
    alike_at d h =
        let at = in_it r.replica d.replica r.lo d.seq until h in
        let le = at.2 in
        let within = dead.within in
        let is : dot_of r.replica d.seq ≡ d = ap (λ n. dot_of n d.seq) (sym at.0) in
        (ap (λ q. is_dead (map.get v q)) (sym is) ∙ dead.alike d.seq at.1 at.2, ap (set.contains live) (sym is) ∙ part.inside d.seq at.1 (omega arith))

    same_at : (d : Dot) → ((has && in_run (part_to r until) d) || (is_dead (map.get v d) && set.contains live d && not (comes_after after d))) ≡ (is_dead (map.get v d) && set.contains live d && not (comes_after (Some last) d))
    same_at d = by_run (in_run (part_to r until) d) refl
      where
        by_run : (b : Bool) → in_run (part_to r until) d ≡ b → ((has && b) || (is_dead (map.get v d) && set.contains live d && not (comes_after after d))) ≡ (is_dead (map.get v d) && set.contains live d && not (comes_after (Some last) d))
        by_run true h =
            let alike = alike_at d h in
            in_part (is_dead (map.get v d)) (set.contains live d) (not (comes_after (Some last) d)) (not (comes_after after d)) has alike.0 alike.1 (ap not (not_after_last r.replica d.replica r.lo d.seq until h)) (ap not (comes d h))
        by_run false h = outside (is_dead (map.get v d)) (set.contains live d) (not (comes_after after d)) (not (comes_after (Some last) d)) has (by_after (comes_after after d) (comes_after (Some last) d) refl refl)
          where
            by_after : (b c : Bool) → comes_after after d ≡ b → comes_after (Some last) d ≡ c → (is_dead (map.get v d) && set.contains live d && not b) ≡ (is_dead (map.get v d) && set.contains live d && not c)
            by_after true true e f = refl
            by_after false false e f = refl
            by_after false true e f = absurd (false≢true (sym e ∙ later d f))
            by_after true false e f = no_dot (is_dead (map.get v d)) (set.contains live d) false true (part.first d e (before_first r.replica d.replica r.lo d.seq until h f))

    pub part_killed : (killed more : Dots) → AreKilledTo v live after killed → ((d : Dot) → set.contains more d ≡ ((has && in_run (part_to r until) d) || set.contains killed d)) → AreKilledTo v live (Some last) more
    part_killed killed more all put = record {
      range = (let le = dead.within in let most = part.is_run.within in omega arith);
      same = λ d. put d ∙ ap (λ b. (has && in_run (part_to r until) d) || b) (all.same d) ∙ same_at d;
    }

    pub fewer_places : InRange after → places_after (Some last) < places_after after
    fewer_places range = by_after after range part.follows
      where
        by_after : (o : Option Dot) → InRange o → comes_after o (first_of r) ≡ true → places_after (Some last) < places_after o
        by_after None _ f =
            let one = part.is_run.from_one in
            let from = dead.from in
            let le = dead.within in
            let most = part.is_run.within in
            let small = part.replica in
            omega arith
        by_after (Some x) most f =
            let rises = place_rises x.replica r.replica x.seq r.lo until most dead.from f in
            let le = dead.within in
            let top = part.is_run.within in
            let small = part.replica in
            omega arith

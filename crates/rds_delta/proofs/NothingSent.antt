-- What is known there isn't sent, and where nothing is sent nothing is made.
use Rattle.std.proofs.Common.{◌≡◌, ℕ, Bool, true, false, ◌&&◌, nat_lt, cond, List, [], ◌∷◌, Option, Some, None, refl}
use Rattle.std.proofs.Common.{sym, ◌∙◌, ap, arith}
use Rattle.std.specs.Prelude.{is_some}
use mathlib.Core.Bool.{false≢true}
use Rattle.std.specs.FinMap as map
use Rattle.std.specs.FinSet as set
use Rattle.rds_names.specs.declared.entry.Entry.{Entry}
use Rattle.rds_names.specs.Conditions.{and_left}
use Rattle.rds_dots.specs.declared.dot.Dot.{Dot}
use Rattle.rds_dots.specs.declared.dot.Run.{Run}
use Rattle.rds_dots.specs.Dots.{dot_cmp, Dots}
use Rattle.rds_dots.specs.Lacking.{dot_of}
use Rattle.rds_life.specs.Life.{Life, Live, Dead, Lived, AreRows, is_dead, entry_of, seen_of}
use Rattle.rds_life.proofs.Views.{contains-seen_of}
use Rattle.rds_delta.specs.Ranks.{life_rank}
use Rattle.rds_delta.specs.Digested.{DigestValue, IsInside, rank_in}
use Rattle.rds_delta.specs.DeadParts.{IsDeadTo}
use Rattle.rds_delta.specs.Higher.{is_sent}
use Rattle.rds_delta.specs.Next.{IsNextRow}
use Rattle.rds_delta.specs.Parts.{IsPartAfter}
use Rattle.rds_delta.specs.declared.step.DotRow.{DotRow}
use Rattle.rds_delta.specs.declared.step.DotRow.TheVariants as dots

-- tests of one dot
sent_known : (l : Option Life) (seen live : Bool) → (is_some l ≡ true → seen ≡ true) → (is_dead l && live) ≡ is_sent l seen live
sent_known None true live h = refl
sent_known None false live h = refl
sent_known (Some l) true live h = refl
sent_known (Some l) false live h = absurd (false≢true (h refl))

all_known : (l : Option Life) (seen live : Bool) → is_sent l seen live ≡ false → is_some l ≡ true → seen ≡ true
all_known None seen live h is = absurd (false≢true is)
all_known (Some l) true live h is = refl
all_known (Some l) false live h is = absurd (false≢true (sym h))

none_dead : (l : Option Life) (seen live : Bool) → is_sent l seen live ≡ false → (is_dead l && live) ≡ false
none_dead None seen live h = refl
none_dead (Some l) true live h = h
none_dead (Some l) false live h = absurd (false≢true (sym h))

no_life : (l : Option Life) (seen live : Bool) → (live ≡ true → seen ≡ true) → cond (nat_lt (cond live 1 (cond seen 2 0)) (life_rank l)) l None ≡ None → is_sent l seen live ≡ false
no_life None seen live h none = refl
no_life (Some (Live e)) true true h none = refl
no_life (Some (Live e)) true false h none = refl
no_life (Some (Live e)) false true h none = absurd (false≢true (h refl))
no_life (Some (Live e)) false false h none = absurd (cc)
no_life (Some Dead) true true h none = absurd (cc)
no_life (Some Dead) true false h none = refl
no_life (Some Dead) false true h none = absurd (false≢true (h refl))
no_life (Some Dead) false false h none = absurd (cc)

module _ (v : Lived) (g : DigestValue) where
  -- where no life is above the digest, no dot is sent
  pub nothing_above : IsInside g.live g.seen → ((d : Dot) → cond (nat_lt (rank_in g d) (life_rank (map.get v d))) (map.get v d) None ≡ None) → (d : Dot) → is_sent (map.get v d) (set.contains g.seen d) (set.contains g.live d) ≡ false
  nothing_above inside none d = no_life (map.get v d) (set.contains g.seen d) (set.contains g.live d) (inside.each_dot d) (none d)

  -- where the digest has all seen dots, what is dead here and live there is sent alone
  pub sent_inside : {s t : Dots} → s ≡ seen_of v → t ≡ g.seen → IsInside s t → (d : Dot) → (is_dead (map.get v d) && set.contains g.live d) ≡ is_sent (map.get v d) (set.contains g.seen d) (set.contains g.live d)
  sent_inside seen known inside d =
      let whole : IsInside (seen_of v) g.seen = rw (← seen, ← known) inside in
      sent_known (map.get v d) (set.contains g.seen d) (set.contains g.live d) (λ is. whole.each_dot d (contains-seen_of v d ∙ is))

  module _ (none : (d : Dot) → is_sent (map.get v d) (set.contains g.seen d) (set.contains g.live d) ≡ false) where
    pub nothing_new : {s t : Dots} → s ≡ seen_of v → t ≡ g.seen → IsInside s t
    nothing_new seen known =
        let whole : IsInside (seen_of v) g.seen = record { each_dot = λ d is. all_known (map.get v d) (set.contains g.seen d) (set.contains g.live d) (none d) (sym (contains-seen_of v d) ∙ is) } in
        rw (seen, known) whole

    pub nothing_killed : (d : Dot) → (is_dead (map.get v d) && set.contains g.live d) ≡ false
    nothing_killed d = none_dead (map.get v d) (set.contains g.seen d) (set.contains g.live d) (none d)

-- rows of no dots are none
pub rows_of_none : (s : Dots) (rows : List (Dot × Entry)) → AreRows s rows → ((d : Dot) → set.contains s d ≡ false) → rows ≡ []
rows_of_none s [] are none = refl
rows_of_none s (r ∷ rows) are none = absurd (false≢true (sym (none r.0) ∙ and_left (set.contains s r.0) _ are.seen_all))

-- a part of a set that is dead here is killed
pub one_killed : (v : Lived) (live : Dots) (after : Option Dot) (r : Run) → IsPartAfter live after r → (until : ℕ) → IsDeadTo v r true until → ((d : Dot) → (is_dead (map.get v d) && set.contains live d) ≡ false) → ⊥
one_killed v live after r part until dead none =
    let d = dot_of r.replica r.lo in
    let both = both_true (is_dead (map.get v d)) (set.contains live d) (dead.alike r.lo (omega arith) dead.from) (part.inside r.lo (omega arith) part.is_run.rises) in
    false≢true (sym (none d) ∙ both)
  where
    both_true : (a b : Bool) → a ≡ true → b ≡ true → (a && b) ≡ true
    both_true a b x y = cc

-- where no dot has a life, no row comes next
pub no_next_row : (peer : Dot → ℕ) (v : Lived) (after : Option Dot) (row : DotRow) → IsNextRow peer v after (Some row) → map.len v ≡ 0 → ⊥
no_next_row peer v after row next none = by_row row next
  where
    no_life : (d : Dot) → map.get v d ≡ None
    no_life d = ap (λ (l : Lived). map.get l d) (map.empty_of_len v none) ∙ map.get-empty dot_cmp d

    not_dead : (o : Option Life) → o ≡ None → o ≡ Some Dead → ⊥
    not_dead o h k = cc

    by_row : (row : DotRow) → IsNextRow peer v after (Some row) → ⊥
    by_row (dots.Live d p) next = false≢true (sym (ap (λ o. is_some (entry_of o)) (no_life d)) ∙ next.live)
    by_row (dots.Dead r p) next = not_dead _ (no_life (dot_of r.replica r.lo)) (next.dead r.lo (omega arith) next.is_run.rises)

-- What the next part, the digest's rank there and the next live dot say of the next row.
use Rattle.std.proofs.Common.{◌≡◌, ◌≢◌, ℕ, ◌+◌, ◌<◌, ◌⊎◌, true, false, Option, Some, None, refl, sym, ◌∙◌, ap, arith}
use Rattle.std.proofs.Common.{inl, inr, min}
use Rattle.std.specs.Prelude.{is_some}
use mathlib.Core.Bool.{false≢true}
use Rattle.std.specs.FinMap as map
use Rattle.std.specs.FinSet as set
use Rattle.std.proofs.lemmas.Bool.{cases_lt}
use Rattle.rds_dots.specs.declared.dot.Dot.{Dot}
use Rattle.rds_dots.specs.declared.dot.Run.{Run}
use Rattle.rds_dots.specs.Dots.{Dots, is_dot, first_of, comes_after}
use Rattle.rds_dots.specs.Lacking.{dot_of}
use Rattle.rds_life.specs.Life.{Life, Live, Dead, Lived, entry_of, seen_of}
use Rattle.rds_life.proofs.Views.{contains-seen_of}
use Rattle.rds_delta.specs.Next.{IsAlike, IsLifeless, IsNextLive, IsNextDead, is_live}
use Rattle.rds_delta.specs.Parts.{IsNextPart, IsPartAfter}

is_none : (o : Option Life) → is_some o ≡ false → o ≡ None
is_none None h = refl
is_none (Some l) h = absurd (false≢true (sym h))

is_dead : (o : Option Life) → is_some o ≡ true → is_some (entry_of o) ≡ false → o ≡ Some Dead
is_dead None h k = absurd (false≢true h)
is_dead (Some (Live e)) h k = absurd (false≢true (sym k))
is_dead (Some Dead) h k = refl

-- the least of three is one of them
which_least : (a b c : ℕ) → (min (min a b) c ≡ a) ⊎ ((min (min a b) c ≡ b) × (b < a)) ⊎ ((min (min a b) c ≡ c) × (c < a))
which_least a b c = elim (cases_lt c (min a b)) [
  | inl lt ↦ inr (inr (omega arith, omega arith))
  | inr ge ↦ elim (cases_lt b a) [ inl lt ↦ inr (inl (omega arith, lt)) | inr le ↦ inl (omega arith) ]
]

module _ (v : Lived) (s : Dots) (is : s ≡ seen_of v) (after : Option Dot) where
  seen : (d : Dot) → set.contains s d ≡ is_some (map.get v d)
  seen d = ap (λ t. set.contains t d) is ∙ contains-seen_of v d

  -- what isn't unseen is a dot, as all of a set of dots are
  pub seen_dots : ((d : Dot) → set.contains s d ≡ true → is_dot d ≡ true) → (d : Dot) → is_some (map.get v d) ≡ true → is_dot d ≡ true
  seen_dots within d h = within d (seen d ∙ h)

  unseen : (d : Dot) → set.contains s d ≡ false → map.get v d ≡ None
  unseen d h = is_none (map.get v d) (sym (seen d) ∙ h)

  pub next_none : IsNextPart s after None → (d : Dot) → comes_after after d ≡ true → map.get v d ≡ None
  next_none none d comes = unseen d (none d comes)

  module _ (peer : Dot → ℕ) (r : Run) (part : IsPartAfter s after r) (p until : ℕ) (alike : IsAlike peer (first_of r) p until) where
    pub next_live : is_live v (first_of r) ≡ true → IsNextLive peer v after (first_of r) p
    next_live lives = record {
      follows = part.follows;
      gap = λ q comes lt. unseen q (part.first q comes lt);
      live = lives;
      rank = alike.alike r.lo (omega arith) alike.from;
    }

    pub next_dead : (last hi : ℕ) → IsLifeless v (first_of r) last → hi ≡ min (min r.hi until) last → IsNextDead peer v after (record { replica = r.replica; lo = r.lo; hi = hi }) p
    next_dead last hi lifeless e =
        let rises = part.is_run.rises in
        let within = part.is_run.within in
        let from = alike.from in
        let from' = lifeless.from in
        record {
          is_run = record { from_one = part.is_run.from_one; rises = omega arith; within = omega arith };
          follows = part.follows;
          gap = λ q comes lt. unseen q (part.first q comes lt);
          dead = λ n a b. is_dead (map.get v (dot_of r.replica n)) (sym (seen (dot_of r.replica n)) ∙ part.inside n a (omega arith)) (lifeless.none n a (omega arith));
          rank = λ n a b. alike.alike n a (omega arith);
          ends = λ dead. stops (which_least r.hi until last) dead;
        }
      where
        at : (x : ℕ) → min (min r.hi until) last ≡ x → dot_of r.replica (hi + 1) ≡ dot_of r.replica (x + 1)
        at x f = ap (λ n. dot_of r.replica (n + 1)) (e ∙ f)

        not_none : (o : Option Life) → o ≡ None → o ≡ Some Dead → ⊥
        not_none o a b = cc

        not_live : (o : Option Life) → is_some (entry_of o) ≡ true → o ≡ Some Dead → ⊥
        not_live o a b = false≢true (sym (ap (λ x. is_some (entry_of x)) b) ∙ a)

        stops : (min (min r.hi until) last ≡ r.hi) ⊎ ((min (min r.hi until) last ≡ until) × (until < r.hi)) ⊎ ((min (min r.hi until) last ≡ last) × (last < r.hi)) → map.get v (dot_of r.replica (hi + 1)) ≡ Some Dead → peer (dot_of r.replica (hi + 1)) ≢ p
        stops (inl f) dead = absurd (not_none _ (unseen _ (ap (set.contains s) (at r.hi f) ∙ part.ends)) dead)
        stops (inr (inl f)) dead = λ same. (let within = part.is_run.within in let lt = f.1 in alike.ends (omega arith) (ap peer (sym (at until f.0)) ∙ same))
        stops (inr (inr f)) dead = let within = part.is_run.within in let lt = f.1 in absurd (not_live _ (ap (is_live v) (at last f.0) ∙ lifeless.ends (omega arith)) dead)

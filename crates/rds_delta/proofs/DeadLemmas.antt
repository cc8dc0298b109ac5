-- What the next live dot, and how far the seen dots go on, say of the dead ones.
use Rattle.std.proofs.Common.{◌≡◌, ℕ, Bool, false, Option, Some, None, refl, sym, ◌∙◌, ap, arith, min}
use Rattle.std.specs.Prelude.{is_some}
use mathlib.Core.Bool.{false≢true}
use Rattle.std.specs.FinMap as map
use Rattle.std.specs.FinSet as set
use Rattle.rds_dots.specs.declared.dot.Run.{Run}
use Rattle.rds_dots.specs.Dots.{Dots, IsRun, first_of}
use Rattle.rds_dots.specs.Lacking.{dot_of}
use Rattle.rds_life.specs.Life.{Life, Live, Dead, Lived, entry_of, is_dead, seen_of}
use Rattle.rds_life.proofs.Views.{contains-seen_of}
use Rattle.rds_delta.specs.DeadParts.{IsDeadTo}
use Rattle.rds_delta.specs.Next.{IsLifeless}
use Rattle.rds_delta.specs.Parts.{IsStretch}

seen_dead : (o : Option Life) → is_some (entry_of o) ≡ false → is_dead o ≡ is_some o
seen_dead None h = refl
seen_dead (Some (Live e)) h = absurd (false≢true (sym h))
seen_dead (Some Dead) h = refl

pub dead_lifeless : (v : Lived) (r : Run) (s : Dots) → s ≡ seen_of v → IsRun r → (last : ℕ) → IsLifeless v (first_of r) last → (has : Bool) (until : ℕ) → IsStretch s (first_of r) has until → (hi : ℕ) → hi ≡ min (min r.hi last) until → IsDeadTo v r has hi
dead_lifeless v r s is run last lifeless has until seen hi e =
    let rises = run.rises in
    let from = lifeless.from in
    let from' = seen.from in
    record {
      from = omega arith;
      within = omega arith;
      alike = λ n a b. seen_dead (map.get v (dot_of r.replica n)) (lifeless.none n a (omega arith)) ∙ sym (contains-seen_of v (dot_of r.replica n)) ∙ ap (λ t. set.contains t (dot_of r.replica n)) (sym is) ∙ seen.alike n a (omega arith);
    }

-- A report of which a part was written.
use Rattle.std.proofs.Common.{ℕ, ◌+◌, List, ◌++◌, length, take, sym, subst, Option, Result, Ok, Err, OnErr, arith, length-append}
use Rattle.std.specs.Io.KnownBytes.{Appends}
use Rattle.std.proofs.KnownBytes.{Appends-trans}
use Rattle.std.proofs.Math.Seq.{take-append-add}
use Rattle.rds_names.specs.declared.fault.Fault.{Fault}
use Rattle.rds_keep.specs.Parts.{AppendsPart}

-- what was written whole, and then a part of the rest
pub part_after : {T : Type 0} (first now next : Option (List ℕ)) (front rest : List ℕ) (result : Result T Fault) → Appends first now front → OnErr result (AppendsPart now next rest)
    → OnErr result (AppendsPart first next (front ++ rest))
part_after first now next front rest (Ok x) p q = tt
part_after first now next front rest (Err e) p q =
    (length front + q.0, omega (arith, q.1, length-append front rest), subst (Appends first next) (sym (take-append-add front rest q.0)) (Appends-trans first now next front (take q.0 rest) p q.2))

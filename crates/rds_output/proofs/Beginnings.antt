-- Beginnings of what was to be written.
use Rattle.std.proofs.Common.{ℕ, ◌+◌, List, ◌++◌, length, take, Option, Result, Ok, Err, sym, subst, arith, length-append}
use Rattle.std.specs.Prelude.{OnOk, OnErr}
use Rattle.std.specs.Io.KnownBytes.{Appends}
use Rattle.std.proofs.KnownBytes.{Appends-trans}
use Rattle.std.proofs.Math.Seq.{take-append-add, take-length}
use Rattle.rds_keep.specs.Parts.{AppendsFront, AppendsPart}
use Rattle.rds_names.specs.declared.fault.Fault.{Fault}

-- all bytes are a prefix of them, and so is a part
pub front_written : (a b : Option (List ℕ)) (x : List ℕ) (r : Result (Unit {0}) Fault) → OnOk r (Appends a b x) → OnErr r (AppendsPart a b x)
    → AppendsFront a b x
front_written a b x (Ok u) whole part = (length x, omega arith, subst (Appends a b) (sym (take-length x)) whole)
front_written a b x (Err fault) whole part = (part.0, omega (arith, part.1), part.2)

-- bytes were written, and then a prefix of more
pub front_after : (a b c : Option (List ℕ)) (x y : List ℕ) → Appends a b x → AppendsFront b c y → AppendsFront a c (x ++ y)
front_after a b c x y first front =
    let n = front.0 in
    (length x + n, omega (arith, front.1, length-append x y), subst (Appends a c) (sym (take-append-add x y n)) (Appends-trans a b c x (take n y) first front.2))

use Rattle.std.proofs.Common.{◌≡◌, ℕ, List, Bool, true, false, Result, Ok, Err, refl, subst, inr, if◌then◌else◌, arith}
use Rattle.serde_json.specs.Read.{read}
use Rattle.rds_json.specs.MayGive.{MayGive}
use Rattle.rds_json.specs.Members.{of_one}
use Rattle.rds_json.specs.Scalar.{scalar_of}
use Rattle.rds_lines.proofs.Pieces.{other_is_none, text_is_line}
use Rattle.rds_lines.specs.Lines.{is_text_line}
use Rattle.rds_names.specs.declared.fault.Fault.{Fault}
use Rattle.rds_names.specs.declared.fault.Fault.TheVariants.{BadLine}
use Rattle.rds_names.specs.declared.scalar.Scalar.{Scalar}
use Rattle.rds_http.proofs.putting.body_value.Goals as goal

value_if : (is : Bool) (result due : Result Scalar Fault) → is ≡ true → MayGive result due → MayGive result (if is then due else Err BadLine)
value_if true result due h may = may
value_if false result due h may = absurd (cc)

none_if : (is : Bool) (due : Result Scalar Fault) → is ≡ false → MayGive (Err BadLine) (if is then due else Err BadLine)
none_if true due h = absurd (cc)
none_if false due h = inr refl

pub returns-in-Ok : goal.returns-in-Ok
returns-in-Ok c =
    let body = c.args.body.now in
    value_if (is_text_line body) c.value_of.result (of_one scalar_of (read body))
    (text_is_line body body (refl, omega (arith, c.if-body-gt-LONGEST.false)) c.in-Ok.ensures.cases.1)
    (subst (λ (t : List ℕ). MayGive c.value_of.result (of_one scalar_of (read t))) c.in-Ok.ensures.cases.0 c.value_of.ensures)

pub returns-in-Err : goal.returns-in-Err
returns-in-Err c =
    let body = c.args.body.now in
    none_if (is_text_line body) (of_one scalar_of (read body))
    (other_is_none body body (refl, omega (arith, c.if-body-gt-LONGEST.false)) c.in-Err.ensures.cases.0)

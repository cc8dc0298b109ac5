use Rattle.std.proofs.Common.{◌≡◌, inl, length, refl, rules, subst, sym, Err, arith}
use Rattle.rds_names.specs.declared.fault.Fault.TheVariants.{Memory}
use Rattle.rds_codec.specs.FormatWriting.{EncodesIn, IsUnwrittenIn}
use Rattle.rds_codec.specs.Measured.{format_with}
use Rattle.rds_codec.specs.StateTexts.{state_text_in}
use Rattle.rds_codec.specs.declared.formats.Format.{Format}
use Rattle.rds_codec.proofs.Texts.{refused_by, state_measured, unmeasured_in, unwritten_in, written_in}
use Rattle.rds_codec.proofs.states.encode_state_in.Given.{Over}
use Rattle.rds_codec.proofs.states.encode_state_in.Goals as goal

pub returns-in_err-measured : goal.returns-in_err-measured
returns-in_err-measured g c =
    record { text = refused_by _ _ c.from_residual.result c.in_err-measured.field-0.0 c.from_residual.ensures.1 (unmeasured_in c.args.format _ c.in_err-measured.field-0.0 c.in_err-measured.ensures.memory) }

pub returns-in_err-out : goal.returns-in_err-out
returns-in_err-out g c =
    let e = state_measured c.args.format c.args.state.now c.in_ok-measured.measured c.in_ok-measured.ensures.measured c.in_ok-measured.ensures.format in
    let fault = c.in_err-out.field-0.0 in
    record { text = refused_by _ _ c.from_residual-in_err-out.result fault c.from_residual-in_err-out.ensures.1 (subst (λ n. IsUnwrittenIn c.args.format n fault) e (unwritten_in c.args.format _ fault c.in_err-out.ensures)) }

pub returns-in_err-put_state : goal.returns-in_err-put_state
returns-in_err-put_state g c =
    let e = state_measured c.args.format c.args.state.now c.in_ok-measured.measured c.in_ok-measured.ensures.measured c.in_ok-measured.ensures.format in
    let is : c.from_residual-in_err-put_state.result ≡ Err Memory = search rules in
    let room = c.in_ok-out.ensures in
    record { text = rw is (unwritten_in c.args.format _ Memory (inl (refl, omega (arith, e, room.1)))) }

pub returns : goal.returns
returns g c =
    let v = c.args.state.now in
    let m = c.in_ok-measured.measured in
    let same = c.in_ok-measured.ensures.format in
    let exact = c.in_ok-measured.ensures.measured.exact in
    let room = c.in_ok-out.ensures in
    record { text = written_in c.args.format (format_with m.keys) (λ (f : Format). state_text_in f v) c.in_ok-out.out.items c.put_state.new.out.items same room.0 c.in_ok-put_state.ensures (omega (arith, exact, room.1)) }

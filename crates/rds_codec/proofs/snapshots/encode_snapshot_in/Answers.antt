use Rattle.std.proofs.Common.{◌≡◌, ◌<◌, ◌≤◌, ℕ, inl, length, refl, rules, subst, sym, ap, ◌∙◌, Ok, Err, arith}
use Rattle.std.proofs.lemmas.Result.{err_from_is_err_and}
use Rattle.rds_names.specs.declared.fault.Fault.TheVariants.{Memory}
use Rattle.rds_state.specs.Fits.{Fits}
use Rattle.rds_state.specs.Value.{StateValue, coordinates}
use Rattle.rds_codec.specs.FormatTexts.{snapshot_in_at, snapshot_kind_in}
use Rattle.rds_codec.specs.FormatWriting.{IsUnwrittenIn}
use Rattle.rds_codec.specs.Measured.{IsMeasured, IsUnmeasured, format_with}
use Rattle.rds_codec.specs.StateTexts.{IsSnapshot, IsStateOf, snapshot_text_in}
use Rattle.rds_codec.specs.declared.formats.Format.{Format}
use Rattle.rds_codec.specs.declared.limits.TheConstants.{LIMIT}
use Rattle.rds_codec.proofs.BothSnapshots.{snapshot_in_reader}
use Rattle.rds_codec.proofs.SmallTexts.{wants_memory}
use Rattle.rds_codec.proofs.Texts.{refused_by, unmeasured_in, unwritten_in, written_in}
use Rattle.rds_codec.proofs.Whole.{text_again}
use Rattle.rds_codec.proofs.snapshots.encode_snapshot_in.Given.{Over}
use Rattle.rds_codec.proofs.snapshots.encode_snapshot_in.Goals.{In_ok-put_snapshot}
use Rattle.rds_codec.proofs.snapshots.encode_snapshot_in.Goals as goal

-- the text that was written
written : (g : Over) (c : In_ok-put_snapshot g) → (c.put_snapshot.new.out.items ≡ snapshot_text_in c.args.format c.args.replica.now) × (length (snapshot_text_in c.args.format c.args.replica.now) ≤ LIMIT)
written g c =
    let room = c.in_ok-out.ensures in
    let len = c.length_of.ensures.length in
    written_in c.args.format (format_with c.in_ok-measured.measured.keys) (λ (f : Format). snapshot_text_in f c.args.replica.now) c.in_ok-out.out.items c.put_snapshot.new.out.items c.in_ok-measured.ensures.format room.0
    c.in_ok-put_snapshot.ensures (omega (arith, len, room.1))

pub returns-in_err-measured-clause-text : goal.returns-in_err-measured-clause-text
returns-in_err-measured-clause-text g c =
    refused_by _ _ c.from_residual.result c.in_err-measured.field-0.0 c.from_residual.ensures.1 (unmeasured_in c.args.format _ c.in_err-measured.field-0.0 c.in_err-measured.ensures.memory)

pub returns-in_err-out-clause-text : goal.returns-in_err-out-clause-text
returns-in_err-out-clause-text g c =
    let e = c.length_of.ensures.length ∙ ap (λ (f : Format). length (snapshot_text_in f c.args.replica.now)) c.in_ok-measured.ensures.format in
    let fault = c.in_err-out.field-0.0 in
    refused_by _ _ c.from_residual-in_err-out.result fault c.from_residual-in_err-out.ensures.1 (subst (λ n. IsUnwrittenIn c.args.format n fault) e (unwritten_in c.args.format _ fault c.in_err-out.ensures))

pub returns-in_err-out-clause-small : goal.returns-in_err-out-clause-small
returns-in_err-out-clause-small g c = λ lives counts.
    let p = err_from_is_err_and c.from_residual-in_err-out.result c.from_residual-in_err-out.ensures.1 in
    rw (p.1, p.2) (wants_memory c.length_of.result c.in_err-out.field-0.0 (c.length_of.ensures.small lives counts) c.in_err-out.ensures)

pub returns-in_err-put_snapshot-clause-text : goal.returns-in_err-put_snapshot-clause-text
returns-in_err-put_snapshot-clause-text g c =
    let e = c.length_of.ensures.length ∙ ap (λ (f : Format). length (snapshot_text_in f c.args.replica.now)) c.in_ok-measured.ensures.format in
    let is : c.from_residual-in_err-put_snapshot.result ≡ Err Memory = search rules in
    let room = c.in_ok-out.ensures in
    rw is (unwritten_in c.args.format _ Memory (inl (refl, omega (arith, e, room.1))))

pub returns-clause-text : goal.returns-clause-text
returns-clause-text g c = written g (goal.at.returns-clause-text g c).In_ok-put_snapshot

pub returns-clause-again : goal.returns-clause-again
returns-clause-again g c =
    let v = c.args.replica.now in
    let text = written g (goal.at.returns-clause-again g c).In_ok-put_snapshot in
    let state = c.state.ensures.state in
    let fits = subst (λ (s : StateValue). Fits (length v.roster.names) (coordinates s)) (sym state) c.state.ensures.fits in
    let is : IsSnapshot v = record { member = c.length_of.ensures.member; state = subst (IsStateOf (length v.roster.names)) state (c.in_ok-measured.ensures.value (length v.roster.names) fits) } in
    rw text.0 (text_again snapshot_kind_in snapshot_in_at snapshot_in_reader (c.args.format, v) is text.1)

use Rattle.std.proofs.Common.{ap, ◌∙◌, ◌++◌, length, arith}
use Rattle.rds_state.specs.Value.{StateValue}
use Rattle.rds_bytes.specs.Spelling.{member_text}
use Rattle.rds_codec.specs.Measured.{IsMeasured, format_with}
use Rattle.rds_codec.specs.StateTexts.{magic_of, state_text_in}
use Rattle.rds_codec.specs.declared.formats.Format.{Format}
use Rattle.rds_codec.proofs.Texts.{snapshot_length, snapshot_parts, OnOk-map}
use Rattle.rds_codec.proofs.snapshots.put_snapshot.Goals as goal

pub put_state-requires-clause-within : goal.put_state-requires-clause-within
put_state-requires-clause-within g c =
    let len = snapshot_length (format_with c.args.measured.now.keys) c.args.replica.now in
    omega (arith, len, c.requires.measured.exact, c.requires.within)

pub returns : goal.returns
returns g c =
    let format = format_with c.args.measured.now.keys in
    let a = c.args.out.now.items in
    let b = c.put_magic.new.out.items in
    let d = c.put_member.new.out.items in
    OnOk-map c.put_state.result
    (λ last. snapshot_parts format c.args.replica.now a b d c.put_state.new.out.items
    (c.in_ok-put_magic.ensures ∙ ap (λ (f : Format). a ++ magic_of f) c.format.ensures)
    (c.in_ok-put_member.ensures ∙ (λ i. b ++ member_text (c.roster.ensures i) (c.own.ensures.own i)))
    (last ∙ ap (λ (s : StateValue). d ++ state_text_in format s) c.state.ensures.state))
    c.put_state.ensures

use Rattle.std.proofs.Common.{◌≡◌, ℕ, ◌<◌, false, length, ◌∙◌, sym, ap, subst}
use Rattle.std.specs.Prelude.{is_some}
use Rattle.rds_bytes.specs.Values.{IsMember}
use Rattle.rds_codec.specs.StateTexts.{IsStateOf}
use Rattle.rds_life.specs.Life.{Conflicts}
use Rattle.rds_state.specs.Fits.{Fits}
use Rattle.rds_state.specs.Value.{coordinates}
use Rattle.rds_journal.specs.Records.{IsPayload, record_text}
use Rattle.rds_keep.specs.Changed.{IsRecordOf}
use Rattle.rds_keep.specs.Changes.{ChangeValue, change_text}
use Rattle.rds_keep.specs.Kept.{IsKept}
use Rattle.rds_keep.proofs.Appended.{is_record}
use Rattle.rds_keep.proofs.changed.Changed.new.Goals as goal

pub invariant_of-result : goal.invariant_of-result
invariant_of-result g c =
    let before = c.args.before.now in
    let after = c.args.replica.now in
    let change = c.args.change.now in
    let kept : IsKept c.of.result.value = rw c.of.ensures c.stands.ensures in
    let delta = ap (λ (x : ChangeValue). x.delta) c.change.view_is in
    let lives = c.lives.ensures ∙ ap (λ (s : _). s.lives) c.state.ensures.state in
    let conflicts : Conflicts after.state.lives change.delta.lives c.conflict.result = rw (lives, c.lives-2.ensures, delta) at c.conflict.ensures in
    let none : is_some c.conflict.result ≡ false = sym c.is_some.ensures ∙ c.if-is_some.false in
    let states : (n : ℕ) → Fits n (coordinates change.delta) → IsStateOf n change.delta = rw delta at c.states_have_texts.ensures.value in
    let member : after.own < length after.roster.names → IsMember after.roster after.own = rw (c.roster.ensures, c.own.ensures.own) at c.member_length.ensures.is_member in
    let text : c.in_ok-record.record.items ≡ record_text (change_text after.own change) = c.in_ok-record.ensures.text ∙ ap (λ (n : ℕ). record_text (change_text n change)) c.own-2.ensures.own in
    let payload : IsPayload (change_text after.own change) = subst (λ (n : ℕ). IsPayload (change_text n change)) c.own-2.ensures.own c.in_ok-record.ensures.payload in
    let is : IsRecordOf (record { before = before; after = after; bytes = c.in_ok-record.record.items }) =
    is_record before after change c.in_ok-record.record.items c.conflict.result c.requires.changed none conflicts states member c.own.ensures.within text payload in
    (kept, rw (c.of.ensures, c.of-2.ensures) is)

pub returns-clause-record : goal.returns-clause-record
returns-clause-record g c =
    let before = c.args.before.now in
    let after = c.args.replica.now in
    let change = c.args.change.now in
    let delta = ap (λ (x : ChangeValue). x.delta) c.change.view_is in
    let lives = c.lives.ensures ∙ ap (λ (s : _). s.lives) c.state.ensures.state in
    let conflicts : Conflicts after.state.lives change.delta.lives c.conflict.result = rw (lives, c.lives-2.ensures, delta) at c.conflict.ensures in
    let none : is_some c.conflict.result ≡ false = sym c.is_some.ensures ∙ c.if-is_some.false in
    let states : (n : ℕ) → Fits n (coordinates change.delta) → IsStateOf n change.delta = rw delta at c.states_have_texts.ensures.value in
    let member : after.own < length after.roster.names → IsMember after.roster after.own = rw (c.roster.ensures, c.own.ensures.own) at c.member_length.ensures.is_member in
    let text : c.in_ok-record.record.items ≡ record_text (change_text after.own change) = c.in_ok-record.ensures.text ∙ ap (λ (n : ℕ). record_text (change_text n change)) c.own-2.ensures.own in
    let payload : IsPayload (change_text after.own change) = subst (λ (n : ℕ). IsPayload (change_text n change)) c.own-2.ensures.own c.in_ok-record.ensures.payload in
    let is : IsRecordOf (record { before = before; after = after; bytes = c.in_ok-record.record.items }) =
    is_record before after change c.in_ok-record.record.items c.conflict.result c.requires.changed none conflicts states member c.own.ensures.within text payload in
    rw (c.of.ensures, c.of-2.ensures) is

use Rattle.std.proofs.Common.{◌∙◌, sym, ap, subst}
use Rattle.std.proofs.lemmas.Result.{err_from_is_err_and}
use Rattle.rds_state.specs.Fits.{ReplicaValue}
use Rattle.rds_state.specs.Value.{coordinates}
use Rattle.rds_codec.specs.Decoding.{IsTextOf}
use Rattle.rds_keep.specs.Changes.{ChangeValue, change_kind, roster_after}
use Rattle.rds_keep.specs.Replay.{Redoes, RefusesPayload, ReplayValue}
use Rattle.rds_keep.proofs.Replaying.{redone, unjoined}
use Rattle.rds_keep.proofs.replay.Replay.redo.Goals.{in-Some, in_default}
use Rattle.rds_keep.proofs.replay.Replay.redo.Goals as goal

pub returns-in_err-join_delta-clause-refused : goal.returns-in_err-join_delta-clause-refused
returns-in_err-join_delta-clause-refused g c =
    let p = err_from_is_err_and c.from_residual-in_err-join_delta.result c.from_residual-in_err-join_delta.ensures.1 in
    let now = c.self.inside in
    let old : ReplicaValue = record { roster = now.roster; own = now.own; state = now.state } in
    let change : ChangeValue = record { roster = c.roster.inside.roster; delta = c.roster.inside.delta } in
    let text = subst (λ (x : ChangeValue). IsTextOf (change_kind now.roster now.own) c.args.payload.now x) (sym c.roster.view_is) c.in_ok-roster.ensures.text in
    rw (p.1, p.2) (subst (λ (x : ReplayValue). RefusesPayload x.replica c.args.payload.now c.in_err-join_delta.field-0.0) c.self.view_is (unjoined old c.args.payload.now change c.in_err-join_delta.field-0.0 c.requires.payload text c.in_err-join_delta.ensures.fault))

pub returns-clause-ok : goal.returns-clause-ok
returns-clause-ok g c =
    let now = c.self.inside in
    let old : ReplicaValue = record { roster = now.roster; own = now.own; state = now.state } in
    let change : ChangeValue = record { roster = c.roster.inside.roster; delta = c.roster.inside.delta } in
    let text = subst (λ (x : ChangeValue). IsTextOf (change_kind now.roster now.own) c.args.payload.now x) (sym c.roster.view_is) c.in_ok-roster.ensures.text in
    let joined = c.in_ok-join_delta.ensures.joined in
    let compatible = c.in_ok-join_delta.ensures.compatible in
    let done : Redoes old c.args.payload.now c.match-roster-2.self.replica =
    elim c.match-roster-2.branch [
      | in-Some w ↦ redone old c.args.payload.now change c.match-roster-2.self.replica text (ap (λ (v : ReplayValue). v.replica.roster) w.self-is ∙ sym (ap (roster_after now.roster) w.in-Some.is))
          (ap (λ (v : ReplayValue). v.replica.own) w.self-is) (ap (λ (v : ReplayValue). coordinates v.replica.state) w.self-is ∙ joined) compatible
      | in_default w ↦ redone old c.args.payload.now change c.match-roster-2.self.replica text (ap (λ (v : ReplayValue). v.replica.roster) w.self-is ∙ sym (ap (roster_after now.roster) w.in_default.is))
          (ap (λ (v : ReplayValue). v.replica.own) w.self-is) (ap (λ (v : ReplayValue). coordinates v.replica.state) w.self-is ∙ joined) compatible
    ] in
    subst (λ (x : ReplayValue). Redoes x.replica c.args.payload.now c.match-roster-2.self.replica) c.self.view_is done

use Rattle.std.proofs.Common.{◌≡◌, Ok, Option, Result, sym, ap, ◌∙◌, subst, rules}
use Rattle.rds_names.specs.Roster.{RosterValue}
use Rattle.rds_names.specs.declared.fault.Fault.{Fault}
use Rattle.rds_state.specs.Fits.{Fits}
use Rattle.rds_state.specs.Value.{StateValue, coordinates}
use Rattle.rds_codec.specs.AnswerValues.{AnswerValue}
use Rattle.rds_codec.proofs.Replicas.{state_fits}
use Rattle.rds_session.specs.Judging.{Receives, delta_judged, read_then, replicas_of}
use Rattle.rds_session.specs.Marked.{told_mark}
use Rattle.rds_session.specs.Received.{IsChecked}
use Rattle.rds_session.proofs.judging.judge_delta.Goals as goal

pub returns-clause-brings : goal.returns-clause-brings
returns-clause-brings g c = λ turn longer read.
    let kept = c.args.kept.now in
    let peer = c.args.peer.now in
    let delta = c.answer.inside.state in
    let state = sym (ap (λ (a : AnswerValue). a.state) c.answer.view_is) in
    let fits = state_fits (replicas_of kept peer.roster) c.args.answer.state read.value.state in
    let mark = told_mark peer.version kept.state delta in
    let judged : delta_judged kept peer c.args.answer ≡ Ok (Receives delta peer.roster mark) = search rules in
    let checked : IsChecked kept (delta, peer.roster) = record {
      fits = subst (λ (v : StateValue). Fits (replicas_of kept peer.roster) (coordinates v)) state fits;
      grows = longer;
      above = c.in_ok-passes.ensures.above c.if-not-branch.false;
      came = (peer, read.body, ap (λ (r : Result AnswerValue Fault). read_then r (delta_judged kept peer)) read.read ∙ judged);
    } in
    subst (λ (r : Option RosterValue). IsChecked kept (delta, r)) (sym c.in_ok-roster.ensures.ok) checked

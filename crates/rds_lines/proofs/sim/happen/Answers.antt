use Rattle.std.proofs.Common.{rules, ◌≡◌, ◌∙◌, Err, Result, ap, subst, sym}
use Rattle.rds_names.specs.declared.fault.Fault.{Fault}
use Rattle.rds_names.specs.Roster.{RosterValue}
use Rattle.rds_lines.specs.Sim.{Group, done_reply}
use Rattle.rds_lines.specs.Simulated.{LeadsGroupTo}
use Rattle.rds_lines.proofs.Simulating.{happened, stopped}
use Rattle.rds_output.specs.declared.reply.Reply.{Reply}
use Rattle.rds_lines.proofs.sim.happen.Goals as goal

pub returns-in_err-done : goal.returns-in_err-done
returns-in_err-done g c =
    let f = c.in_err-done.field-0.0 in
    let is : c.from_residual.result ≡ Err f = search rules in
    subst (λ (r : Result Reply Fault). (now : Group) → LeadsGroupTo c.args.world.now now c.args.event.now r c.step.new.self) (sym is)
    (stopped c.args.world.now c.step.new.self c.args.event.now f c.in_err-done.ensures.refused c.in_err-done.ensures.err)

pub returns : goal.returns
returns g c =
    happened c.args.world.now c.step.new.self c.args.event.now c.in_ok-done.done c.done_reply.result c.in_ok-done.ensures.accepted c.in_ok-done.ensures.after c.in_ok-done.ensures.done c.in_ok-done.ensures.roster
    (c.done_reply.ensures ∙ ap (λ (r : RosterValue). done_reply r c.in_ok-done.done) c.roster.ensures)

use Rattle.std.proofs.Common.{◌∙◌, Ok, ap, sym}
use Rattle.std.proofs.lemmas.Result.{err_from_is_err_and}
use Rattle.rds_names.specs.Roster.{RosterValue}
use Rattle.rds_lines.specs.Sim.{request_of}
use Rattle.rds_lines.proofs.Simulating.{line_happens, line_refused, line_shows}
use Rattle.rds_lines.proofs.sim.meet_in.Goals as goal

pub returns-in_err-event : goal.returns-in_err-event
returns-in_err-event g c =
    let p = err_from_is_err_and c.from_residual.result c.from_residual.ensures.1 in
    let asked = ap (λ (r : RosterValue). request_of r c.args.line) (sym c.roster.ensures) ∙ sym c.request_of.ensures ∙ c.in_err-event.was in
    rw (p.1, p.2) (line_refused c.args.world.now c.args.line c.in_err-event.field-0.0 asked)

pub returns-in-Event : goal.returns-in-Event
returns-in-Event g c =
    let asked = ap (λ (r : RosterValue). request_of r c.args.line) (sym c.roster.ensures) ∙ sym c.request_of.ensures ∙ c.in_ok-event.was ∙ ap Ok c.in-Event.is in
    line_happens c.args.world.now c.happen.new.world c.args.line c.in-Event.event c.happen.result asked c.happen.ensures

pub returns-in-Show : goal.returns-in-Show
returns-in-Show g c =
    let asked = ap (λ (r : RosterValue). request_of r c.args.line) (sym c.roster.ensures) ∙ sym c.request_of.ensures ∙ c.in_ok-event.was ∙ ap Ok c.in-Show.is in
    line_shows c.args.world.now c.args.line c.in-Show.number c.in-Show.path c.show.result asked c.show.ensures.shown c.show.ensures.refused

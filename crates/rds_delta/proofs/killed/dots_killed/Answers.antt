use Rattle.std.proofs.Common.{◌&&◌, ◌||◌, sym, ◌∙◌, ap, subst}
use Rattle.std.specs.FinSet as set
use Rattle.rds_dots.specs.Dots.{in_run}
use Rattle.rds_delta.specs.DeadParts.{IsDeadTo}
use Rattle.rds_delta.proofs.KilledLemmas.{none_killed, all_killed, part_to, part_killed, fewer_places}
use Rattle.rds_delta.proofs.NothingSent.{one_killed}
use Rattle.rds_delta.proofs.killed.dots_killed.Goals as goal

pub killing-init : goal.killing-init
killing-init g c = none_killed c.args.lives.now (g.S.DotSet.contents c.args.live.now) (g.S.DotSet.contents c.empty-killed.result) c.empty-killed.ensures

pub returns-in-None-clause-ok : goal.returns-in-None-clause-ok
returns-in-None-clause-ok g c = all_killed c.args.lives.now (g.S.DotSet.contents c.args.live.now) c.killing.after (g.S.DotSet.contents c.killing.killed) c.in-None.ensures c.killing.invariant

pub killing-smaller : goal.killing-smaller
killing-smaller g c = fewer_places c.args.lives.now (g.S.DotSet.contents c.args.live.now) c.killing.after c.in-Some.part c.in-Some.ensures c.dead_from-dead.result.has c.dead_from-dead.result.until c.dead_from-dead.ensures c.killing.invariant.range

pub killing-preserved-in_ok-insert_run : goal.killing-preserved-in_ok-insert_run
killing-preserved-in_ok-insert_run g c =
    let live = g.S.DotSet.contents c.args.live.now in
    let killed = g.S.DotSet.contents c.killing.killed in
    let dead = c.dead_from-dead in
    part_killed c.args.lives.now live c.killing.after c.in-Some.part c.in-Some.ensures dead.result.has dead.result.until dead.ensures killed (g.S.DotSet.contents c.insert_run.new.self) c.killing.invariant
    (λ d. c.in_ok-insert_run.ensures.ok d ∙ ap (λ has. (has && in_run (part_to c.in-Some.part dead.result.until) d) || set.contains killed d) (sym c.if-dead.true))

pub killing-preserved : goal.killing-preserved
killing-preserved g c =
    let live = g.S.DotSet.contents c.args.live.now in
    let killed = g.S.DotSet.contents c.killing.killed in
    let dead = c.dead_from-dead in
    part_killed c.args.lives.now live c.killing.after c.in-Some.part c.in-Some.ensures dead.result.has dead.result.until dead.ensures killed killed c.killing.invariant
    (λ d. ap (λ has. (has && in_run (part_to c.in-Some.part dead.result.until) d) || set.contains killed d) (sym c.if-dead.false))

pub returns-in_err-insert_run-clause-nothing : goal.returns-in_err-insert_run-clause-nothing
returns-in_err-insert_run-clause-nothing g c = λ none.
    let live = g.S.DotSet.contents c.args.live.now in
    let dead = c.dead_from-dead in
    absurd (one_killed c.args.lives.now live c.killing.after c.in-Some.part c.in-Some.ensures dead.result.until
    (subst (λ has. IsDeadTo c.args.lives.now c.in-Some.part has dead.result.until) c.if-dead.true dead.ensures) none)

use Rattle.std.proofs.Common.{◌∙◌, ap}
use Rattle.std.specs.FinMap as map
use Rattle.rds_life.specs.Life.{Live}
use Rattle.rds_life.proofs.LivedLemmas.{no_row}
use Rattle.rds_life.proofs.Puts.{rise-put, without-put}
use Rattle.rds_life.proofs.Changes.{lives_of-put}
use Rattle.rds_life.proofs.DeadSets.{kept-put}
use Rattle.rds_life.proofs.lives.Lives.put_live.Goals as goal

pub insert-requires-clause-absent : goal.insert-requires-clause-absent
insert-requires-clause-absent g c =
    no_row (g.S.DotSet.contents c.self.inside.seen) c.self.inside.rows c.self.invariant.rows c.args.self.now c.self.view_is c.args.dot c.requires.unseen

pub remove-requires : goal.remove-requires
remove-requires g c = rw c.in_ok-insert.ensures.ok (rise-put c.args.dot c.args.entry c.self.inside.rows c.self.invariant.rows.rise)

pub invariant_of-self-in-Err : goal.invariant_of-self-in-Err
invariant_of-self-in-Err g c =
    let none = no_row (g.S.DotSet.contents c.self.inside.seen) c.self.inside.rows c.self.invariant.rows c.args.self.now c.self.view_is c.args.dot c.requires.unseen in
    rw (c.in-Err.ensures.err, c.remove.ensures, c.in_ok-insert.ensures.ok, without-put c.args.dot c.args.entry c.self.inside.rows c.self.invariant.rows.rise none) c.self.invariant

pub returns-in-Err-clause-err : goal.returns-in-Err-clause-err
returns-in-Err-clause-err g c =
    let none = no_row (g.S.DotSet.contents c.self.inside.seen) c.self.inside.rows c.self.invariant.rows c.args.self.now c.self.view_is c.args.dot c.requires.unseen in
    rw (c.in-Err.ensures.err, c.remove.ensures, c.in_ok-insert.ensures.ok, without-put c.args.dot c.args.entry c.self.inside.rows c.self.invariant.rows.rise none) c.self.view_is

pub invariant_of-self-in_default : goal.invariant_of-self-in_default
invariant_of-self-in_default g c =
    rw (c.in_default.ensures.ok, c.in_ok-insert.ensures.ok)
    (kept-put (g.S.DotSet.contents c.self.inside.seen) c.self.inside.rows c.self.inside.dead c.self.invariant c.args.dot c.args.entry (ap (λ v. map.get v c.args.dot) c.self.view_is ∙ c.requires.unseen))

pub returns-clause-ok : goal.returns-clause-ok
returns-clause-ok g c =
    rw (c.in_default.ensures.ok, c.in_ok-insert.ensures.ok)
    (lives_of-put (g.S.DotSet.contents c.self.inside.seen) c.self.inside.rows c.args.dot c.self.invariant.rows c.args.entry ∙ ap (λ v. map.insert v c.args.dot (Live c.args.entry)) c.self.view_is)

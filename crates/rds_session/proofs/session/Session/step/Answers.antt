use Rattle.std.proofs.Common.{refl, ap}
use Rattle.rds_session.specs.Session.{Standing}
use Rattle.rds_session.specs.Steps.{came, IsOver}
use Rattle.rds_session.proofs.Course.{continues, ends, rests, takes_none}
use Rattle.rds_session.proofs.Runs.{over_is}
use Rattle.rds_session.proofs.session.Session.step.Goals as goal

pub returns-in-Going-clause-course : goal.returns-in-Going-clause-course
returns-in-Going-clause-course g c =
    λ side kept heard is. continues side kept heard (came c.args.input) c.args.self.now c.go_on-send.new.self c.go_on-send.result.items c.go_on-send.ensures.steps is

pub returns-in-Going-clause-end : goal.returns-in-Going-clause-end
returns-in-Going-clause-end g c = λ begun none. ends c.args.self.now c.go_on-send.new.self (came c.args.input) c.go_on-send.result.items c.go_on-send.ensures.steps begun none

pub returns-in-Going-clause-nothing : goal.returns-in-Going-clause-nothing
returns-in-Going-clause-nothing g c = λ nothing. takes_none c.args.self.now c.go_on-send.new.self (came c.args.input) c.go_on-send.result.items c.go_on-send.ensures.steps nothing

pub returns-in-Done : goal.returns-in-Done
returns-in-Done g c =
    let e = ap (λ (s : Standing). s.ended) c.self.view_is in
    let over : IsOver c.args.self.now.ended = rw (← e) (over_is c.self.inside.ended c.in-Done.is) in
    let rest = rests c.args.self.now (came c.args.input) c.new.result.items over c.new.ensures.items in
    record {
      ended = e;
      kept = refl;
      device = λ h. h;
      over = λ h. (refl, c.new.ensures.items);
      end = λ begun none. ends c.args.self.now c.args.self.now (came c.args.input) c.new.result.items rest begun none;
      nothing = λ nothing. takes_none c.args.self.now c.args.self.now (came c.args.input) c.new.result.items rest nothing;
      course = λ side kept heard is. continues side kept heard (came c.args.input) c.args.self.now c.args.self.now c.new.result.items rest is;
    }

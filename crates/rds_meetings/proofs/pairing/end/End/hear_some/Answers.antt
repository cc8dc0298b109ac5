use Rattle.std.proofs.Common.{◌<◌, length, refl, rules}
use Rattle.rds_session.proofs.Turns.{came_end, came_piece}
use Rattle.rds_meetings.proofs.Hearing.{heard_the_end, hears_kept, hears_on}
use Rattle.rds_meetings.proofs.pairing.end.End.hear_some.Goals as goal

pub returns-in-Ok-eq0-clause-end : goal.returns-in-Ok-eq0-clause-end
returns-in-Ok-eq0-clause-end g c = rw (← c.self.view_is) (λ side kept is. c.take.ensures.end side kept is)

pub returns-in-Ok-eq0-clause-hears : goal.returns-in-Ok-eq0-clause-hears
returns-in-Ok-eq0-clause-hears g c =
    let room : 0 < length c.read.new.buf = search rules in
    let came = came_end _ _ c.in-Ok-eq0.field-0 c.read.new.buf c.in-Ok-eq0.ensures.bytes c.in-Ok-eq0.field-0-test room in
    rw (← c.self.view_is) (hears_on g.T.Read.remaining _ _ _ c.take.new.self c.read.new.self refl c.take.ensures.takes came)

pub returns-in-Ok-eq0-clause-last : goal.returns-in-Ok-eq0-clause-last
returns-in-Ok-eq0-clause-last g c =
    let room : 0 < length c.read.new.buf = search rules in
    let came = came_end _ _ c.in-Ok-eq0.field-0 c.read.new.buf c.in-Ok-eq0.ensures.bytes c.in-Ok-eq0.field-0-test room in
    rw (← c.self.view_is) (λ _. heard_the_end g.T.Read.remaining _ _ c.take.new.self c.read.new.self refl c.take.ensures.takes came.1)

pub returns-in-Ok-clause-end : goal.returns-in-Ok-clause-end
returns-in-Ok-clause-end g c = rw (← c.self.view_is) (λ side kept is. c.take-in-Ok.ensures.end side kept is)

pub returns-in-Ok-clause-hears : goal.returns-in-Ok-clause-hears
returns-in-Ok-clause-hears g c =
    let came = came_piece _ _ c.in-Ok.count c.read.new.buf c.split_at.result.0.now c.in-Ok.ensures.bytes c.split_at.ensures.front in
    rw (← c.self.view_is) (hears_on g.T.Read.remaining _ _ _ c.take-in-Ok.new.self c.read.new.self refl c.take-in-Ok.ensures.takes came)

pub returns-then-is_over-clause-hears : goal.returns-then-is_over-clause-hears
returns-then-is_over-clause-hears g c = rw (← c.self.view_is) (λ side kept first said is. hears_kept side kept first _ _ said _ c.read.new.self c.in-Err.ensures.bytes is)

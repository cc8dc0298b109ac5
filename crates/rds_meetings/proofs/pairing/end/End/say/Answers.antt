use Rattle.std.proofs.Common.{arith, refl}
use Rattle.rds_meetings.proofs.Hearing.{front_most, front_said}
use Rattle.rds_meetings.proofs.pairing.end.End.say.Goals as goal

pub returns-in-Ok-clause-said : goal.returns-in-Ok-clause-said
returns-in-Ok-clause-said g c = rw (← c.self.view_is) (record {
  some = omega (arith, c.in-Ok.count-test);
  within = omega (arith, c.in-Ok.ensures.bound, c.front.ensures.within);
  said = front_said _ _ c.in-Ok.count 1024 c.self.inside.pending c.front.result.now c.front.ensures.front c.in-Ok.ensures.bound c.in-Ok.ensures.bytes;
  left = rw c.advance.ensures refl;
})

pub returns-in-Ok-clause-piece : goal.returns-in-Ok-clause-piece
returns-in-Ok-clause-piece g c = front_most c.in-Ok.count 1024 c.self.inside.pending c.front.result.now c.front.ensures.front c.in-Ok.ensures.bound

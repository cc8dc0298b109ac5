use Rattle.std.proofs.Common.{◌≡◌, ℕ, List, Option, None, Err, refl}
use Rattle.rds_names.specs.declared.fault.Fault.TheVariants.{Cut}
use Rattle.rds_session.specs.Begun.{HoldsBegun}
use Rattle.rds_session.specs.Contents.{message_read}
use Rattle.rds_session.specs.declared.content.Expected.{Expected}
use Rattle.rds_session.specs.declared.message.Body.{Body}
use Rattle.rds_session.proofs.message.Message.end.Goals as goal

nothing_said : {S : Type 0} (expected : Expected) (body : Option (Body S)) (came : List ℕ) → body ≡ None → HoldsBegun expected body came → message_read expected came ≡ Err Cut
unfolding message_read
nothing_said expected body came none holds = let is = rw none at holds in rw is refl

pub returns-in-None-clause-read : goal.returns-in-None-clause-read
returns-in-None-clause-read g c = λ within. rw (← c.self.view_is) (nothing_said c.self.inside.expected c.self.inside.body c.self.inside.came.bytes c.in-None.is c.self.invariant.0)

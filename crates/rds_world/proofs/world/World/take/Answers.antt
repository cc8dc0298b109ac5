use Rattle.std.proofs.Common.{rules, ◌≡◌, ◌≤◌, ◌<◌, ◌∙◌, ap, refl, sym, subst, length, Err, slice_set}
use Rattle.rds_names.specs.declared.fault.Fault.TheVariants.{NoSuch}
use Rattle.rds_world.specs.declared.event.Event.TheVariants.{Take}
use Rattle.rds_world.specs.declared.event.Done.TheVariants.{Plain}
use Rattle.rds_world.specs.Steps.{IsStep, IsStopped}
use Rattle.rds_world.specs.Stored.{AnswerText, WorldValue}
use Rattle.rds_world.proofs.Performed.{IsDoneTo, value_of}
use Rattle.rds_world.proofs.Sendings.{fault_is}
use Rattle.rds_world.proofs.Tables.{read_there}
use Rattle.rds_world.proofs.Taken.{IsRead, IsSent, meet, sent_to, take_absent, take_done, take_stopped}
use Rattle.rds_world.proofs.world.World.take.Given.{Over}
use Rattle.rds_world.proofs.world.World.take.Goals.{After-answer, After-index_mut-replica, In_ok-take}
use Rattle.rds_world.proofs.world.World.take.Goals as goal

-- which answer it is
read : (g : Over) (c : After-answer g) → IsRead (value_of c.self.inside) c.args.number c.index-answer.result.now c.answer.inside.question c.answer.inside.asker
read g c =
    let n = c.args.number in
    let answers = c.self.inside.answers.items in
    let below : n < length answers = search rules in
    record {
      there = read_there answers n n c.index-answer.result.now refl below c.index-answer.ensures;
      question = ap (λ (t : AnswerText). t.question) c.answer.view_is;
      asker = ap (λ (t : AnswerText). t.asker) c.answer.view_is;
    }

-- to what ask of which replica
sent : (g : Over) (c : After-index_mut-replica g) → IsRead (value_of c.self.inside) c.args.number c.index-answer.result.now c.answer.inside.question c.answer.inside.asker
    → IsSent (value_of c.self.inside) c.args.number c.index-answer.result.now c.index-ask.result.now c.index_mut-replica.result.now c.from.result
sent g c is = sent_to (value_of c.self.inside) c.self.invariant c.args.number c.index-answer.result.now _ _ is c.index-ask.result.now c.index-ask.ensures c.index_mut-replica.result.now c.from.result c.from.ensures c.index_mut-replica.ensures.value

done : (g : Over) (c : In_ok-take g) → IsSent (value_of c.self.inside) c.args.number c.index-answer.result.now c.index-ask.result.now c.index_mut-replica.result.now c.from.result
    → IsDoneTo (value_of c.self.inside) (Take c.args.number) Plain (record (value_of c.self.inside) { memory = slice_set c.self.inside.memory.items c.from.result c.take.new.asker })
done g c is =
    take_done (value_of c.self.inside) c.self.invariant c.args.number c.index-answer.result.now c.index-ask.result.now c.index_mut-replica.result.now c.from.result is c.take.new.asker (c.in_ok-take.ensures.roster, c.in_ok-take.ensures.own)
    c.in_ok-take.ensures.ok

pub returns-then-number-len-clause-err : goal.returns-then-number-len-clause-err
returns-then-number-len-clause-err g c =
    let v = value_of c.self.inside in
    let absent : length v.answers ≤ c.args.number = search rules in
    subst (λ (u : WorldValue). IsStopped u (Take c.args.number) NoSuch u) c.self.view_is (take_absent v c.args.number absent)

pub index-ask-requires : goal.index-ask-requires
index-ask-requires g c =
    let is = read g (goal.at.index-ask-requires g c).After-answer in
    let below = c.self.invariant.answers c.args.number c.index-answer.result.now is.there in
    let here : c.answer.inside.question < length c.self.inside.asks.items = subst (λ k. k < length c.self.inside.asks.items) (sym is.question) below.1.0 in
    search rules

pub index_mut-replica-requires : goal.index_mut-replica-requires
index_mut-replica-requires g c =
    let is = read g (goal.at.index_mut-replica-requires g c).After-answer in
    let below = c.self.invariant.answers c.args.number c.index-answer.result.now is.there in
    let here : c.from.result < length c.self.inside.memory.items = subst (λ k. k < length c.self.inside.memory.items) (sym (c.from.ensures ∙ is.asker)) below.0 in
    search rules

pub take-requires : goal.take-requires
take-requires g c =
    let x = goal.at.take-requires g c in
    meet (value_of c.self.inside) c.self.invariant c.args.number c.index-answer.result.now c.index-ask.result.now c.index_mut-replica.result.now c.from.result (sent g x.After-index_mut-replica (read g x.After-answer))

pub returns-in_err-take-clause-err : goal.returns-in_err-take-clause-err
returns-in_err-take-clause-err g c =
    let x = goal.at.returns-in_err-take-clause-err g c in
    let v = value_of c.self.inside in
    let n = c.args.number in
    let f = c.in_err-take.field-0.0 in
    let is : c.from_residual.result ≡ Err f = search rules in
    fault_is _ _ f is (subst (λ (u : WorldValue). IsStopped u (Take n) f (record v { memory = slice_set v.memory c.from.result c.take.new.asker })) c.self.view_is
    (take_stopped v c.self.invariant n c.index-answer.result.now c.index-ask.result.now c.index_mut-replica.result.now c.from.result (sent g x.After-index_mut-replica (read g x.After-answer)) c.take.new.asker f
    c.in_err-take.ensures.err c.in_err-take.ensures.fault))

pub invariant_of-self-2 : goal.invariant_of-self-2
invariant_of-self-2 g c = let x = goal.at.invariant_of-self-2 g c in (done g x.In_ok-take (sent g x.After-index_mut-replica (read g x.After-answer))).world

pub returns-clause-ok : goal.returns-clause-ok
returns-clause-ok g c =
    let x = goal.at.returns-clause-ok g c in
    subst (λ (u : WorldValue). IsStep u (Take c.args.number) Plain (record (value_of c.self.inside) { memory = slice_set c.self.inside.memory.items c.from.result c.take.new.asker })) c.self.view_is
    (done g x.In_ok-take (sent g x.After-index_mut-replica (read g x.After-answer))).step

use Rattle.std.proofs.Common.{rules, ◌≡◌, ◌≤◌, ◌<◌, ◌∙◌, ◌++◌, ◌∷◌, [], max, ap, refl, sym, subst, length, Err}
use Rattle.rds_names.specs.declared.fault.Fault.TheVariants.{Memory, NoSuch}
use Rattle.rds_state.specs.Fits.{ReplicaValue}
use Rattle.rds_world.specs.declared.event.Event.TheVariants.{Answer}
use Rattle.rds_world.specs.declared.event.Done.TheVariants.{Answered}
use Rattle.rds_world.specs.Replies.{HasNoReply, IsReply}
use Rattle.rds_world.specs.Steps.{IsStep, IsStopped}
use Rattle.rds_world.specs.Stored.{AnswerText, WorldValue}
use Rattle.rds_world.proofs.Answered.{IsAsked, answer_absent, answer_done, answer_stopped, answer_unasked, asker_met}
use Rattle.rds_world.proofs.Answered.{due}
use Rattle.rds_world.proofs.Performed.{IsDoneTo, no_memory, stopped_same, value_of}
use Rattle.rds_world.proofs.Sendings.{fault_is}
use Rattle.rds_world.proofs.Tables.{read_there}
use Rattle.rds_world.proofs.world.World.answer.Given.{Over}
use Rattle.rds_world.proofs.world.World.answer.Goals.{After-index-ask, In_ok-push}
use Rattle.rds_world.proofs.world.World.answer.Goals as goal

-- who answers, and what is asked
asked : (g : Over) (c : After-index-ask g) → IsAsked (value_of c.self.inside) c.args.number c.args.question c.index.result.now c.index-ask.result.now
asked g c =
    let v = value_of c.self.inside in
    let n = c.args.number in
    let q = c.args.question in
    let below : n < length v.memory = search rules in
    let asks_lt : q < length v.asks = search rules in
    record {
      below = below;
      there = read_there v.kept c.from-at.result n c.index.result.now c.from-at.ensures (subst (λ k. n < k) (sym c.self.invariant.same_length) below) c.index.ensures;
      asked = read_there v.asks q q c.index-ask.result.now refl asks_lt c.index-ask.ensures;
    }

done : (g : Over) (c : In_ok-push g) → IsAsked (value_of c.self.inside) c.args.number c.args.question c.index.result.now c.index-ask.result.now
    → IsDoneTo (value_of c.self.inside) (Answer c.args.number c.args.question) (Answered c.len-number.result c.in_ok-answer.components) (record (value_of c.self.inside) { answers = c.push.new.self.items })
done g c at =
    let v = value_of c.self.inside in
    let m = c.index.result.now in
    let a = c.index-ask.result.now in
    let x = c.in_ok-answer.answer in
    let made = c.in_ok-answer.ensures in
    let kept_is = c.view_of-kept.ensures.replica in
    let reply : IsReply (max a.names (length m.roster.names)) a.bytes a.asker m.state x.bytes c.in_ok-answer.components =
    subst (λ (z : ReplicaValue). IsReply (max a.names (length z.roster.names)) a.bytes a.asker z.state x.bytes c.in_ok-answer.components) kept_is made.ok in
    let text : AnswerText = record { question = c.args.question; asker = a.asker; roster = m.roster; bytes = x.bytes } in
    let roster : x.roster ≡ m.roster = made.roster ∙ ap (λ (z : ReplicaValue). z.roster) kept_is in
    let whole : x ≡ text = λ j. record { question = made.question j; asker = made.asker j; roster = roster j; bytes = x.bytes } in
    let number : c.len-number.result ≡ length v.answers = search rules in
    let more : c.push.new.self.items ≡ v.answers ++ text ∷ [] = subst (λ (z : AnswerText). c.push.new.self.items ≡ v.answers ++ z ∷ []) whole c.in_ok-push.ensures.items in
    answer_done v c.self.invariant c.args.number c.args.question m a at x.bytes c.in_ok-answer.components c.len-number.result reply number c.push.new.self.items more

pub returns-then-at-len-clause-err : goal.returns-then-at-len-clause-err
returns-then-at-len-clause-err g c =
    let v = value_of c.self.inside in
    let n = c.args.number in
    let q = c.args.question in
    let absent : length v.memory ≤ n = search rules in
    subst (λ (u : WorldValue). IsStopped u (Answer n q) NoSuch u) c.self.view_is (answer_absent v n q absent)

pub returns-then-question-len-clause-err : goal.returns-then-question-len-clause-err
returns-then-question-len-clause-err g c =
    let v = value_of c.self.inside in
    let n = c.args.number in
    let q = c.args.question in
    let unasked : length v.asks ≤ q = search rules in
    subst (λ (u : WorldValue). IsStopped u (Answer n q) NoSuch u) c.self.view_is (answer_unasked v n q unasked)

pub answer-requires : goal.answer-requires
answer-requires g c =
    let a = c.index-ask.result.now in
    subst (λ (z : ReplicaValue). a.asker < max a.names (length z.roster.names)) (sym c.view_of-kept.ensures.replica)
    (asker_met (value_of c.self.inside) c.self.invariant c.args.number c.args.question c.index.result.now a (asked g (goal.at.answer-requires g c).After-index-ask))

pub returns-in_err-answer-clause-err : goal.returns-in_err-answer-clause-err
returns-in_err-answer-clause-err g c =
    let m = c.index.result.now in
    let a = c.index-ask.result.now in
    let f = c.in_err-answer.field-0.0 in
    let is : c.from_residual.result ≡ Err f = search rules in
    let why : HasNoReply (max a.names (length m.roster.names)) a.bytes a.asker m.state f =
    subst (λ (z : ReplicaValue). HasNoReply (max a.names (length z.roster.names)) a.bytes a.asker z.state f) c.view_of-kept.ensures.replica c.in_err-answer.ensures.fault in
    fault_is _ _ f is (subst (λ (u : WorldValue). IsStopped u (Answer c.args.number c.args.question) f u) c.self.view_is
    (answer_stopped (value_of c.self.inside) c.self.invariant c.args.number c.args.question m a (asked g (goal.at.returns-in_err-answer-clause-err g c).After-index-ask) f why))

pub returns-in_err-push-clause-err : goal.returns-in_err-push-clause-err
returns-in_err-push-clause-err g c =
    let v = value_of c.self.inside in
    let e = Answer c.args.number c.args.question in
    let is : c.from_residual-in_err-push.result ≡ Err Memory = search rules in
    let answers = c.in_err-push.ensures.items in
    let at = asked g (goal.at.returns-in_err-push-clause-err g c).After-index-ask in
    fault_is _ _ Memory is (subst (λ (u : WorldValue). IsStopped u e Memory (record v { answers = c.push.new.self.items })) c.self.view_is
    (stopped_same v (record v { answers = c.push.new.self.items }) e Memory (λ j. record v { answers = answers j })
    (no_memory v e Memory refl (due v c.self.invariant c.args.number c.args.question c.index.result.now c.index-ask.result.now at) (λ w. tt))))

pub invariant_of-self-2 : goal.invariant_of-self-2
invariant_of-self-2 g c = let x = goal.at.invariant_of-self-2 g c in (done g x.In_ok-push (asked g x.After-index-ask)).world

pub returns-clause-ok : goal.returns-clause-ok
returns-clause-ok g c =
    let x = goal.at.returns-clause-ok g c in
    subst (λ (u : WorldValue). IsStep u (Answer c.args.number c.args.question) (Answered c.len-number.result c.in_ok-answer.components) (record (value_of c.self.inside) { answers = c.push.new.self.items })) c.self.view_is
    (done g x.In_ok-push (asked g x.After-index-ask)).step

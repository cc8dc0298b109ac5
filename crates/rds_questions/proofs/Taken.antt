-- What a take of a response answers.
use Rattle.std.proofs.Common.{◌≡◌, inr, Result, Ok, Err, ap, subst, ◌∙◌}
use Rattle.std.specs.Prelude.{OnOk}
use Rattle.rds_names.specs.Roster.{RosterValue, OneBegins}
use Rattle.rds_names.specs.declared.fault.Fault.{Fault}
use Rattle.rds_state.specs.Fits.{ReplicaValue}
use Rattle.rds_state.specs.Grown.{TakeWithGives}
use Rattle.rds_state.specs.Value.{coordinates}
use Rattle.rds_delta.specs.Ranks.{Ranks, ranks}
use Rattle.rds_delta.specs.Digested.{ranks_in}
use Rattle.rds_delta.proofs.Digests.{ranks_of_digest}
use Rattle.rds_questions.specs.Questions.{QuestionValue, question_of}
use Rattle.rds_questions.specs.Receiving.{ReceivedValue}
use Rattle.rds_questions.specs.Taking.{AreReached, HasAllOf, IsGrownFrom, IsAsker, TakesReceived}

module _ (q : QuestionValue) (held : ReplicaValue) (is : IsAsker q held) (has : HasAllOf q.digest held.state) where
  gives_all : (x : ReceivedValue) (r : Result (Unit {0}) Fault) → TakeWithGives held.roster x.roster held.state held.own x.delta r → TakesReceived q held x r
  gives_all x (Ok u) gives = ((is, has), gives)
  gives_all x (Err e) gives = inr ((is, has), inr gives)

  pub takes : (x : ReceivedValue) (roster : RosterValue) → roster ≡ x.roster → (r : Result (Unit {0}) Fault) → TakeWithGives held.roster roster held.state held.own x.delta r → TakesReceived q held x r
  takes x roster same r gives = gives_all x r (subst (λ (s : RosterValue). TakeWithGives held.roster s held.state held.own x.delta r) same gives)

  -- the replica that asked is the one that holds what it had then, or more
  pub grown : (asked : ReplicaValue) → q ≡ question_of asked → IsGrownFrom asked held
  grown asked e = record {
    rosters = subst (λ (p : QuestionValue). OneBegins p.hello.roster held.roster) e is.rosters;
    own = is.own ∙ ap (λ (p : QuestionValue). p.hello.own) e;
    reached = subst (λ (b : Ranks). AreReached b (ranks (coordinates held.state))) (ap (λ (p : QuestionValue). ranks_in p.digest) e ∙ ranks_of_digest asked.state) has;
  }

pub on_ok : {T E P : Type 0} (r : Result T E) → P → OnOk r P
on_ok (Ok x) p = p
on_ok (Err e) p = tt

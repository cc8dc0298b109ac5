-- What a response brought to the replica that asked, in terms of the two replicas.
use Rattle.std.proofs.Common.{◌≡◌, ◌≢◌, ◌≤◌, ◌∙◌, ℕ, List, [], ◌++◌, max, length, Result, Ok, sym, ap, subst, arith, inl, inr}
use Rattle.rds_names.specs.Roster.{RosterValue, OneBegins, longer}
use Rattle.rds_names.specs.declared.fault.Fault.{Fault}
use Rattle.rds_state.specs.Coordinates.{join}
use Rattle.rds_state.specs.Fits.{ReplicaValue}
use Rattle.rds_state.specs.Value.{coordinates}
use Rattle.rds_delta.specs.Least.{least}
use Rattle.rds_delta.specs.Ranks.{ranks}
use Rattle.rds_codec.specs.Decoding.{IsTextOf, all_of}
use Rattle.rds_codec.specs.Laws.{HasText}
use Rattle.rds_codec.specs.StateTexts.{IsSnapshot}
use Rattle.rds_codec.specs.declared.limits.TheConstants.{LIMIT}
use Rattle.rds_codec.proofs.Whole.{text_again}
use Rattle.rds_questions.specs.Greeting.{GreetGives}
use Rattle.rds_questions.specs.Laws.{IsAnswered, BringsLacking}
use Rattle.rds_questions.specs.Questions.{QuestionValue, askers_of, question_kind, question_of, question_text}
use Rattle.rds_questions.specs.Receiving.{IsReceivedFrom, ReceivedValue, received_of}
use Rattle.rds_questions.specs.Responding.{IsRespondedBy, IsResponseTo}
use Rattle.rds_questions.specs.Responses.{ResponseValue, response_at, response_kind}
use Rattle.rds_questions.specs.Taking.{IsAsker}
use Rattle.rds_questions.proofs.Meeting.{deltas_are_least, is_brought, replicas_ask_well}
use Rattle.rds_questions.proofs.Readers.{response_reader}
use Rattle.rds_questions.proofs.Decoded.{questions_apart}
use Rattle.rds_world.proofs.Meeting.{longer_length}
use Rattle.rds_world.proofs.Open.{TakesAnswer}
use Rattle.rds_offline.specs.Letters.{TakesResponse}

same_ok : {V : Type 0} (a b : V) → ◌≡◌ {A = Result V Fault} (Ok a) (Ok b) → a ≡ b
same_ok a b e = cc

-- a text has one question
one_question : (bytes : List ℕ) (q p : QuestionValue) → length bytes ≤ LIMIT → IsTextOf question_kind bytes q → IsTextOf question_kind bytes p → q ≡ p
one_question bytes q p within is other =
    let first : HasText question_kind q = record { is_value = is.is_value; within = subst (λ (b : List ℕ). length b ≤ LIMIT) is.spelled within } in
    let second : HasText question_kind p = record { is_value = other.is_value; within = subst (λ (b : List ℕ). length b ≤ LIMIT) other.spelled within } in
    (questions_apart q p [] [] first second (ap (λ (t : List ℕ). t ++ []) (sym is.spelled ∙ other.spelled))).0

-- the least delta for the one that asked, and the longer of the rosters; it was taken by the one that asked
pub record Brought (asked peer before : ReplicaValue) (received : ReceivedValue) : Type 0 where
  pub least : coordinates received.delta ≡ least (coordinates peer.state) (ranks (coordinates asked.state))
  pub roster : received.roster ≡ longer asked.roster peer.roster
  pub replica : IsAsker (question_of asked) before

-- a replica responded to this question
pub record Responded (question answer : List ℕ) (peer : ReplicaValue) : Type 0 where
  pub asked : QuestionValue
  pub within : length question ≤ LIMIT
  pub is_question : IsTextOf question_kind question asked
  pub greets : GreetGives {T = Unit {0}} peer.roster peer.own asked.hello (Ok tt)
  pub responds : IsRespondedBy asked peer answer

module _ (asked peer before after : ReplicaValue) (question answer : List ℕ) (components : ℕ) (asked_value : IsSnapshot asked) (peer_value : IsSnapshot peer) (text : question ≡ question_text (question_of asked))
    (responded : Responded question answer peer) (takes : TakesResponse question answer before after components) where
  abbrev Q : QuestionValue
  Q = question_of asked

  asked_text : IsTextOf question_kind question Q
  asked_text = record { is_value = (replicas_ask_well asked asked_value).question; spelled = text }

  taken_question : takes.asked ≡ Q
  taken_question = one_question question takes.asked Q takes.within takes.is_question asked_text

  answered_question : responded.asked ≡ Q
  answered_question = one_question question responded.asked Q responded.within responded.is_question asked_text

  abbrev r : ResponseValue
  r = responded.responds.response

  is_answered_by : IsAnswered Q peer r
  is_answered_by =
      let greets = subst (λ (q : QuestionValue). OneBegins peer.roster q.hello.roster × (peer.own ≢ q.hello.own)) answered_question responded.greets in
      record {
        question = asked_text.is_value;
        peer_text = peer_value;
        rosters = begins_back peer.roster asked.roster greets.0;
        others = λ same. greets.1 (sym same);
        responds = subst (λ (q : QuestionValue). IsResponseTo q peer r) answered_question responded.responds.responds;
        within = subst (λ (b : List ℕ). length b ≤ LIMIT) responded.responds.text responded.responds.within;
      }
    where
      begins_back : (a b : RosterValue) → OneBegins a b → OneBegins b a
      begins_back a b h = elim h [ inl one ↦ inr one | inr other ↦ inl other ]

  brings : BringsLacking Q peer r
  brings = is_brought Q peer r is_answered_by

  received : IsReceivedFrom Q answer takes.received
  received = subst (λ (q : QuestionValue). IsReceivedFrom q answer takes.received) taken_question takes.is_received

  same_response : received.response ≡ r
  same_response =
      let n = askers_of Q in
      let said = received.text in
      let first = text_again (response_kind n) (response_at n) (response_reader n) received.response said.is_value (subst (λ (b : List ℕ). length b ≤ LIMIT) said.spelled received.within) in
      same_ok received.response r (sym first ∙ ap (all_of (response_at n)) (sym said.spelled ∙ responded.responds.text) ∙ brings.again)

  is_received : takes.received ≡ received_of Q r
  is_received = received.gives.1.1.1 ∙ ap (received_of Q) same_response

  pub brought : Brought asked peer before takes.received
  brought = record {
    least = ap (λ (x : ReceivedValue). coordinates x.delta) is_received ∙ deltas_are_least asked peer r is_answered_by;
    roster = ap (λ (x : ReceivedValue). x.roster) is_received ∙ brings.roster;
    replica = subst (λ (q : QuestionValue). IsAsker q before) taken_question takes.replica;
  }

  names : length asked.roster.names ≤ length before.roster.names → length after.roster.names ≡ max (length before.roster.names) (length peer.roster.names)
  names enough =
      let both : length after.roster.names ≡ max (length before.roster.names) (length takes.received.roster.names) =
      ap (λ (s : RosterValue). length s.names) takes.taken.roster ∙ longer_length before.roster takes.received.roster in
      let came : length takes.received.roster.names ≡ max (length asked.roster.names) (length peer.roster.names) =
      ap (λ (s : RosterValue). length s.names) brought.roster ∙ longer_length asked.roster peer.roster in
      omega (arith, both, came, enough)

  -- it is the model's take, where the roster of the one that asked is no shorter by then
  pub takes_answer : length asked.roster.names ≤ length before.roster.names → TakesAnswer asked peer before after
  takes_answer enough = record {
    asker = brought.replica.own;
    own = takes.taken.own;
    joined = takes.taken.joined ∙ ap (join (coordinates before.state)) brought.least;
    names = names enough;
  }

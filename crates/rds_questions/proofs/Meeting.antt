-- What one asks another reads, and what that responds the one receives.
use Rattle.std.proofs.Common.{◌≡◌, ℕ, ◌≤◌, ◌<◌, true, length, refl, sym, ap, subst, ◌∙◌, arith}
use Rattle.std.specs.Prelude.{◌≢◌}
use Rattle.rds_state.specs.Coordinates.{Coordinates}
use Rattle.rds_state.specs.Fits.{ReplicaValue}
use Rattle.rds_names.specs.Roster.{OneBegins, longer}
use Rattle.rds_state.specs.Value.{coordinates}
use Rattle.rds_delta.specs.Digested.{ranks_in}
use Rattle.rds_delta.specs.Least.{IsAbove, least}
use Rattle.rds_delta.specs.Ranks.{Ranks}
use Rattle.rds_delta.proofs.Digests.{ranks_of_digest}
use Rattle.rds_delta.proofs.LeastLaws.{least_above}
use Rattle.rds_bytes.proofs.PartFormats.{few_of_names}
use Rattle.rds_codec.specs.AnswerTexts.{IsAnswerOf, answer}
use Rattle.rds_codec.specs.AnswerValues.{AnswerValue}
use Rattle.rds_codec.specs.Exchanged.{IsAnswerTo, IsCertified}
use Rattle.rds_codec.specs.HelloTexts.{IsHello, is_version, version_of}
use Rattle.rds_codec.specs.declared.formats.Format.{Format}
use Rattle.rds_codec.specs.declared.formats.Format.TheVariants.{One, Two}
use Rattle.rds_codec.specs.declared.hellos.Hello.{Hello}
use Rattle.rds_codec.proofs.Longer.{digest_longer, state_longer}
use Rattle.rds_codec.proofs.Whole.{text_again}
use Rattle.rds_answers.specs.Checked.{certificate_of, least_state}
use Rattle.rds_answers.proofs.Checks.{delta_is}
use Rattle.rds_answers.proofs.Tellings.{answer_is, digest_is}
use Rattle.rds_questions.specs.Laws.{DeltasAreLeast, HaveOneResponse, IsAnswered, BringsLacking, ReplicasAskWell}
use Rattle.rds_questions.specs.Questions.{QuestionValue, askers_of}
use Rattle.rds_questions.specs.Receiving.{MayTalk}
use Rattle.rds_questions.specs.Responding.{hello_to}
use Rattle.rds_questions.specs.Responses.{IsResponse, ResponseValue, format_said, replicas_with, response_at, response_kind}
use Rattle.rds_questions.proofs.Readers.{response_reader}
use Rattle.rds_questions.proofs.TagTexts.{tag_is, the_tag}

-- ---- questions

pub replicas_ask_well : ReplicasAskWell
replicas_ask_well asked is = record {
  question = record { hello = record { version = refl; member = is.member }; digest = digest_is (length asked.roster.names) asked.state is.state };
  told = ranks_of_digest asked.state;
}

-- ---- one response

-- the answer is that of the least delta and its certificate
answer_value : (q : QuestionValue) (peer : ReplicaValue) (a : AnswerValue) → IsAnswerTo q.digest q.hello.own peer.state a
    → a ≡ (let delta = least_state peer.state q.digest in answer q.hello.own delta (certificate_of q.digest delta))
answer_value q peer a is =
    let delta = least_state peer.state q.digest in
    delta_is peer.state q.digest a.asker a.state a.certificate is.delta is.certificate ∙ ap (λ n. answer n delta (certificate_of q.digest delta)) is.asked

pub one_response : HaveOneResponse
one_response q peer r s one other =
    let hellos = one.hello ∙ sym other.hello in
    let answers = answer_value q peer r.answer one.answers ∙ sym (answer_value q peer s.answer other.answers) in
    let tags = the_tag peer r.tag one.tag ∙ sym (the_tag peer s.tag other.tag) in
    λ i. record { hello = hellos i; tag = tags i; answer = answers i }

-- ---- a response that is received

spoken : (f : Format) → is_version (version_of f) ≡ true
spoken One = refl
spoken Two = refl

module _ (q : QuestionValue) (peer : ReplicaValue) (r : ResponseValue) (h : IsAnswered q peer r) where
  abbrev answers : IsAnswerTo q.digest q.hello.own peer.state r.answer
  answers = h.responds.answers

  own_byte : q.hello.own < 256
  own_byte =
      let few = few_of_names q.hello.roster.names h.question.hello.member.names in
      let own : q.hello.own < askers_of q = h.question.hello.member.own_number in
      omega (arith, few, own)

  hello_is : IsHello (hello_to q peer)
  hello_is = record { version = spoken (format_said q.hello.version); member = h.peer_text.member }

  -- the answer is one of the replicas of the longer roster
  answer_of : (replicas : ℕ) → askers_of q ≤ replicas → length peer.roster.names ≤ replicas → IsAnswerOf replicas r.answer
  answer_of replicas more longer_peer =
      let a = r.answer in
      let own : q.hello.own < askers_of q = h.question.hello.member.own_number in
      let digest = digest_longer (askers_of q) replicas more q.digest h.question.digest in
      let state = state_longer (length peer.roster.names) replicas longer_peer peer.state h.peer_text.state in
      let same = delta_is peer.state q.digest a.asker a.state a.certificate answers.delta answers.certificate in
      let asker : (a.asker < 256) × (a.asker < replicas) = subst (λ n. (n < 256) × (n < replicas)) (sym answers.asked) (own_byte, omega (arith, own, more)) in
      subst (IsAnswerOf replicas) (sym same) (answer_is replicas a.asker peer.state q.digest asker state digest)

  response_is : IsResponse (askers_of q) r
  response_is = record {
    hello = subst IsHello (sym h.responds.hello) hello_is;
    tag = tag_is peer r.tag h.responds.tag;
    answer = subst (λ (x : Hello). IsAnswerOf (replicas_with (askers_of q) x) r.answer) (sym h.responds.hello)
        (answer_of (replicas_with (askers_of q) (hello_to q peer)) (omega arith) (omega arith));
  }

  may_talk : MayTalk q r
  may_talk = subst (λ (x : Hello). OneBegins q.hello.roster x.roster × (q.hello.own ≢ x.own)) (sym h.responds.hello) (h.rosters, h.others)

  certified : IsCertified q.digest r.answer
  certified = (subst (λ (c : Coordinates). IsAbove c (ranks_in q.digest)) (sym answers.delta) (least_above (coordinates peer.state) (ranks_in q.digest)), answers.certificate)

  pub is_brought : BringsLacking q peer r
  is_brought =
      let n = askers_of q in
      record {
        again = text_again (response_kind n) (response_at n) (response_reader n) r response_is h.within;
        received = (may_talk, (answers.asked, (certified, refl)));
        delta = answers.delta;
        roster = ap (λ (x : Hello). longer q.hello.roster x.roster) h.responds.hello;
      }

pub deltas_are_least : DeltasAreLeast
deltas_are_least asked peer r h = h.responds.answers.delta ∙ ap (λ (b : Ranks). least (coordinates peer.state) b) (ranks_of_digest asked.state)

use Rattle.std.proofs.Common.{◌≡◌, ◌<◌, ◌≤◌, ◌⊎◌, Ok, Err, length, max, sym, subst, ◌∙◌}
use Rattle.std.proofs.lemmas.Result.{err_from_is_err_and}
use Rattle.rds_names.specs.Roster.{RosterValue}
use Rattle.rds_state.specs.Fits.{Fits}
use Rattle.rds_state.specs.Grown.{TakeWithGives}
use Rattle.rds_state.specs.Value.{StateValue, coordinates}
use Rattle.rds_delta.specs.Digested.{DigestValue, digest_of}
use Rattle.rds_codec.specs.DigestTexts.{digest_text}
use Rattle.rds_codec.specs.declared.limits.TheConstants.{LIMIT}
use Rattle.rds_codec.specs.Exchanged.{CanRead, IsAnswerTo, IsCertified, IsLongDigest, IsLongAnswer, replicas_of_both}
use Rattle.rds_codec.proofs.ExchangeLemmas.{IsAsked, checked_text, answer_is_above, answer_is_taken, answer_joins, asked_of, can_read, untaken}
use Rattle.rds_codec.proofs.exchanges.pull.Given.{Over}
use Rattle.rds_codec.proofs.exchanges.pull.Goals.{In_ok-roster, In_ok-take_answer, In_err-take_answer}
use Rattle.rds_codec.proofs.exchanges.pull.Goals as goal

-- the texts are read with the longer of the two rosters
many : (g : Over) (c : In_ok-roster g) → c.replicas_of-replicas.result ≡ replicas_of_both c.args.answerer.now c.args.asker.now
many g c = c.replicas_of-replicas.ensures ∙ (λ j. max (length (c.roster.ensures j).names) (length (c.roster-2.ensures j).names))

-- and the one that comes with the answer is the answerer's
same : (g : Over) (c : In_ok-roster g) → c.in_ok-roster.roster ≡ c.args.answerer.now.roster
same g c = c.in_ok-roster.ensures.ok ∙ c.roster-3.ensures

-- what was asked and answered, in terms of the replicas themselves
told : (g : Over) (c : In_ok-roster g) → CanRead c.args.answerer.now c.args.asked.now c.args.asker.now
    → IsAsked c.args.answerer.now c.args.asked.now c.args.asker.now c.in_ok-digest.digest c.in_ok-answer.answer
told g c =
    asked_of c.replicas_of-replicas.result c.own.result c.args.answerer.now c.args.asked.now c.args.asker.now c.state.result.now c.state-2.result.now c.in_ok-digest.digest c.in_ok-answer.answer
    (many g c) c.own.ensures.own (subst (λ n. n < length c.args.asker.now.roster.names) (sym c.own.ensures.own) c.own.ensures.within)
    c.state.ensures.state c.state-2.ensures.state c.state-2.ensures.fits c.in_ok-digest.ensures.ok c.in_ok-answer.ensures.ok

-- what the take gives, of the answerer's roster
given : (g : Over) (c : In_ok-take_answer g) → TakeWithGives {T = Unit {0}} c.args.asker.now.roster c.args.answerer.now.roster c.args.asker.now.state c.args.asker.now.own c.in_ok-answer.answer.state (Ok tt)
given g c =
    let mine = c.args.asker.now in
    subst (λ (r : RosterValue). TakeWithGives {T = Unit {0}} mine.roster r mine.state mine.own c.in_ok-answer.answer.state (Ok tt)) (c.in_ok-roster.ensures.ok ∙ c.roster-3.ensures)
    (c.in_ok-take_answer.ensures.taken c.in_ok-take_answer.ensures.asked c.in_ok-take_answer.ensures.checked)

refused : (g : Over) (c : In_err-take_answer g) → c.in_ok-answer.answer.asker ≡ c.args.asker.now.own → IsCertified c.in_ok-digest.digest c.in_ok-answer.answer
    → TakeWithGives {T = Unit {0}} c.args.asker.now.roster c.args.answerer.now.roster c.args.asker.now.state c.args.asker.now.own c.in_ok-answer.answer.state (Err c.in_err-take_answer.field-0.0)
refused g c asked is =
    let mine = c.args.asker.now in
    subst (λ (r : RosterValue). TakeWithGives {T = Unit {0}} mine.roster r mine.state mine.own c.in_ok-answer.answer.state (Err c.in_err-take_answer.field-0.0)) (c.in_ok-roster.ensures.ok ∙ c.roster-3.ensures)
    (c.in_err-take_answer.ensures.taken asked is)

pub take_answer-requires : goal.take_answer-requires
take_answer-requires g c =
    let x = (goal.at.take_answer-requires g c).In_ok-roster in
    let mine = c.args.asker.now.roster.names in
    let delta = coordinates c.in_ok-answer.answer.state in
    subst (λ (r : RosterValue). Fits (max (length mine) (length r.names)) delta) (sym (same g x)) (subst (λ n. Fits n delta) (many g x) c.in_ok-answer.ensures.fits)

pub returns-clause-pulled : goal.returns-clause-pulled
returns-clause-pulled g c =
    let x = (goal.at.returns-clause-pulled g c).In_ok-take_answer in
    let asked = c.args.asked.now.state in
    record {
      meet = (given g x).0;
      own = c.in_ok-take_answer.ensures.asked;
      within = (subst (λ (v : StateValue). length (digest_text (digest_of v)) ≤ LIMIT) c.state.ensures.state c.in_ok-digest.ensures.within, c.in_ok-answer.ensures.within);
      checked = record {
        digest = c.in_ok-digest.digest;
        brought = checked_text asked c.replicas_of-replicas.result (replicas_of_both c.args.answerer.now c.args.asker.now) c.state.result.now c.in_ok-digest.digest
            (many g (goal.at.returns-clause-pulled g c).In_ok-roster) c.state.ensures.state c.in_ok-digest.ensures.brought;
        certified = c.in_ok-take_answer.ensures.checked;
      };
    }

pub returns-clause-takes : goal.returns-clause-takes
returns-clause-takes g c = given g (goal.at.returns-clause-takes g c).In_ok-take_answer

pub returns-clause-answer : goal.returns-clause-answer
returns-clause-answer g c = λ can.
    (let is = told g (goal.at.returns-clause-answer g c).In_ok-roster can in
    subst (λ (d : DigestValue). IsAnswerTo d c.args.asker.now.own c.args.answerer.now.state c.in_ok-answer.answer) is.same is.answers)

pub returns-clause-joined : goal.returns-clause-joined
returns-clause-joined g c = λ can.
    (let answerer = c.args.answerer.now in
    let asked = c.args.asked.now in
    let mine = c.args.asker.now in
    let is = told g (goal.at.returns-clause-joined g c).In_ok-roster (can_read answerer asked mine c.state.ensures.fits can) in
    c.in_ok-take_answer.ensures.ok ∙ answer_joins c.in_ok-digest.digest mine.own answerer.state c.in_ok-answer.answer is.answers asked.state mine.state is.same can.grown)

pub returns-in_err-take_answer-clause-fault : goal.returns-in_err-take_answer-clause-fault
returns-in_err-take_answer-clause-fault g c =
    let x = goal.at.returns-in_err-take_answer-clause-fault g c in
    let answerer = c.args.answerer.now in
    let asked = c.args.asked.now in
    let mine = c.args.asker.now in
    let digest = c.in_ok-digest.digest in
    let a = c.in_ok-answer.answer in
    let IsLong = IsLongDigest asked.state ⊎ IsLongAnswer (digest_of asked.state) mine.own answerer.state in
    let p = err_from_is_err_and c.from_residual-in_err-take_answer.result c.from_residual-in_err-take_answer.ensures.1 in
    rw (p.1, p.2) (λ can.
    (let is = (told g x.In_ok-roster (can_read answerer asked mine c.state.ensures.fits can)).answers in
    answer_is_taken digest mine.own answerer.state a is answerer.own mine.roster answerer.roster mine.state (Err c.in_err-take_answer.field-0.0) IsLong can.meet can.friends
    (refused g x.In_err-take_answer is.asked (answer_is_above digest mine.own answerer.state a is, is.certificate))))

pub returns-in_err-take_answer-clause-refusal : goal.returns-in_err-take_answer-clause-refusal
returns-in_err-take_answer-clause-refusal g c =
    let x = goal.at.returns-in_err-take_answer-clause-refusal g c in
    let p = err_from_is_err_and c.from_residual-in_err-take_answer.result c.from_residual-in_err-take_answer.ensures.1 in
    rw (p.1, p.2) (λ can.
    untaken c.args.answerer.now c.args.asked.now c.args.asker.now c.in_ok-digest.digest c.in_ok-answer.answer c.in_err-take_answer.field-0.0 (told g x.In_ok-roster can) (refused g x.In_err-take_answer))

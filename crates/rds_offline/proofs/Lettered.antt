-- A file that answers a question, and a file that takes an answer.
use Rattle.std.proofs.Common.{◌≡◌, ◌≤◌, ◌<◌, ◌∙◌, ◌↔◌, ℕ, Bool, List, length, Result, Ok, Err, subst, sym, inl, inr}
use Rattle.std.specs.Prelude.{IfOk, IsTrue}
use Rattle.std.specs.Global.{Vec}
use Rattle.std.proofs.lemmas.Bool.{cases_lt}
use Rattle.rds_names.specs.declared.fault.Fault.{Fault}
use Rattle.rds_names.specs.declared.fault.Fault.TheVariants.{TooLong}
use Rattle.rds_codec.specs.Decoding.{IsTextOf, all_of}
use Rattle.rds_codec.specs.StateTexts.{IsSnapshot}
use Rattle.rds_codec.specs.declared.limits.TheConstants.{LIMIT}
use Rattle.rds_files.specs.Files.{FileValue, IsHeldAt, IsReadAt, IsUnkept, KeptFile, ReplacedValue}
use Rattle.rds_listing.specs.Evidence.{evidence_text}
use Rattle.rds_questions.specs.Forks.{TellsFork}
use Rattle.rds_questions.specs.Questions.{QuestionValue, askers_of, question_kind}
use Rattle.rds_questions.specs.Receiving.{IsReceivedFrom, ReceivedValue, ReceivesRead}
use Rattle.rds_questions.specs.Responding.{RespondGives}
use Rattle.rds_questions.specs.Responses.{response_at}
use Rattle.rds_questions.specs.Tags.{RefusesTag}
use Rattle.rds_questions.specs.Taking.{HasAllOf, IsAsker, TakesReceived}
use Rattle.rds_state.specs.Coordinates.{join}
use Rattle.rds_state.specs.Fits.{ReplicaValue}
use Rattle.rds_names.specs.Roster.{longer}
use Rattle.rds_state.specs.Value.{coordinates, size}
use Rattle.rds_offline.specs.Letters.{AnswersFile, BringsNothing, ChecksTexts, IsTakenFrom, RefusesAnswer, RefusesCheck, RefusesTake, RefusesTakeIn, TakesFile}

-- what decoding a question gave
abbrev pub IsGiven : List ℕ → QuestionValue → Type 0
IsGiven question asked = (length question ≤ LIMIT) × IsTextOf question_kind question asked

-- ---- answering

module _ (path question : List ℕ) (asked : QuestionValue) (file : FileValue) (given : ReplicaValue) (is : IsGiven question asked) (read : IsReadAt path file) (same : given ≡ file.kept) where
  pub no_answer : (fault : Fault) → RespondGives asked given (Err fault) → RefusesAnswer question fault
  no_answer fault refused = inr (inr (record {
    asked = asked;
    is_question = is.1;
    held = file.kept;
    value = read.value;
    why = subst (λ (v : ReplicaValue). RespondGives asked v (Err fault)) same refused;
  }))

  pub answers_file : (bytes : Vec ℕ) → RespondGives asked given (Ok bytes) → AnswersFile path question file bytes.items
  answers_file bytes gives =
      let gives_it = subst (λ (v : ReplicaValue). RespondGives asked v (Ok bytes)) same gives in
      record { read = read; asked = asked; within = is.0; is_question = is.1; greets = gives_it.0; responds = gives_it.1 }

-- ---- taking

-- a take of it is refused
pub no_take : (asked : QuestionValue) (received : ReceivedValue) (before old : ReplicaValue) (fault : Fault) → old ≡ before → TakesReceived asked old received (Err fault) → RefusesTakeIn asked received before fault
no_take asked received before old fault same refused = inl (subst (λ (v : ReplicaValue). TakesReceived asked v received (Err fault)) same refused)

-- a take of it was not refused
pub is_taken : (asked : QuestionValue) (received : ReceivedValue) (before old after : ReplicaValue) → old ≡ before → TakesReceived asked old received (Ok tt)
    → coordinates after.state ≡ join (coordinates old.state) (coordinates received.delta) → after.roster ≡ longer old.roster received.roster → after.own ≡ old.own → IsTakenFrom received before after
is_taken asked received before old after same takes joined roster own =
    let taken : IsTakenFrom received old after = record { rosters = takes.1.0; roster = roster; own = own; joined = joined; known = takes.1.1.0 } in
    subst (λ (v : ReplicaValue). IsTakenFrom received v after) same taken

-- what was taken has no tag
pub untold_take : (asked : QuestionValue) (received : ReceivedValue) (before old after : ReplicaValue) (fault : Fault) → old ≡ before → TakesReceived asked old received (Ok tt)
    → coordinates after.state ≡ join (coordinates old.state) (coordinates received.delta) → after.roster ≡ longer old.roster received.roster → after.own ≡ old.own → RefusesTag after fault → RefusesTakeIn asked received before fault
untold_take asked received before old after fault same takes joined roster own untold = inr (after, is_taken asked received before old after same takes joined roster own, inl untold)

-- what was taken can't be kept
pub unkept_take : (asked : QuestionValue) (received : ReceivedValue) (before old after : ReplicaValue) (fault : Fault) → old ≡ before → TakesReceived asked old received (Ok tt)
    → coordinates after.state ≡ join (coordinates old.state) (coordinates received.delta) → after.roster ≡ longer old.roster received.roster → after.own ≡ old.own → IsUnkept after fault → RefusesTakeIn asked received before fault
unkept_take asked received before old after fault same takes joined roster own unkept = inr (after, is_taken asked received before old after same takes joined roster own, inr unkept)

-- bytes that aren't received bring nothing
pub brings_nothing : (asked : QuestionValue) (bytes : List ℕ) (fault : Fault) → (LIMIT < length bytes → ◌≡◌ {A = Result ReceivedValue Fault} (Err fault) (Err TooLong))
    → (length bytes ≤ LIMIT → ReceivesRead asked (all_of (response_at (askers_of asked)) bytes) (Err fault)) → BringsNothing asked bytes fault
brings_nothing asked bytes fault long read = elim (cases_lt LIMIT (length bytes)) [
  | inl more ↦ inl (more, of_err fault (long more))
  | inr within ↦ inr (within, read within)
]
  where
    of_err : (fault : Fault) → ◌≡◌ {A = Result ReceivedValue Fault} (Err fault) (Err TooLong) → fault ≡ TooLong
    of_err fault e = cc

module _ (path question answer : List ℕ) (asked : QuestionValue) (is : IsGiven question asked) where
  pub no_bytes : (fault : Fault) → BringsNothing asked answer fault → RefusesTake path question answer fault
  no_bytes fault nothing = inr (inl (record { asked = asked; is_question = is.1; why = nothing }))

  module _ (received : ReceivedValue) (brought : IsReceivedFrom asked answer received) (opened : KeptFile) (held : IsHeldAt path opened) where
    pub no_response : (fault : Fault) → RefusesTakeIn asked received opened.kept fault → RefusesTake path question answer fault
    no_response fault refused = inr (inr (inr (record {
      asked = asked;
      is_question = is.1;
      received = received;
      is_received = brought;
      before = opened.kept;
      value = held.value;
      why = refused;
    })))

    pub takes_file : (done : ReplacedValue) (components : ℕ) (forked : Bool) → done.path ≡ opened.path → done.before ≡ opened.kept → IsAsker asked opened.kept → HasAllOf asked.digest opened.kept.state
        → IsTakenFrom received opened.kept done.kept → components ≡ size received.delta → IsTrue forked ↔ TellsFork done.kept received → TakesFile path question answer done components forked
    takes_file done components forked at before asker has_all taken count forks = record {
      read = record { at = at ∙ held.at; value = subst IsSnapshot (sym before) held.value; place = held.place };
      takes = record {
        asked = asked;
        within = is.0;
        is_question = is.1;
        received = received;
        is_received = brought;
        replica = subst (IsAsker asked) (sym before) asker;
        has_all = subst (λ (v : ReplicaValue). HasAllOf asked.digest v.state) (sym before) has_all;
        taken = subst (λ (v : ReplicaValue). IsTakenFrom received v done.kept) (sym before) taken;
        count = count;
      };
      forks = forks;
    }

-- ---- looking at an answer

pub no_brought : (question answer : List ℕ) (asked : QuestionValue) (fault : Fault) → IsGiven question asked → BringsNothing asked answer fault → RefusesCheck question answer fault
no_brought question answer asked fault is nothing = inr (inl (record { asked = asked; is_question = is.1; why = nothing }))

-- the lines are those of what was received
pub checks_texts : {S : Type 0} (bytes_of : S → List ℕ) (question answer : List ℕ) (asked : QuestionValue) (received : ReceivedValue) (lines : Result S Fault) → IsGiven question asked → IsReceivedFrom asked answer received
    → IfOk lines (λ text. bytes_of text ≡ evidence_text received.roster received.delta received.certificate) → IfOk lines (λ text. ChecksTexts question answer (bytes_of text))
checks_texts bytes_of question answer asked received (Ok text) is brought told = record { asked = asked; is_question = is.1; received = received; is_received = brought; told = told }
checks_texts bytes_of question answer asked received (Err fault) is brought told = tt

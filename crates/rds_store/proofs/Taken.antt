-- What becomes of questions, answers and snapshots.
use Rattle.std.proofs.Common.{◌≡◌, ◌≤◌, ℕ, List, length, Result, Ok, Err, inl, inr}
use Rattle.std.specs.Prelude.{IfErr, IfOk, OnOk}
use Rattle.std.specs.Global.{Vec}
use Rattle.rds_codec.specs.Decoding.{IsTextOf}
use Rattle.rds_codec.specs.declared.limits.TheConstants.{LIMIT}
use Rattle.rds_names.specs.declared.fault.Fault.{Fault}
use Rattle.rds_names.specs.declared.fault.Fault.TheVariants.{Memory}
use Rattle.rds_offline.specs.Letters.{BringsNothing, IsTakenFrom, TakesResponse}
use Rattle.rds_offline.specs.Merging.{CountsLacking, IsMergedFrom, RefusesMerge}
use Rattle.rds_questions.proofs.Leveled.{level_lack_nothing}
use Rattle.rds_questions.specs.Lacking.{LacksGives}
use Rattle.rds_questions.specs.Questions.{QuestionValue, question_kind}
use Rattle.rds_questions.specs.Receiving.{IsReceivedFrom, ReceivedValue}
use Rattle.rds_questions.specs.Responding.{RespondGives}
use Rattle.rds_questions.specs.Taking.{HasAllOf, IsAsker, TakesReceived}
use Rattle.rds_questions.specs.declared.lacking.Lacks.{Lacks}
use Rattle.rds_state.specs.Fits.{ReplicaValue}
use Rattle.rds_state.specs.Results.{TakesDeltaWith}
use Rattle.rds_state.specs.Value.{size}
use Rattle.rds_store.specs.Documents.{IsHeldBy}
use Rattle.rds_store.specs.Meetings.{MayAnswer, MayTellLacks, MergesSnapshot, RefusesSnapshot, RefusesTaking, TellsLevel}

abbrev pub IsGiven : List ℕ → QuestionValue → Type 0
IsGiven question asked = (length question ≤ LIMIT) × IsTextOf question_kind question asked

pub answers : (question : List ℕ) (held : ReplicaValue) (asked : QuestionValue) (result : Result (Vec ℕ) Fault) → IsGiven question asked → RespondGives asked held result → MayAnswer question held result
answers question held asked (Ok bytes) is gives = record { asked = asked; within = is.0; is_question = is.1; responds = gives }
answers question held asked (Err fault) is gives = inr (record { asked = asked; within = is.0; is_question = is.1; responds = gives })

module _ (question answer : List ℕ) (asked : QuestionValue) (is : IsGiven question asked) where
  pub no_bytes : (before : ReplicaValue) (fault : Fault) → BringsNothing asked answer fault → RefusesTaking question answer before fault
  no_bytes before fault nothing = inr (inl (record { asked = asked; is_question = is.1; why = nothing }))

  module _ (received : ReceivedValue) (brought : IsReceivedFrom asked answer received) (before : ReplicaValue) where
    pub no_take : (fault : Fault) → TakesReceived asked before received (Err fault) → RefusesTaking question answer before fault
    no_take fault refused = inr (inr (record { asked = asked; is_question = is.1; received = received; is_received = brought; why = refused }))

    pub takes_response : (after : ReplicaValue) (components : ℕ) → IsAsker asked before → HasAllOf asked.digest before.state → IsTakenFrom received before after → components ≡ size received.delta
        → TakesResponse question answer before after components
    takes_response after components asker has_all taken count = record {
      asked = asked;
      within = is.0;
      is_question = is.1;
      received = received;
      is_received = brought;
      replica = asker;
      has_all = has_all;
      taken = taken;
      count = count;
    }

    -- of whatever a take of what was received gives
    pub takes_all : (result : Result ℕ Fault) (after : ReplicaValue) → OnOk result (IsAsker asked before) → OnOk result (HasAllOf asked.digest before.state) → OnOk result (IsTakenFrom received before after)
        → IfOk result (λ n. n ≡ size received.delta) → IfOk result (TakesResponse question answer before after)
    takes_all (Ok n) after asker has_all taken count = takes_response after n asker has_all taken count
    takes_all (Err fault) after asker has_all taken count = tt

    pub refuses_all : (result : Result ℕ Fault) → IfErr result (λ fault. TakesReceived asked before received (Err fault)) → IfErr result (RefusesTaking question answer before)
    refuses_all (Ok n) refused = tt
    refuses_all (Err fault) refused = no_take fault refused

-- ---- in a replica

abbrev pub Has : QuestionValue → ReplicaValue → Type 0
Has q v = IsAsker q v × HasAllOf q.digest v.state

-- there is no memory for its roster
pub no_copy : (q : QuestionValue) (x : ReceivedValue) (held : ReplicaValue) (fault : Fault) → Has q held → fault ≡ Memory → TakesReceived q held x (Err fault)
no_copy q x held fault has memory = inr (has, inl memory)

-- a take of it is refused
pub not_taken : (q : QuestionValue) (x : ReceivedValue) (held after : ReplicaValue) (fault : Fault) → Has q held → TakesDeltaWith held x.roster x.delta (Err fault) after → TakesReceived q held x (Err fault)
not_taken q x held after fault has takes = inr (has, inr takes.gives)

pub is_taken : (x : ReceivedValue) (before after : ReplicaValue) → TakesDeltaWith before x.roster x.delta (Ok tt) after → IsTakenFrom x before after
is_taken x before after takes = record { rosters = takes.gives.0; roster = takes.roster; own = takes.own; joined = takes.ok; known = takes.gives.1.0 }

pub is_merged : (source before after : ReplicaValue) → TakesDeltaWith before source.roster source.state (Ok tt) after → IsMergedFrom source before after
is_merged source before after takes = record { rosters = takes.gives.0; roster = takes.roster; own = takes.own; joined = takes.ok; known = takes.gives.1.0 }

-- ---- a snapshot

module _ (snapshot : List ℕ) (source before : ReplicaValue) (held : IsHeldBy snapshot source) where
  pub merges : (after : ReplicaValue) (components : ℕ) → IsMergedFrom source before after → CountsLacking source before components → MergesSnapshot snapshot before after components
  merges after components merged counted = record { source = source; held = held; merged = merged; counted = counted }

  pub no_merge : (fault : Fault) → RefusesMerge source before fault → RefusesSnapshot snapshot before fault
  no_merge fault refused = inr (source, held, refused)

  pub merges_all : (result : Result ℕ Fault) (after : ReplicaValue) → OnOk result (IsMergedFrom source before after) → IfOk result (CountsLacking source before) → IfOk result (MergesSnapshot snapshot before after)
  merges_all (Ok n) after merged counted = merges after n merged counted
  merges_all (Err fault) after merged counted = tt

  pub refuses_merge : (result : Result ℕ Fault) → IfErr result (RefusesMerge source before) → IfErr result (RefusesSnapshot snapshot before)
  refuses_merge (Ok n) refused = tt
  refuses_merge (Err fault) refused = no_merge fault refused

-- ---- what is lacking

module _ (question : List ℕ) (held : ReplicaValue) (asked : QuestionValue) (is : IsGiven question asked) where
  pub tells_lacks : (result : Result Lacks Fault) → LacksGives asked held result → MayTellLacks question held result
  tells_lacks (Ok lacks) gives = record { asked = asked; within = is.0; is_question = is.1; gives = gives }
  tells_lacks (Err fault) gives = inr (record { asked = asked; within = is.0; is_question = is.1; gives = gives })

  pub tells_level : (result : Result Lacks Fault) → LacksGives asked held result → IfOk result (TellsLevel question held)
  tells_level (Ok lacks) gives = record { asked = asked; is_question = is.1; level = level_lack_nothing asked held lacks is.1.is_value gives }
  tells_level (Err fault) gives = tt

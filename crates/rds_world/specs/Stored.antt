-- A world as a value: the replicas in memory and as kept, and the bytes of each ask and answer.
use Rattle.std.specs.Prelude.{ℕ, List, Option, Some, None, slice_get, refl}
use Rattle.std.specs.Coded.{Coded, code_by, coded×, coded_ℕ, coded_list}
use Rattle.rds_names.specs.Roster.{RosterValue}
use Rattle.rds_state.specs.Fits.{ReplicaValue, coded_roster, coded_replica}

-- who asked, how many names it had kept, and the text of the digest
pub record AskText : Type 0 where
  pub asker : ℕ
  pub names : ℕ
  pub bytes : List ℕ

-- the number of the ask, who asked, the roster that who answers had kept, and the text of the answer
pub record AnswerText : Type 0 where
  pub question : ℕ
  pub asker : ℕ
  pub roster : RosterValue
  pub bytes : List ℕ

pub record WorldValue : Type 0 where
  pub roster : RosterValue
  pub memory : List ReplicaValue
  pub kept : List ReplicaValue
  pub asks : List AskText
  pub answers : List AnswerText

abbrev pub bytes_asked : Option AskText → Option (List ℕ)
bytes_asked None = None
bytes_asked (Some a) = Some a.bytes

abbrev pub bytes_answered : Option AnswerText → Option (List ℕ)
bytes_answered None = None
bytes_answered (Some a) = Some a.bytes

-- the bytes of the ask or of the answer with this number
abbrev pub ask_bytes_at : List AskText → ℕ → Option (List ℕ)
ask_bytes_at asks k = bytes_asked (slice_get asks k)

abbrev pub answer_bytes_at : List AnswerText → ℕ → Option (List ℕ)
answer_bytes_at answers k = bytes_answered (slice_get answers k)

abbrev pub coded_ask : Coded AskText
coded_ask = code_by (ℕ × (ℕ × List ℕ)) (coded× coded_ℕ (coded× coded_ℕ (coded_list coded_ℕ))) (λ a. (a.asker, (a.names, a.bytes))) (λ p. record { asker = p.0; names = p.1.0; bytes = p.1.1 }) (λ _. refl)

abbrev pub coded_answer_text : Coded AnswerText
coded_answer_text = code_by (ℕ × (ℕ × (RosterValue × List ℕ))) (coded× coded_ℕ (coded× coded_ℕ (coded× coded_roster (coded_list coded_ℕ)))) (λ a. (a.question, (a.asker, (a.roster, a.bytes))))
    (λ p. record { question = p.0; asker = p.1.0; roster = p.1.1.0; bytes = p.1.1.1 }) (λ _. refl)

abbrev WorldParts : Type 0
WorldParts = RosterValue × (List ReplicaValue × (List ReplicaValue × (List AskText × List AnswerText)))

abbrev coded_parts : Coded WorldParts
coded_parts = coded× coded_roster (coded× (coded_list coded_replica) (coded× (coded_list coded_replica) (coded× (coded_list coded_ask) (coded_list coded_answer_text))))

abbrev pub coded_world : Coded WorldValue
coded_world = code_by WorldParts coded_parts (λ v. (v.roster, (v.memory, (v.kept, (v.asks, v.answers)))))
    (λ p. record { roster = p.0; memory = p.1.0; kept = p.1.1.0; asks = p.1.1.1.0; answers = p.1.1.1.1 }) (λ _. refl)

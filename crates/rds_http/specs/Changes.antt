-- What requests make of a document.
use Rattle.std.specs.Prelude.{◌≡◌, ◌≢◌, ◌⊎◌, ◌<◌, ◌≤◌, ℕ, false, List, [], ◌∷◌, ◌++◌, codes, length, Result, Err, Ok, if◌then◌else◌}
use Rattle.std.specs.Global.{Vec}
use Rattle.std.specs.Int.{to_be_bytes, w32}
use Rattle.std.specs.Str.{is_utf8}
use Rattle.http_server.specs.declared.response.Response.{Response}
use Rattle.rds_codec.specs.Decoding.{Decodes, IsTextOf}
use Rattle.rds_fields.specs.Tags.{HoldsTagged}
use Rattle.rds_json.specs.Members.{of_one}
use Rattle.rds_json.specs.Scalar.{scalar_of}
use Rattle.rds_lines.specs.Editing.{EditsLines, IsLineRefused, MeetsCommand, replies_text}
use Rattle.rds_lines.specs.Lines.{is_text_line, lines_in}
use Rattle.rds_names.specs.AndThen.{◌>>=◌}
use Rattle.rds_names.specs.Path.{path_of}
use Rattle.rds_names.specs.declared.fault.Fault.{Fault}
use Rattle.rds_names.specs.declared.fault.Fault.TheVariants.{Bad, BadLine, BadName, Cut, Memory, TooLong}
use Rattle.rds_names.specs.declared.scalar.Scalar.{Scalar}
use Rattle.rds_offline.specs.Letters.{TakesResponse}
use Rattle.rds_output.specs.Reply.{reply_line}
use Rattle.rds_output.specs.declared.reply.Reply.{Reply}
use Rattle.rds_output.specs.declared.reply.Reply.TheVariants.{Done, Taken}
use Rattle.rds_questions.specs.Questions.{QuestionValue, question_kind}
use Rattle.rds_questions.specs.Responding.{RespondGives}
use Rattle.rds_questions.specs.Tags.{IsTagOf, RefusesTag}
use Rattle.rds_questions.specs.declared.tags.Tag.{Tag}
use Rattle.rds_state.specs.Fits.{ReplicaValue}
use Rattle.rds_state.specs.declared.command.Command.{Command}
use Rattle.rds_state.specs.declared.command.Command.TheVariants.{Set}
use Rattle.rds_store.specs.Documents.{IsGrownBy, RefusesGrowth}
use Rattle.rds_store.specs.Meetings.{MayAnswer, MayAsk, RefusesTaking, RespondsTo}
use Rattle.serde_json.specs.Read.{read}
use Rattle.rds_http.specs.Asked.{HasTag}
use Rattle.rds_http.specs.Lines.{line_count, lines_status}
use Rattle.rds_http.specs.Looks.{lines_of_json, path_in}
use Rattle.rds_http.specs.Refusals.{IsUnknownTag, TellsFault, json}
use Rattle.rds_http.specs.Replies.{Tells}
use Rattle.rds_http.specs.declared.lines.TheConstants.{MOST_LINES}

-- ---- edits

-- the lines of a body were done or refused, one after the other, and these are the lines that they are answered. The
-- status tells of a refusal where none was done
pub record EditsBody (body : List ℕ) (before after : ReplicaValue) (response : Response) : Type 0 where
  pub replies : List Reply
  pub edits : EditsLines (lines_in body) before after replies
  pub told : Tells (lines_status replies) lines_of_json (replies_text replies) response

-- nothing was done
pub record RefusesRequest (fault : Fault) (before after : ReplicaValue) (response : Response) : Type 0 where
  pub same : after ≡ before
  pub told : TellsFault fault response

-- the same, unless memory ran out, or the body has too many lines: then nothing was done
abbrev pub AnswersEdits : List ℕ → ReplicaValue → ReplicaValue → Response → Type 0
AnswersEdits body before after response =
    ((line_count body ≤ MOST_LINES)
    × (EditsBody body before after response ⊎ RefusesRequest Memory before after response))
    ⊎ ((MOST_LINES < line_count body) × RefusesRequest TooLong before after response)

-- ---- a register that is put

-- the value that a body of JSON is, which is no longer than a line
abbrev pub body_value : List ℕ → Result Scalar Fault
body_value body = if is_text_line body then of_one scalar_of (read body) else Err BadLine

-- the edit that sets the register at a place to that
abbrev pub put_command : List ℕ → List ℕ → Result Command Fault
put_command place body = path_in place >>= λ text. path_of text >>= λ path. body_value body >>= λ value. Ok (Set path value)

-- that is done or refused, unless memory ran out
abbrev pub MeetsPut : List ℕ → List ℕ → ReplicaValue → Reply → ReplicaValue → Type 0
MeetsPut place body before reply after =
    IsLineRefused 1 Memory before reply after ⊎ MeetsCommand 1 (put_command place body) before reply after

-- and answered as the one line of a body is
pub record AnswersPut (place body : List ℕ) (before after : ReplicaValue) (response : Response) : Type 0 where
  pub reply : Reply
  pub met : MeetsPut place body before reply after
  pub told : Tells (lines_status (reply ∷ [])) lines_of_json (replies_text (reply ∷ [])) response

-- ---- growths

-- why a name isn't put in a roster: the bytes are no text, and so no name; or the roster doesn't take it
abbrev pub RefusesNewName : List ℕ → ReplicaValue → Fault → Type 0
RefusesNewName body before fault =
    ((is_utf8 body ≡ false) × (fault ≡ BadName)) ⊎ RefusesGrowth body before fault

-- a name was put last in the roster, and that is reported
pub record GrowsRoster (name : List ℕ) (before after : ReplicaValue) (response : Response) : Type 0 where
  pub grown : IsGrownBy name before after
  pub told : Tells 200 json (reply_line Done) response

-- the same by the name that a body is, or why the document doesn't take it
abbrev pub AnswersGrowth : List ℕ → ReplicaValue → ReplicaValue → Response → Type 0
AnswersGrowth body before after response =
    GrowsRoster body before after response
    ⊎ ((fault : Fault) × RefusesNewName body before fault × RefusesRequest fault before after response)

-- ---- takes

-- a body holds a question and a response: the length of the question in 4 bytes, and both
abbrev pub HoldsBoth : List ℕ → List ℕ → List ℕ → Type 0
HoldsBoth body question response = body ≡ to_be_bytes w32 (length question) ++ (question ++ response)

-- what answers a question was taken, and how much that was is reported
pub record TakesTexts (question answer : List ℕ) (before after : ReplicaValue) (response : Response) : Type 0 where
  pub components : ℕ
  pub takes : TakesResponse question answer before after components
  pub told : Tells 200 json (reply_line (Taken components)) response

-- the same, or why the document doesn't take it
abbrev pub AnswersTexts : List ℕ → List ℕ → ReplicaValue → ReplicaValue → Response → Type 0
AnswersTexts question answer before after response =
    TakesTexts question answer before after response
    ⊎ ((fault : Fault) × RefusesTaking question answer before fault × RefusesRequest fault before after response)

-- what a body holds was taken or refused, or it holds no two texts
abbrev pub AnswersTake : List ℕ → ReplicaValue → ReplicaValue → Response → Type 0
AnswersTake body before after response =
    ((question : List ℕ) × (answer : List ℕ) × HoldsBoth body question answer
    × AnswersTexts question answer before after response)
    ⊎ RefusesRequest Cut before after response

-- ---- what goes by a tag

-- bytes begin with the tag of what was asked
pub record IsOfAsked (bytes question rest : List ℕ) : Type 0 where
  pub tag : Tag
  pub holds : HoldsTagged bytes tag rest
  pub has_tag : HasTag question tag

-- bytes don't begin with the tag of what the replica asks now
abbrev pub IsOfOther : List ℕ → ReplicaValue → Type 0
IsOfOther bytes held =
    (tag : Tag) × IsTagOf held tag × ((rest : List ℕ) → HoldsTagged bytes tag rest → ⊥)

-- the tag is of nothing that is known. What is asked now is known, and of what was asked before some may be
pub record IsOfUnknown (bytes : List ℕ) (held : ReplicaValue) (response : Response) : Type 0 where
  pub other : IsOfOther bytes held
  pub told : IsUnknownTag response

-- why there is no question, or no tag of it
abbrev pub RefusesAsking : ReplicaValue → Fault → Type 0
RefusesAsking held fault = RefusesTag held fault ⊎ MayAsk held (Err fault)

-- ---- pushes

-- the body begins with the tag of what was asked, and what is behind it is taken as what answers that, or refused
pub record TakesTagged (body : List ℕ) (before after : ReplicaValue) (response : Response) : Type 0 where
  pub question : List ℕ
  pub answer : List ℕ
  pub asked : IsOfAsked body question answer
  pub answers : AnswersTexts question answer before after response

abbrev pub AnswersPush : List ℕ → ReplicaValue → ReplicaValue → Response → Type 0
AnswersPush body before after response =
    TakesTagged body before after response
    ⊎ (((after ≡ before) × IsOfUnknown body before response)
    ⊎ ((fault : Fault) × RefusesAsking before fault × RefusesRequest fault before after response))

-- ---- pulls

-- the same question of the replica of a number
abbrev pub asked_as : ℕ → QuestionValue → QuestionValue
asked_as number q = record q { hello = record q.hello { own = number } }

-- the bytes are the text of a question, and this is what a replica responds where the replica of a number asks that
pub record RespondsAs (number : ℕ) (question : List ℕ) (held : ReplicaValue) (result : Result (Vec ℕ) Fault) : Type 0 where
  pub asked : QuestionValue
  pub is_question : IsTextOf question_kind question asked
  pub responds : RespondGives (asked_as number asked) held result

abbrev pub MayAnswerAs : ℕ → List ℕ → ReplicaValue → Result (Vec ℕ) Fault → Type 0
MayAnswerAs number question held (Ok bytes) = RespondsAs number question held (Ok bytes)
MayAnswerAs number question held (Err fault) =
    Decodes question_kind question (Err fault) ⊎ RespondsAs number question held (Err fault)

-- that is answered, or why it isn't
abbrev pub AnswersAs : ℕ → List ℕ → ReplicaValue → Response → Type 0
AnswersAs number question held response =
    ((bytes : Vec ℕ) × RespondsAs number question held (Ok bytes)
    × Tells 200 (codes "application/octet-stream") bytes.items response)
    ⊎ ((fault : Fault) × MayAnswerAs number question held (Err fault) × TellsFault fault response)

-- the body begins with the tag of what was asked, with one byte behind: the number of another replica, which is
-- answered or refused as if it had asked that
pub record AnswersTagged (body : List ℕ) (held : ReplicaValue) (response : Response) : Type 0 where
  pub question : List ℕ
  pub number : ℕ
  pub asked : IsOfAsked body question (number ∷ [])
  pub answers : AnswersAs number question held response

-- the tag is known, and not one byte stands behind it
pub record IsNoPull (body : List ℕ) : Type 0 where
  pub question : List ℕ
  pub rest : List ℕ
  pub asked : IsOfAsked body question rest
  pub length : length rest ≢ 1

abbrev pub AnswersPull : List ℕ → ReplicaValue → Response → Type 0
AnswersPull body held response =
    AnswersTagged body held response
    ⊎ (IsOfUnknown body held response
    ⊎ ((IsNoPull body × TellsFault Bad response)
    ⊎ ((fault : Fault) × RefusesAsking held fault × TellsFault fault response)))

-- ---- questions

-- what another replica asks is answered, or refused
abbrev pub AnswersQuestion : List ℕ → ReplicaValue → Response → Type 0
AnswersQuestion question held response =
    ((bytes : Vec ℕ) × RespondsTo question held (Ok bytes)
    × Tells 200 (codes "application/octet-stream") bytes.items response)
    ⊎ ((fault : Fault) × MayAnswer question held (Err fault) × TellsFault fault response)

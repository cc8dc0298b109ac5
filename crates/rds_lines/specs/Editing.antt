-- What lines that edit one replica are answered, and what they make of it.
use Rattle.std.specs.Prelude.{
  ◌≡◌,
  ◌⊎◌,
  ℕ,
  ◌+◌,
  Bool,
  true,
  false,
  List,
  [],
  ◌∷◌,
  ◌++◌,
  Option,
  None,
  Result,
  Ok,
  Err,
  OnErr,
  count_by,
  if◌then◌else◌,
}
use Rattle.std.specs.Io.KnownBytes.{Appends}
use Rattle.std.specs.List.{list_any}
use Rattle.rds_names.specs.declared.fault.Fault.{Fault}
use Rattle.rds_names.specs.declared.fault.Fault.TheVariants.{BadLine, Memory}
use Rattle.rds_life.specs.Life.{live_rows}
use Rattle.rds_state.specs.Edit.{IsDue, JoinsEffect, covers, new_dot, refusal}
use Rattle.rds_state.specs.Fits.{ReplicaValue}
use Rattle.rds_state.specs.Results.{IsEdited as IsEditedState}
use Rattle.rds_state.specs.Value.{coordinates}
use Rattle.rds_state.specs.declared.command.Command.{Command}
use Rattle.rds_state.specs.declared.command.Edited.{Edited}
use Rattle.rds_json.specs.Unnamed.{edit_of}
use Rattle.rds_output.specs.Reply.{edit_reply, is_refusal, reply_line}
use Rattle.rds_lines.specs.Lines.{is_empty_line, is_text_line}
use Rattle.rds_output.specs.declared.reply.Reply.{Reply}
use Rattle.rds_output.specs.declared.reply.Reply.TheVariants.{RefusedLine}

-- a replica's state was joined with the command's effect, and the answer tells the new dot and how many live dots it
-- killed
pub record AnswersEdited (command : Command) (before after : ReplicaValue) (answer : Reply) : Type 0 where
  pub roster : after.roster ≡ before.roster
  pub own : after.own ≡ before.own
  pub joined : JoinsEffect (coordinates before.state) before.own command (coordinates after.state)
  pub told : answer ≡ edit_reply before.roster (new_dot (coordinates before.state) before.own command)
      (count_by (λ r. covers command r.1) (live_rows before.state.lives))

-- a command is done by a replica, or refused by what is due
pub record DoesEdit (before : ReplicaValue) (command : Command) (answer : Result Edited Fault) (after : ReplicaValue)
    : Type 0 where
  pub edited : IsEditedState before.state before.own command answer after.state
  pub roster : after.roster ≡ before.roster
  pub own : after.own ≡ before.own
  pub err : OnErr answer (after ≡ before)

-- the same, unless there is no memory for it, which changes nothing
abbrev pub DoesCommand : ReplicaValue → Command → Result Edited Fault → ReplicaValue → Type 0
DoesCommand before command answer after =
    ((answer ≡ Err Memory) × (after ≡ before)) ⊎ DoesEdit before command answer after

-- what an edit itself is refused by, if it is
abbrev pub edit_refusal : ReplicaValue → Command → Option Fault
edit_refusal before command = refusal (coordinates before.state) before.own command

-- the edit that the bytes of a line ask for, or their fault
abbrev pub edit_of_bytes : List ℕ → Result Command Fault
edit_of_bytes bytes = if is_text_line bytes then edit_of bytes else Err BadLine

-- a line is refused by its number, and changes nothing
abbrev pub IsLineRefused : ℕ → Fault → ReplicaValue → Reply → ReplicaValue → Type 0
IsLineRefused line fault before answer after = (answer ≡ RefusedLine line fault) × (after ≡ before)

-- an edit is made that nothing refuses, or it is refused by what is due
abbrev pub MeetsCommand : ℕ → Result Command Fault → ReplicaValue → Reply → ReplicaValue → Type 0
MeetsCommand line (Ok command) before answer after =
    ((edit_refusal before command ≡ None) × AnswersEdited command before after answer)
    ⊎ ((fault : Fault) × IsDue (edit_refusal before command) fault × IsLineRefused line fault before answer after)
MeetsCommand line (Err fault) before answer after = IsLineRefused line fault before answer after

-- what a line with its number is answered and makes of a replica: what is due, or Memory, which changes nothing
abbrev pub MeetsEdit : ℕ → List ℕ → ReplicaValue → Reply → ReplicaValue → Type 0
MeetsEdit line bytes before answer after =
    IsLineRefused line Memory before answer after ⊎ MeetsCommand line (edit_of_bytes bytes) before answer after

-- a fault is answered with the line's number
abbrev pub line_reply_of : ℕ → Result Reply Fault → Reply
line_reply_of line (Ok answer) = answer
line_reply_of line (Err fault) = RefusedLine line fault

-- a line's answer comes behind those so far
abbrev pub AddsAnswer : ℕ → List ℕ → ReplicaValue → ReplicaValue → List Reply → List Reply → Type 0
AddsAnswer line bytes before after old new =
    (answer : Reply) × MeetsEdit line bytes before answer after × (new ≡ old ++ answer ∷ [])

-- an empty line has none, and changes nothing
abbrev pub AnswersLineAs : Bool → ℕ → List ℕ → ReplicaValue → ReplicaValue → List Reply → List Reply → Type 0
AnswersLineAs true line bytes before after old new = (after ≡ before) × (new ≡ old)
AnswersLineAs false line bytes before after old new = AddsAnswer line bytes before after old new

abbrev pub AnswersNext : ℕ → List ℕ → ReplicaValue → ReplicaValue → List Reply → List Reply → Type 0
AnswersNext line bytes before after old new = AnswersLineAs (is_empty_line bytes) line bytes before after old new

-- the first line's answer, and what the lines after it are answered and make of what it left
pub record EditsFirst (line : ℕ) (bytes : List ℕ) (Later : ReplicaValue → ReplicaValue → List Reply → Type 0)
    (before after : ReplicaValue) (answers : List Reply) : Type 0 where
  pub answer : Reply
  pub next : ReplicaValue
  pub met : MeetsEdit line bytes before answer next
  pub rest : List Reply
  pub later : Later next after rest
  pub answers_are : answers ≡ answer ∷ rest

-- a line without a byte is answered nothing
abbrev pub EditsNext : Bool → ℕ → List ℕ → (ReplicaValue → ReplicaValue → List Reply → Type 0)
    → ReplicaValue → ReplicaValue → List Reply → Type 0
EditsNext true line bytes Later before after answers = Later before after answers
EditsNext false line bytes Later before after answers = EditsFirst line bytes Later before after answers

-- what the lines behind so many others, one after the other, make of a replica, and their answers
abbrev pub EditsLinesBehind : ℕ → List (List ℕ) → ReplicaValue → ReplicaValue → List Reply → Type 0
EditsLinesBehind count [] before after answers = (after ≡ before) × (answers ≡ [])
EditsLinesBehind count (bytes ∷ lines) before after answers =
    EditsNext (is_empty_line bytes) (count + 1) bytes (EditsLinesBehind (count + 1) lines) before after answers

-- what all lines of an input, numbered from 1, make of a replica, and their answers
abbrev pub EditsLines : List (List ℕ) → ReplicaValue → ReplicaValue → List Reply → Type 0
EditsLines = EditsLinesBehind 0

-- the lines of answers
abbrev pub replies_text : List Reply → List ℕ
replies_text [] = []
replies_text (answer ∷ answers) = reply_line answer ++ replies_text answers

-- the answers were written, and nothing else; the status is 1 where one is a refusal
abbrev pub WritesAll : List Reply → Option (List ℕ) → Option (List ℕ) → ℕ → Type 0
WritesAll answers before after status =
    Appends before after (replies_text answers) × (status ≡ (if list_any is_refusal answers then 1 else 0))

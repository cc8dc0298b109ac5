-- What is reported to C.
use Rattle.std.specs.Prelude.{◌≡◌, ◌⊎◌, ℕ, ◌-◌, ◌^◌, nat_lt, List, [], take, length, Option, Some}
use Rattle.std.specs.Prelude.{None, Result, Ok, Err, String, string_bytes, if◌then◌else◌}
use Rattle.std.specs.Global.{Global, Vec}
use Rattle.rds_codec.specs.declared.formats.Format.{Format}
use Rattle.rds_codec.specs.declared.formats.Format.TheVariants.{One, Two}
use Rattle.rds_dots.specs.declared.dot.Dot.{Dot}
use Rattle.rds_keep.specs.declared.layout.Layout.{Layout}
use Rattle.rds_lines.specs.Editing.{DoesEdit, EditsLines}
use Rattle.rds_lines.specs.Lines.{lines_in}
use Rattle.rds_names.specs.Fault.{text_of_fault}
use Rattle.rds_names.specs.declared.fault.Fault.{Fault}
use Rattle.rds_output.specs.declared.reply.Reply.{Reply}
use Rattle.rds_state.specs.Fits.{ReplicaValue}
use Rattle.rds_state.specs.declared.command.Command.{Command}
use Rattle.rds_state.specs.declared.command.Edited.{Edited}
use Rattle.rds_c.specs.declared.status.EditedC.{EditedC}
use Rattle.rds_c.specs.declared.status.LayoutC.{LayoutC}

-- room begins with the text, and the length is the text's
pub record IsTold (text room : List ℕ) (n : ℕ) : Type 0 where
  pub length_is : n ≡ length text
  pub bytes : take n room ≡ text

-- the text is left to be told, and the length is the text's
pub record IsLeft (text left : List ℕ) (n : ℕ) : Type 0 where
  pub length_is : n ≡ length text
  pub bytes : left ≡ text

-- the bytes that were made
abbrev pub IsToldBytes : Result (Vec ℕ) Fault → List ℕ → ℕ → Type 0
IsToldBytes (Ok bytes) room n = IsTold bytes.items room n
IsToldBytes (Err fault) room n = ⊥

abbrev pub IsLeftBytes : Result (Vec ℕ) Fault → List ℕ → ℕ → Type 0
IsLeftBytes (Ok bytes) left n = IsLeft bytes.items left n
IsLeftBytes (Err fault) left n = ⊥

-- the bytes of the text that was made
abbrev pub IsBytesOf : Result (String Global) Fault → List ℕ → Type 0
IsBytesOf (Ok text) bytes = bytes ≡ string_bytes text
IsBytesOf (Err fault) bytes = ⊥

-- the words of a fault, or none where there was no memory for them
abbrev pub IsWordsOf : Fault → List ℕ → Type 0
IsWordsOf fault text = (text ≡ text_of_fault fault) ⊎ (text ≡ [])

-- a dot or none, and how many live dots were killed
abbrev pub told_edit : Option Dot → ℕ → EditedC
told_edit None killed = record { has_dot = 0; number = 0; killed = killed }
told_edit (Some dot) killed = record { has_dot = 1; number = dot.seq; killed = killed }

abbrev pub edited_for_c : Edited → EditedC
edited_for_c edited = told_edit edited.dot edited.killed

-- whether records may follow a snapshot of a format
abbrev pub takes_records : Format → ℕ
takes_records One = 0
takes_records Two = 1

abbrev pub layout_for_c : Layout → LayoutC
layout_for_c layout =
    record { takes_records = takes_records layout.format; snapshot = layout.snapshot; whole = layout.whole }

-- that was done which was asked for, and what it did is reported
pub record EditsDocument (asked : Result Command Fault) (before after : ReplicaValue) (told : EditedC) : Type 0 where
  pub command : Command
  pub asks : asked ≡ Ok command
  pub edited : Edited
  pub edits : DoesEdit before command (Ok edited) after
  pub is_told : told ≡ edited_for_c edited

-- the lines were done, one after the other
abbrev pub MakesEdits : List ℕ → ReplicaValue → ReplicaValue → Type 0
MakesEdits lines before after = (answers : List Reply) × EditsLines (lines_in lines) before after answers

-- a number, or the greatest of 64 bits where that is less
abbrev pub IsNarrowed : ℕ → ℕ → Type 0
IsNarrowed n told = told ≡ (if nat_lt n (2 ^ 64) then n else 2 ^ 64 - 1)

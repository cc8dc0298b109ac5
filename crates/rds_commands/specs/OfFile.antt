-- What is written of a file, or why nothing is.
use Rattle.std.specs.Prelude.{◌⊎◌, ℕ, List, Option, Result, Ok, Err}
use Rattle.rds_names.specs.declared.fault.Fault.{Fault}
use Rattle.rds_output.specs.Reply.{WritesReply}
use Rattle.rds_output.specs.declared.reply.Reply.{Reply}
use Rattle.rds_output.specs.declared.reply.Reply.TheVariants.{Taken}
use Rattle.rds_offline.specs.declared.copies.TakenFile.{TakenFile}
use Rattle.rds_commands.specs.declared.file_commands.FileAnswer.{FileAnswer}

-- an answer that came with such a file, or such a fault, was written, and nothing else, and its status is answered
abbrev pub WritesOfFile : {F : Type 0} → (F → Reply → Type 0) → (Fault → Type 0) → Option (List ℕ) → Option (List ℕ) → ℕ
    → Type 0
WritesOfFile {F} comes refuses before after status =
    ((file : F) × (answer : Reply) × comes file answer × WritesReply (Ok answer) before after status)
    ⊎ ((fault : Fault) × refuses fault × WritesReply (Err fault) before after status)

-- the answer that came with a file, or why there is none
abbrev pub answer_of : {F : Type 0} → Result (FileAnswer F) Fault → Result Reply Fault
answer_of (Ok done) = Ok done.answer
answer_of (Err fault) = Err fault

-- how many components a file took, or why it took none
abbrev pub taken_of : Result TakenFile Fault → Result Reply Fault
taken_of (Ok done) = Ok (Taken done.components)
taken_of (Err fault) = Err fault

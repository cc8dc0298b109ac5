-- What a run writes.
use Rattle.std.specs.Prelude.{◌≡◌, ℕ, List, Option, IfSome, Result, Ok, Err, MatchResult, String, string_bytes}
use Rattle.std.specs.Global.{Global}
use Rattle.hex.specs.Hex.{encode_lower}
use Rattle.rds_names.specs.declared.fault.Fault.{Fault}
use Rattle.rds_names.specs.declared.fault.Fault.TheVariants.{Device}
use Rattle.rds_keep.specs.Parts.{AppendsFront, ConsumesAtMost}
use Rattle.rds_lines.specs.Join.{JoinsTo, MayJoinTo}
use Rattle.rds_output.specs.Output.{Writes, fault_line, output_of}
use Rattle.rds_lines.specs.Refusal.{refusal_fault}
use Rattle.rds_lines.specs.Streams.{NoneFailed, Stream, Emits}
use Rattle.rds_lines.specs.declared.refusal.Refusal.{Refusal}
use Rattle.rds_lines.specs.declared.run.TheConstants.{MOST}

-- what joining the input answers was written, and nothing else, and its status is answered
abbrev pub WritesJoin : List ℕ → Option (List ℕ) → Option (List ℕ) → ℕ → Type 0
WritesJoin input before after status =
    (answer : Result (List ℕ) Fault) × MayJoinTo input answer × Writes answer before after status

-- a prefix of what joining the input answers was written, and nothing else
abbrev pub WritesJoinFront : List ℕ → Option (List ℕ) → Option (List ℕ) → Type 0
WritesJoinFront input before after =
    (answer : Result (List ℕ) Fault) × MayJoinTo input answer × AppendsFront before after (output_of answer)

-- what becomes of a run of `join`: what its input is joined to was written, or a prefix of it where the writer
-- failed; where the reader failed, that is `Device`; and so many bytes of the input are read at most
pub record RunsJoin (reading writing : Stream) (status : ℕ) : Type 0 where
  pub join : IfSome reading.before (λ input. NoneFailed reading → Emits (WritesJoin input) writing status)
  pub part : IfSome reading.before
      (λ input. NoneFailed reading → WritesJoinFront input writing.before writing.after)
  pub unread : reading.CountRose → Emits (Writes (Err Device)) writing status
  pub unread_part : reading.CountRose → AppendsFront writing.before writing.after (fault_line Device)
  pub most : ConsumesAtMost reading.before reading.after MOST

-- the hex digits of the text that the input is joined to, or why there are none
abbrev pub IsJoinLine : List ℕ → Result (String Global) Refusal → Type 0
IsJoinLine input answer = MatchResult answer
    (λ line. (text : List ℕ) × JoinsTo input (Ok text) × (string_bytes line ≡ encode_lower text))
    (λ e. MayJoinTo input (Err (refusal_fault e)))

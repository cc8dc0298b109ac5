-- The JSON of a reply, and its line.
use Rattle.std.specs.Prelude.{◌≡◌, ℕ, Bool, true, false, List, [], ◌∷◌, ◌++◌, codes, Option, Some, None, Result, Ok, Err, option_and_then, option_map, slice_get, string_bytes}
use Rattle.std.specs.Fmt.{decimal}
use Rattle.std.specs.Io.KnownBytes.{Appends}
use Rattle.rds_names.specs.Roster.{RosterValue}
use Rattle.rds_dots.specs.declared.dot.Dot.{Dot}
use Rattle.rds_names.specs.Fault.{number_of, name_of}
use Rattle.rds_names.specs.declared.fault.Fault.{Fault}
use Rattle.rds_output.specs.Output.{fault_line, fault_status}
use Rattle.rds_output.specs.declared.reply.Reply.{Reply}
use Rattle.rds_output.specs.declared.reply.Reply.TheVariants.{Done, Edited, Asked, Answered, Taken, Shown, Refused, RefusedLine}

-- a dot as the array of its replica's name and its number there, or null
abbrev pub named_dot_text : Option (List ℕ × ℕ) → List ℕ
named_dot_text None = codes "null"
named_dot_text (Some dot) = codes "[\"" ++ dot.0 ++ codes "\"," ++ decimal dot.1 ++ codes "]"

abbrev pub reply_text : Reply → List ℕ
reply_text Done = codes "{\"ok\":true}"
reply_text (Edited dot killed) =
    codes "{\"dot\":" ++ named_dot_text dot ++ codes ",\"killed\":" ++ decimal killed ++ codes "}"
reply_text (Asked number) = codes "{\"ask\":" ++ decimal number ++ codes "}"
reply_text (Answered number components) =
    codes "{\"delta\":" ++ (decimal number ++ (codes ",\"components\":" ++ (decimal components ++ codes "}")))
reply_text (Taken components) = codes "{\"taken\":" ++ (decimal components ++ codes "}")
reply_text (Shown text) = string_bytes text
reply_text (Refused fault) =
    codes "{\"fault\":" ++ (decimal (number_of fault) ++ (codes ",\"name\":\"" ++ (name_of fault ++ codes "\"}")))
reply_text (RefusedLine line fault) =
    codes "{\"fault\":" ++ (decimal (number_of fault) ++ (codes ",\"name\":\"" ++ (name_of fault ++ (codes "\",\"line\":" ++ (decimal line ++ codes "}")))))

abbrev pub is_refusal : Reply → Bool
is_refusal (Refused fault) = true
is_refusal (RefusedLine line fault) = true
is_refusal _ = false

-- the name of a dot's replica, and the dot's number there
abbrev pub named_dot : RosterValue → Dot → Option (List ℕ × ℕ)
named_dot roster dot = option_map (λ name. (name, dot.seq)) (slice_get roster.names dot.replica)

-- an edit that made such a dot live, and killed so many
abbrev pub edit_reply : RosterValue → Option Dot → ℕ → Reply
edit_reply roster dot killed = Edited (option_and_then (named_dot roster) dot) killed

-- a reply and its newline
abbrev pub reply_line : Reply → List ℕ
reply_line reply = reply_text reply ++ 10 ∷ []

-- the line of a reply, or of a fault
abbrev pub line_for : Result Reply Fault → List ℕ
line_for (Ok reply) = reply_line reply
line_for (Err fault) = fault_line fault

-- a reply's line was written, or a fault's, and nothing else, and its status is answered
abbrev pub WritesReply : Result Reply Fault → Option (List ℕ) → Option (List ℕ) → ℕ → Type 0
WritesReply (Ok reply) before after status = Appends before after (reply_line reply) × (status ≡ 0)
WritesReply (Err fault) before after status = Appends before after (fault_line fault) × (status ≡ fault_status fault)

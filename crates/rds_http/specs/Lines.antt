-- The lines of a body, and those that answer it.
use Rattle.std.specs.Prelude.{ℕ, ◌+◌, ◌==◌, Bool, true, false, List, [], ◌∷◌, if◌then◌else◌}
use Rattle.std.specs.List.{count_by, list_all}
use Rattle.rds_output.specs.Reply.{is_refusal}
use Rattle.rds_output.specs.declared.reply.Reply.{Reply}
use Rattle.rds_output.specs.declared.reply.Reply.TheVariants.{Done, Edited, RefusedLine, Taken}
use Rattle.rds_http.specs.Refusals.{status_of}

-- what an edit, a growth or a take is replied, of which each line is short
abbrev pub is_short : Reply → Bool
is_short Done = true
is_short (Edited dot killed) = true
is_short (RefusedLine line fault) = true
is_short (Taken components) = true
is_short _ = false

-- how many lines a body has at most: one more than line feeds
abbrev pub line_count : List ℕ → ℕ
line_count body = count_by (λ b. b == 10) body + 1

-- the status of one line: that of the fault by which it is refused
abbrev pub line_status : Reply → ℕ
line_status (RefusedLine line fault) = status_of fault
line_status _ = 200

-- the status of all: that of the first, where each line is refused
abbrev pub lines_status : List Reply → ℕ
lines_status [] = 200
lines_status (reply ∷ replies) = if list_all is_refusal (reply ∷ replies) then line_status reply else 200

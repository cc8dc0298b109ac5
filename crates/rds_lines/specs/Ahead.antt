-- Lines that are taken of the bytes that a reader holds.
use Rattle.std.specs.Prelude.{◌≡◌, ℕ, ◌+◌, ◌*◌, ◌<◌, ◌≤◌, List, [], length, Option, Some, None, Result, Ok, Err, String}
use Rattle.std.specs.Global.{Global, Vec}
use Rattle.std.specs.Io.KnownBytes.{Consumes, prepend_known}
use Rattle.rds_names.specs.declared.fault.Fault.{Fault}
use Rattle.rds_names.specs.declared.fault.Fault.TheVariants.{Memory, BadLine}
use Rattle.rds_lines.specs.Lines.{IsOneLine, until_newline, after_line, ReadsText}
use Rattle.rds_lines.specs.declared.ahead.TheConstants.{LINE_LIMIT, ROOM}

-- what falls with each of the reads that are left, and with each byte that is taken
abbrev pub left_of : List ℕ → ℕ → ℕ
left_of bytes reads = reads * (ROOM + 1) + length bytes

-- how many bytes so many reads of lines give at most
abbrev pub most_given : ℕ → ℕ
most_given reads = ROOM * reads

-- what is still to be taken: the bytes that were read, and those that the reader holds
abbrev pub bytes_untaken : List ℕ → Option (List ℕ) → Option (List ℕ)
bytes_untaken bytes held = prepend_known bytes held

-- the bytes of a line so far, or why they aren't held
abbrev pub IsLineHeld : List ℕ → Result (Vec ℕ) Fault → Type 0
IsLineHeld taken (Ok v) = (v.items ≡ taken) × (length taken ≤ LINE_LIMIT)
IsLineHeld taken (Err BadLine) = LINE_LIMIT < length taken
IsLineHeld taken (Err Memory) = Unit {0}
IsLineHeld taken (Err e) = ⊥

-- the line that the bytes begin with, where there are any
abbrev pub IsFirstLine : List ℕ → Option (Result (String Global) Fault) → Type 0
IsFirstLine xs None = xs ≡ []
IsFirstLine xs (Some line) = (0 < length xs) × ReadsText (until_newline xs) line

-- there is a line of which this is the text, or why there is none
abbrev pub IsOfSomeLine : Result (String Global) Fault → Type 0
IsOfSomeLine text = (line : List ℕ) × IsOneLine line × ReadsText line text

-- known bytes lose a piece of a line, which has no newline
abbrev pub LosesPiece : Option (List ℕ) → Option (List ℕ) → Type 0
LosesPiece first now = (piece : List ℕ) × IsOneLine piece × Consumes first now piece

-- known bytes lose the line that was taken, with its newline
abbrev pub TakesLine : Option (List ℕ) → Option (List ℕ) → Option (Result (String Global) Fault) → Type 0
TakesLine None new taken = Unit {0}
TakesLine (Some xs) None taken = ⊥
TakesLine (Some xs) (Some ys) taken = IsFirstLine xs taken × (ys ≡ after_line xs)

-- What is written for the lines of an input.
use Rattle.std.specs.Prelude.{◌≡◌, ◌⊎◌, ℕ, Bool, List, [], ◌++◌, Option, IfSome, if◌then◌else◌}
use Rattle.std.specs.Io.KnownBytes.{Appends, Consumes, IsAtEnd}
use Rattle.rds_names.specs.declared.fault.Fault.TheVariants.{Device}
use Rattle.rds_keep.specs.Parts.{AppendsFront, ConsumesAtMost}
use Rattle.rds_output.specs.Output.{fault_line}
use Rattle.rds_lines.specs.Ahead.{most_given}
use Rattle.rds_lines.specs.Lines.{ended_lines, lines_in}
use Rattle.rds_lines.specs.Streams.{NoneFailed, Stream, Emits}

-- such answers were written, and nothing else; the status is 1 where a line was refused
abbrev pub WritesAnswers : (List ℕ → Bool → Type 0) → Option (List ℕ) → Option (List ℕ) → ℕ → Type 0
WritesAnswers may before after status =
    (out : List ℕ) × (refused : Bool) × may out refused × Appends before after out
    × (status ≡ (if refused then 1 else 0))

-- of what a reader gave that now holds this: all lines that have their newline; or all, where it was at its end
abbrev pub AreLinesOf : Option (List ℕ) → List ℕ → List (List ℕ) → Type 0
AreLinesOf now given lines = ((lines ≡ lines_in given) × IsAtEnd now) ⊎ (lines ≡ ended_lines given)

-- what the lines of all that the reader gave up may be answered was written, then this line, and nothing else
pub record WritesCut (may : List (List ℕ) → List ℕ → Bool → Type 0) (line : List ℕ)
    (first now before after : Option (List ℕ)) : Type 0 where
  pub given : List ℕ
  pub is_given : Consumes first now given
  pub lines : List (List ℕ)
  pub are_lines : AreLinesOf now given lines
  pub out : List ℕ
  pub refused : Bool
  pub answered : may lines out refused
  pub is_written : Appends before after (out ++ line)

-- a prefix of what the first lines that the reader gave may be answered was written, and nothing else; or, where the
-- reader failed, of what all its lines may be answered, and of this line
pub record WritesFront (may : List (List ℕ) → List ℕ → Bool → Type 0) (line : List ℕ) (IsCut : Type 0)
    (first now before after : Option (List ℕ)) : Type 0 where
  pub given : List ℕ
  pub is_given : Consumes first now given
  pub lines : List (List ℕ)
  pub later : List (List ℕ)
  pub are_lines : AreLinesOf now given (lines ++ later)
  pub out : List ℕ
  pub refused : Bool
  pub answered : may lines out refused
  pub is_written : AppendsFront before after out ⊎ (IsCut × (later ≡ []) × AppendsFront before after (out ++ line))

-- what becomes of a reader's lines that may be answered so: all are answered; where the reader failed, those before
-- that, and then `Device`; where the writer failed, a prefix of that was written
pub record AnswersLines (may : List (List ℕ) → List ℕ → Bool → Type 0) (reading writing : Stream) (status : ℕ)
    : Type 0 where
  pub answered : IfSome reading.before
      (λ input. NoneFailed reading → Emits (WritesAnswers (may (lines_in input))) writing status)
  pub unread : reading.CountRose → NoneFailed writing
      → WritesCut may (fault_line Device) reading.before reading.after writing.before writing.after × (status ≡ 1)
  pub part : writing.CountRose
      → WritesFront may (fault_line Device) reading.MayHaveFailed
      reading.before reading.after writing.before writing.after
  pub bound : ConsumesAtMost reading.before reading.after (most_given reading.reads)

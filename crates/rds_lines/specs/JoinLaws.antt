-- What the answer to two snapshots is, in terms of the snapshots alone.
use Rattle.std.specs.Prelude.{◌≡◌, ◌≤◌, ◌⊎◌, ℕ, List, [], length, Result, Ok, Err}
use Rattle.hex.specs.Hex.{decode_of}
use Rattle.rds_names.specs.declared.fault.Fault.{Fault}
use Rattle.rds_names.specs.declared.fault.Fault.TheVariants.{Memory}
use Rattle.rds_codec.specs.FormatTexts.{snapshot_text_in}
use Rattle.rds_codec.specs.StateTexts.{IsSnapshot}
use Rattle.rds_lines.specs.Join.{JoinedTo, MayJoinTo, TextOfJoined}
use Rattle.rds_lines.specs.Lines.{until_newline, after_line}
use Rattle.rds_state.specs.Fits.{ReplicaValue}
use Rattle.rds_codec.specs.declared.formats.Format.{Format}
use Rattle.rds_codec.specs.declared.limits.TheConstants.{LIMIT}

-- a line is the snapshot's text in one of the formats, in hex digits of either case
pub record SpellsLine (line : List ℕ) (v : ReplicaValue) : Type 0 where
  pub is_snapshot : IsSnapshot v
  pub format : Format
  pub digits : decode_of line ≡ Ok (snapshot_text_in format v)
  pub within : length (snapshot_text_in format v) ≤ LIMIT

-- the input is the lines of two snapshots, and nothing more
pub record SpellsBoth (input : List ℕ) (v w : ReplicaValue) : Type 0 where
  pub first : SpellsLine (until_newline input) v
  pub second : SpellsLine (until_newline (after_line input)) w
  pub ended : after_line (after_line input) ≡ []

-- two snapshots are joined to one thing alone
abbrev pub IsJoinedOnce : Type 0
IsJoinedOnce = (v w : ReplicaValue) (a b : Result ReplicaValue Fault) → JoinedTo v w a → JoinedTo v w b → a ≡ b

-- whatever is answered for the lines of two snapshots is the text of their join, or why there is none, or memory ran
-- out
abbrev pub AnswersSpelled : Type 0
AnswersSpelled = (input : List ℕ) (v w : ReplicaValue) (joined : Result ReplicaValue Fault) (r : Result (List ℕ) Fault)
    → SpellsBoth input v w → JoinedTo v w joined → MayJoinTo input r → TextOfJoined joined r ⊎ (r ≡ Err Memory)

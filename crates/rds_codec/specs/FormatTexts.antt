-- Which values have a text in each format, and how a snapshot is read whose format its first four bytes say.
use Rattle.std.specs.Prelude.{ℕ, List, length, Option, Some, None, if◌then◌else◌}
use Rattle.std.specs.Str.{bytes_eq}
use Rattle.rds_names.specs.Roster.{RosterValue}
use Rattle.rds_state.specs.Fits.{ReplicaValue}
use Rattle.rds_state.specs.Value.{StateValue}
use Rattle.rds_bytes.specs.Reading.{Reader, then_at, made_at, drawn_at, bytes_at, member_at}
unfoldable pub use Rattle.rds_codec.specs.AnswerTexts.{answer_at_in, answer_text_in}
unfoldable pub use Rattle.rds_codec.specs.StateTexts.{magic_of, snapshot_text_in, state_at_in, state_text_in}
use Rattle.rds_codec.specs.AnswerTexts.{IsAnswerOf}
use Rattle.rds_codec.specs.AnswerValues.{AnswerValue}
use Rattle.rds_codec.specs.Kinds.{Kind}
use Rattle.rds_codec.specs.StateTexts.{IsSnapshot, IsStateOf, snapshot_by}
use Rattle.rds_codec.specs.declared.formats.Format.{Format}
use Rattle.rds_codec.specs.declared.formats.Format.TheVariants.{One, Two}

-- a state of so many replicas
abbrev pub state_kind_in : Format → ℕ → Kind StateValue
state_kind_in format replicas = record { is_value = IsStateOf replicas; text = state_text_in format }

-- an answer of so many replicas
abbrev pub answer_kind_in : Format → ℕ → Kind AnswerValue
answer_kind_in format replicas = record { is_value = IsAnswerOf replicas; text = answer_text_in format }

-- ---- snapshots

abbrev pub format_of : List ℕ → Option Format
format_of t = if bytes_eq (magic_of One) t then Some One else (if bytes_eq (magic_of Two) t then Some Two else None)

-- which format the first four bytes say
unfoldable pub format_at : Reader Format
format_at = drawn_at format_of (bytes_at 4)

-- a roster and an own number, and a state in a format
unfoldable pub member_state_at : Format → Reader ((RosterValue × ℕ) × StateValue)
member_state_at format = then_at member_at (λ m. state_at_in format (length m.0.names))

-- a replica, and the format that its snapshot is in
abbrev pub Snapshot : Type 0
Snapshot = Format × ReplicaValue

abbrev pub snapshot_of : Format × ((RosterValue × ℕ) × StateValue) → Snapshot
snapshot_of p = (p.0, snapshot_by p.1)

-- the first four bytes say how the state is read
unfoldable pub snapshot_in_at : Reader Snapshot
snapshot_in_at = made_at snapshot_of (then_at format_at member_state_at)

-- a snapshot in one of the formats
abbrev pub snapshot_kind_in : Kind Snapshot
snapshot_kind_in = record { is_value = λ s. IsSnapshot s.1; text = λ s. snapshot_text_in s.0 s.1 }

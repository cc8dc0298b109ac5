-- The texts of states and snapshots in each format, how states are read, and which have one.
use Rattle.std.specs.Prelude.{ℕ, Bool, List, ◌++◌, codes, length}
use Rattle.std.specs.List.{AllByRecursion}
use Rattle.rds_names.specs.Roster.{RosterValue}
use Rattle.rds_names.specs.declared.entry.Entry.{Entry}
use Rattle.rds_dots.specs.declared.dot.Dot.{Dot}
use Rattle.rds_dots.specs.Dots.{Dots}
use Rattle.rds_life.specs.Life.{lives_of, seen_of, live_rows}
use Rattle.rds_counts.specs.Counted.{Counted}
use Rattle.rds_counts.specs.RowsOf.{count_rows}
use Rattle.rds_state.specs.Value.{StateValue}
use Rattle.rds_state.specs.Fits.{ReplicaValue}
use Rattle.rds_bytes.specs.Reading.{Reader, then_at, pair_at, made_at, when_at, dots_at, key_at, keyed_live_rows_at, keyed_counters_at}
use Rattle.rds_bytes.specs.Spelling.{short_text, member_text, dots_text, keyed_live_rows_text, keyed_counters_text}
use Rattle.rds_bytes.specs.Table.{table_of, used_keys, is_tabled}
use Rattle.rds_bytes.specs.TableTexts.{table_text, number_text, table_at, numbered_at}
use Rattle.rds_bytes.specs.Values.{AreDotsOf, AreCountsOf, IsLiveRow, IsMember}
use Rattle.rds_codec.specs.declared.formats.Format.{Format}
use Rattle.rds_codec.specs.declared.formats.Format.TheVariants.{One, Two}

-- the keys of its live rows, each path from its first key to its last, and then those of its rows of counters
abbrev pub keys_in : StateValue → List (List ℕ)
keys_in v = used_keys (live_rows v.lives) (count_rows v.counts)

-- the same, each once, in the order of first use
abbrev pub table_in : StateValue → List (List ℕ)
table_in v = table_of (keys_in v)

-- ---- spelling

-- the dots, the live rows and the counters, for a spelling of their keys
unfoldable pub body_text : (List ℕ → List ℕ) → StateValue → List ℕ
body_text key_text v =
    dots_text (seen_of v.lives)
    ++ (keyed_live_rows_text key_text (live_rows v.lives) ++ keyed_counters_text key_text v.counts)

-- In format 1 each key is spelled out wherever it stands. In format 2 a table of the keys comes first, and each is its
-- number there.
unfoldable pub state_text_in : Format → StateValue → List ℕ
state_text_in One v = body_text short_text v
state_text_in Two v = table_text (table_in v) ++ body_text (number_text (table_in v)) v

abbrev pub state_text : StateValue → List ℕ
state_text = state_text_in Two

-- the four bytes in front of a snapshot
abbrev pub magic_of : Format → List ℕ
magic_of One = codes "RDS1"
magic_of Two = codes "RDS2"

-- four bytes that say the format, the roster and the own number, and the state
unfoldable pub snapshot_text_in : Format → ReplicaValue → List ℕ
snapshot_text_in format v = magic_of format ++ (member_text v.roster v.own ++ state_text_in format v.state)

abbrev pub snapshot_text : ReplicaValue → List ℕ
snapshot_text = snapshot_text_in Two

-- ---- reading

abbrev pub StateParts : Type 0
StateParts = Dots × (List (Dot × Entry) × Counted)

abbrev pub state_by : StateParts → StateValue
state_by p = record { lives = lives_of p.0 p.1.0; counts = p.1.1 }

-- the parts, for a reader of their keys
unfoldable pub body_at : Reader (List ℕ) → ℕ → Reader StateValue
body_at key replicas =
    made_at state_by
    (then_at (dots_at replicas) (λ seen. pair_at (keyed_live_rows_at key seen) (keyed_counters_at key replicas)))

abbrev pub TableParts : Type 0
TableParts = List (List ℕ) × StateValue

-- whether the table has exactly the keys of the state, in the order of first use
abbrev pub has_its_table : TableParts → Bool
has_its_table p = is_tabled p.0 (keys_in p.1)

abbrev pub without_table : TableParts → StateValue
without_table p = p.1

-- in format 2 a table, the parts by its numbers, and then the test that the table is theirs
unfoldable pub state_at_in : Format → ℕ → Reader StateValue
state_at_in One replicas = body_at key_at replicas
state_at_in Two replicas =
    made_at without_table (when_at has_its_table (then_at table_at (λ table. body_at (numbered_at table) replicas)))

abbrev pub state_at : ℕ → Reader StateValue
state_at = state_at_in Two

abbrev pub snapshot_by : (RosterValue × ℕ) × StateValue → ReplicaValue
snapshot_by p = record { roster = p.0.0; own = p.0.1; state = p.1 }

-- ---- which have a text

-- the parts are within their limits
pub record IsStateOf (replicas : ℕ) (v : StateValue) : Type 0 where
  pub dots : AreDotsOf replicas (seen_of v.lives)
  pub entries : AllByRecursion IsLiveRow (live_rows v.lives)
  pub counts : AreCountsOf replicas v.counts

pub record IsSnapshot (v : ReplicaValue) : Type 0 where
  pub member : IsMember v.roster v.own
  pub state : IsStateOf (length v.roster.names) v.state

-- What is read after a table by the numbers of its keys, and the state of it where the table is theirs.
use Rattle.std.specs.Prelude.{ℕ, List, if◌then◌else◌, Result, Ok, Err}
use Rattle.rds_names.specs.declared.entry.Entry.{Entry}
use Rattle.rds_names.specs.declared.fault.Fault.{Fault}
use Rattle.rds_names.specs.declared.fault.Fault.TheVariants.{Bad}
use Rattle.rds_dots.specs.declared.dot.Dot.{Dot}
use Rattle.rds_dots.specs.Dots.{Dots}
use Rattle.rds_life.specs.Life.{lives_of}
use Rattle.rds_counts.specs.Counted.{Counted}
use Rattle.rds_state.specs.Value.{StateValue}
use Rattle.rds_bytes.specs.Reading.{Reader, made_at, keyed_live_rows_at, keyed_counters_at}
use Rattle.rds_bytes.specs.TableTexts.{numbered_at}
use Rattle.rds_feeds.specs.Numbered.{TabledLives, TabledParts, has_own_table}

-- the live rows, by the numbers of the table
abbrev pub lives_after : List (List ℕ) × Dots → Reader TabledLives
lives_after p =
    made_at (λ (rows : List (Dot × Entry)). (p.0, lives_of p.1 rows)) (keyed_live_rows_at (numbered_at p.0) p.1)

-- the rows of counters, by the numbers of the table
abbrev pub counters_after : ℕ → TabledLives → Reader TabledParts
counters_after replicas l =
    made_at (λ (counts : Counted). (l.0, (l.1, counts))) (keyed_counters_at (numbered_at l.0) replicas)

-- the state, where the table has exactly its keys, in the order of first use
abbrev pub state_with_table : TabledParts → Result StateValue Fault
state_with_table p = if has_own_table p then Ok (record { lives = p.1.0; counts = p.1.1 }) else Err Bad

-- Rows of which each key is a short text are rows over such keys.
use Rattle.std.proofs.Common.{◌≡◌, ℕ, List, refl}
use Rattle.rds_names.specs.declared.entry.Entry.{Entry}
use Rattle.rds_dots.specs.declared.dot.Dot.{Dot}
use Rattle.rds_dots.specs.Dots.{Dots}
use Rattle.rds_counts.specs.declared.row.CountRow.{CountRow}
use Rattle.rds_bytes.specs.Reading.{key_at, path_at, entry_at, live_row_at, place_at, count_row_at, keyed_path_at, keyed_entry_at, keyed_live_row_at, keyed_place_at, keyed_count_row_at}

pub entry_is : keyed_entry_at key_at ≡ entry_at
unfolding entry_at path_at keyed_entry_at keyed_path_at
entry_is = refl

pub live_row_is : (seen : Dots) (before : List (Dot × Entry)) → keyed_live_row_at key_at seen before ≡ live_row_at seen before
unfolding live_row_at entry_at path_at keyed_live_row_at keyed_entry_at keyed_path_at
live_row_is seen before = refl

pub count_row_is : (replicas : ℕ) (before : List CountRow) → keyed_count_row_at key_at replicas before ≡ count_row_at replicas before
unfolding count_row_at place_at keyed_count_row_at keyed_place_at
count_row_is replicas before = refl

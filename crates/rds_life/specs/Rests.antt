-- The rows that are still to come, in either form.
use Rattle.std.specs.Prelude.{List}
use Rattle.rds_names.specs.declared.entry.Entry.{Entry}
use Rattle.rds_dots.specs.declared.dot.Dot.{Dot}
use Rattle.rds_life.specs.declared.live_rows.Rest.{Rest}
use Rattle.rds_life.specs.declared.live_rows.Rest.TheVariants.{Listed, Mapped}

abbrev pub rows_to_come : Rest → List (Dot × Entry)
rows_to_come (Listed rows) = rows.now
rows_to_come (Mapped rows) = rows

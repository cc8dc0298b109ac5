-- The rows that are kept, in either form.
use Rattle.std.specs.Prelude.{List}
use Rattle.rds_names.specs.declared.entry.Entry.{Entry}
use Rattle.rds_dots.specs.declared.dot.Dot.{Dot}
use Rattle.rds_life.specs.declared.store.Form.{Form}
use Rattle.rds_life.specs.declared.store.Form.TheVariants.{Listed, Mapped}

abbrev pub rows_in : Form → List (Dot × Entry)
rows_in (Listed rows) = rows.items
rows_in (Mapped rows) = rows

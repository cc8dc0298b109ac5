-- What stands in a disk in memory.
use Rattle.std.specs.Prelude.{ℕ, List}
use Rattle.rds_text_rows.specs.declared.disk.Disk.{Disk}

abbrev pub disk_bytes : Disk → List ℕ
disk_bytes d = d.bytes.items

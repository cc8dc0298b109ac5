-- Dots in a row, gathered into a run.
use Rattle.rds_dots.specs.declared.dot.Dot.{Dot}
use Rattle.rds_dots.specs.declared.dot.Run.{Run}

-- the run of one dot
abbrev pub single : Dot → Run
single d = record { replica = d.replica; lo = d.seq; hi = d.seq }

use Rattle.std.proofs.Common.{length}
use Rattle.rds_text_rows.proofs.journal.reading_of.Given as goal

abbrev pub decreases-reading : goal.decreases-reading
decreases-reading l = length l.rest

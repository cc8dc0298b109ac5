use Rattle.rds_counts.specs.RowsOfLemmas.{count_rows-counts_of}
use Rattle.rds_counts.proofs.counts.Counts.with_rows.Goals as goal

pub returns-clause-only : goal.returns-clause-only
returns-clause-only c = count_rows-counts_of c.args.rows.items c.requires.rows

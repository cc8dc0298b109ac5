use Rattle.rds_bytes.proofs.HaveTexts.{are_counts_of}
use Rattle.rds_bytes.proofs.counters.counters_length.Goals as goal

pub returns-clause-are_counts : goal.returns-clause-are_counts
returns-clause-are_counts c = are_counts_of c.args.counts.now c.rows.result.now c.rows.ensures.are_rows c.rows.ensures.value c.count_rows_length.ensures.are_keyed

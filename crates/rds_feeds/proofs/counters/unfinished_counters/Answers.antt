use Rattle.std.specs.Int.{w32}
use Rattle.rds_counts.specs.Counted.{counts_of}
use Rattle.rds_bytes.specs.Reading.{list_at, number_at, count_row_at, count_rows_at, counters_at}
use Rattle.rds_feeds.proofs.Lists.{made_in_two}
use Rattle.rds_feeds.proofs.counters.unfinished_counters.Goals as goal

pub returns : goal.returns
unfolding counters_at count_rows_at
returns c = made_in_two (λ l. counts_of l.1) (list_at (number_at w32) (count_row_at c.args.replicas)) (record { replicas = c.args.replicas }) _ c.rows-from.ensures

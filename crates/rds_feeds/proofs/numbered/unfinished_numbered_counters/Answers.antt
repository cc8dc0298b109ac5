use Rattle.std.proofs.Common.{◌∙◌, sym}
use Rattle.std.specs.Int.{w32}
use Rattle.rds_counts.specs.Counted.{counts_of}
use Rattle.rds_bytes.specs.Reading.{list_at, number_at, keyed_count_row_at, keyed_count_rows_at, keyed_counters_at}
use Rattle.rds_bytes.specs.TableTexts.{numbered_at}
use Rattle.rds_feeds.proofs.Lists.{made_in_two, made_twice}
use Rattle.rds_feeds.proofs.numbered.unfinished_numbered_counters.Goals as goal

pub returns : goal.returns
unfolding keyed_counters_at keyed_count_rows_at
returns g c = λ bytes. (
    let lives = c.args.lives in
    let rows = list_at (number_at w32) (keyed_count_row_at (numbered_at lives.0) c.args.replicas) in
    made_in_two (λ l. (l.0.lives.0, (l.0.lives.1, counts_of l.1))) rows (record { lives = lives; replicas = c.args.replicas }) _ c.meeting_rows-from.ensures bytes
    ∙ sym (made_twice (λ counts. (lives.0, (lives.1, counts))) counts_of rows bytes))

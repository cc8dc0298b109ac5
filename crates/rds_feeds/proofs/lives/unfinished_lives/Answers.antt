use Rattle.std.specs.Int.{w32}
use Rattle.rds_life.specs.Life.{lives_of}
use Rattle.rds_bytes.specs.Reading.{list_at, number_at, live_row_at, live_rows_at}
use Rattle.rds_feeds.proofs.Lists.{made_in_two}
use Rattle.rds_feeds.proofs.lives.unfinished_lives.Goals as goal

pub returns : goal.returns
unfolding live_rows_at
returns g c =
    let seen = g.S.DotSet.contents c.args.seen in
    made_in_two (λ l. lives_of (g.S.DotSet.contents l.0.seen) l.1) (list_at (number_at w32) (live_row_at seen)) (record { seen = c.args.seen }) _ c.rows-from.ensures

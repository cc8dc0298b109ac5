use Rattle.std.specs.Int.{w32}
use Rattle.rds_life.specs.Life.{lives_of}
use Rattle.rds_bytes.specs.Reading.{list_at, number_at, keyed_live_row_at, keyed_live_rows_at}
use Rattle.rds_bytes.specs.TableTexts.{numbered_at}
use Rattle.rds_feeds.proofs.Lists.{made_in_two}
use Rattle.rds_feeds.proofs.numbered.unfinished_numbered_lives.Goals as goal

pub returns : goal.returns
unfolding keyed_live_rows_at
returns g c =
    let table = c.args.table in
    let seen = g.S.DotSet.contents c.args.seen in
    made_in_two (λ l. (l.0.table, lives_of (g.S.DotSet.contents l.0.seen) l.1)) (list_at (number_at w32) (keyed_live_row_at (numbered_at table) seen)) (record { table = table; seen = c.args.seen }) _ c.meeting_rows-from.ensures

use Rattle.std.proofs.Common.{◌∙◌, List}
use Rattle.rds_names.specs.declared.entry.Entry.{Entry}
use Rattle.rds_dots.specs.declared.dot.Dot.{Dot}
use Rattle.rds_bytes.specs.Reading.{keyed_live_row_at}
use Rattle.rds_bytes.specs.Table.{live_keys}
use Rattle.rds_bytes.specs.TableTexts.{numbered_at}
use Rattle.rds_feeds.specs.Numbered.{met_of}
use Rattle.rds_feeds.proofs.MetInTurn.{met_found, live_row_met}
use Rattle.rds_feeds.proofs.numbered.NumberedLiveReaderMeetingReaderTuple2DotEntry.read.Goals as goal

pub returns : goal.returns
returns g c =
    let table = c.args.self.now.table in
    let before = c.args.before.now in
    let row = c.in_ok-row.row in
    let met = live_row_met table before row c.args.met c.read_keyed_live_row.new.keys c.requires (rw c.keys-keys.ensures at c.in_ok-row.ensures.after) in
    met_found (λ (rows : List (Dot × Entry)). met_of table (live_keys rows)) before (keyed_live_row_at (numbered_at table) (g.S.DotSet.contents c.args.self.now.seen) before) c.args.bytes.now row c.into_met.result c.in_ok-row.rest.now
    (rw c.keys-keys.ensures at c.in_ok-row.ensures.read) (c.into_met.ensures ∙ met)

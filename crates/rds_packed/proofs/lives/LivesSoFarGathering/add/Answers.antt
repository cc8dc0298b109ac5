use Rattle.std.proofs.Common.{List, sym, subst}
use Rattle.rds_names.specs.declared.entry.Entry.{Entry}
use Rattle.rds_dots.specs.declared.dot.Dot.{Dot}
use Rattle.rds_bytes.specs.Reading.{made_at}
use Rattle.rds_feeds.specs.Numbered.{with_met}
use Rattle.rds_feeds.specs.Parts.{WasRead}
use Rattle.rds_packed.specs.PackedReading.{packed_key_at, packed_row_at}
use Rattle.rds_packed.specs.declared.lives.LivesBy.{LivesBy}
use Rattle.rds_packed.proofs.RowsMet.{met_by, row_added}
use Rattle.rds_packed.proofs.lives.LivesSoFarGathering.add.Goals as goal

pub invariant_of-self-2 : goal.invariant_of-self-2
invariant_of-self-2 g c =
    let by = c.self.inside.by in
    let rows = c.self.inside.rows.items in
    let contents = g.S.DotSet.contents in
    let read = subst (λ (l : LivesBy g.row.S.Denot × List (Dot × Entry)). WasRead (made_at (with_met (met_by l.0.table) l.1) (packed_row_at (packed_key_at l.0.table) (contents l.0.seen) l.1)) c.args.part) (sym c.self.view_is) c.requires in
    rw c.in_ok-push.ensures.items (row_added (packed_key_at by.table) (contents by.seen) by.table rows c.args.part c.self.invariant.1 read)

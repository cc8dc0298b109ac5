use Rattle.std.proofs.Common.{List, ◌++◌, ◌∷◌, []}
use Rattle.rds_names.specs.declared.entry.Entry.{Entry}
use Rattle.rds_dots.specs.declared.dot.Dot.{Dot}
use Rattle.rds_life.specs.Life.{lives_of}
use Rattle.rds_bytes.specs.Packed.{packed_at}
use Rattle.rds_bytes.specs.Reading.{made_at}
use Rattle.rds_feeds.specs.Numbered.{with_met}
use Rattle.rds_packed.specs.PackedReading.{packed_key_at, packed_row_at, packed_lives_at}
use Rattle.rds_packed.specs.declared.lives.LivesBy.{LivesBy}
use Rattle.rds_packed.proofs.RowsMet.{met_by}
use Rattle.rds_packed.proofs.RowsRead.{twice, rows_read}
use Rattle.rds_packed.proofs.lives.unfinished_packed_lives.Goals as goal

pub returns : goal.returns
unfolding packed_lives_at
returns g c =
    let contents = g.S.DotSet.contents in
    let table = c.args.table in
    let by : LivesBy g.row.S.Denot = record { table = table; seen = c.args.seen } in
    let row = packed_row_at (packed_key_at table) (contents c.args.seen) in
    rw c.new.ensures.items
    (rows_read row (λ (l : LivesBy g.row.S.Denot × List (Dot × Entry)). made_at (λ x. (l.0, l.1 ++ x.0 ∷ [])) (made_at (with_met (met_by l.0.table) l.1) (packed_row_at (packed_key_at l.0.table) (contents l.0.seen) l.1)))
    (λ rows. (by, rows)) (λ before bytes. twice (λ x. (by, before ++ x.0 ∷ [])) (with_met (met_by table) before) (row before bytes))
    (λ m. (m.0.table, lives_of (contents m.0.seen) m.1)) _ packed_at c.unfinished_packed.ensures)

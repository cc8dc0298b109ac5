use Rattle.std.proofs.Common.{◌≡◌, ◌∙◌, List, Ok, ap, sym, subst}
use Rattle.std.specs.Prelude.{fold}
use Rattle.rds_names.specs.declared.entry.Entry.{Entry}
use Rattle.rds_dots.specs.declared.dot.Dot.{Dot}
use Rattle.rds_bytes.specs.Reading.{made_at}
use Rattle.rds_bytes.specs.TableValue.{TableValue, meeting}
use Rattle.rds_feeds.specs.Numbered.{with_met}
use Rattle.rds_packed.specs.PackedReading.{packed_key_at, packed_row_at}
use Rattle.rds_packed.specs.declared.lives.LivesBy.{LivesBy}
use Rattle.rds_packed.proofs.RowsMet.{met_by, met_found, row_met}
use Rattle.rds_packed.proofs.lives.LivesSoFarPart.read.Goals as goal

pub returns : goal.returns
returns g c =
    let contents = g.S.DotSet.contents in
    let table = c.self.inside.by.table in
    let seen = contents c.self.inside.by.seen in
    let rows = c.self.inside.rows.items in
    let row = c.in_ok-row.row in
    let rest = c.in_ok-row.rest.now in
    let keys : c.new-keys.result ≡ record { keys = table; met = c.self.inside.met } = c.new-keys.ensures ∙ c.keys.ensures in
    let met = row_met table rows row c.self.inside.met c.read_row.new.keys c.self.invariant.0 (c.in_ok-row.ensures.after ∙ ap (λ (t : TableValue). fold meeting t row.1.path) keys) in
    let read : packed_row_at (packed_key_at table) seen rows c.args.bytes.now ≡ Ok (row, rest) =
    (λ i. packed_row_at (packed_key_at (sym keys i).keys) seen (sym c.deref.ensures.value i) c.args.bytes.now) ∙ c.in_ok-row.ensures.read in
    let found = met_found (met_by table) rows (packed_row_at (packed_key_at table) seen rows) c.args.bytes.now row c.into_met.result rest read (c.into_met.ensures ∙ met) in
    subst (λ (l : LivesBy g.row.S.Denot × List (Dot × Entry)). made_at (with_met (met_by l.0.table) l.1) (packed_row_at (packed_key_at l.0.table) (contents l.0.seen) l.1) c.args.bytes.now ≡ Ok ((row, c.into_met.result), rest))
    c.self.view_is found

use Rattle.std.proofs.Common.{◌≡◌, ◌∙◌, Ok, ap, sym, subst}
use Rattle.rds_bytes.specs.Reading.{made_at}
use Rattle.rds_bytes.specs.TableValue.{TableValue, meeting}
use Rattle.rds_feeds.specs.Numbered.{with_met}
use Rattle.rds_packed.specs.CountTexts.{packed_count_row_at}
use Rattle.rds_packed.specs.PackedReading.{packed_key_at}
use Rattle.rds_packed.specs.CountsValue.{CountsValue}
use Rattle.rds_packed.proofs.CountsRead.{counts_met, count_row_met}
use Rattle.rds_packed.proofs.RowsMet.{met_found}
use Rattle.rds_packed.proofs.parts.CountsSoFarPart.read.Goals as goal

pub returns : goal.returns
returns g c =
    let lives = c.self.inside.lives in
    let replicas = c.self.inside.replicas in
    let rows = c.self.inside.rows.items in
    let row = c.in_ok-row.row in
    let rest = c.in_ok-row.rest.now in
    let keys : c.new-keys.result ≡ record { keys = lives.0; met = c.self.inside.met } = c.new-keys.ensures ∙ c.keys.ensures in
    let met = count_row_met lives rows row c.self.inside.met c.read_count_row.new.keys c.self.invariant.0 (c.in_ok-row.ensures.after ∙ ap (λ (t : TableValue). meeting t row.key) keys) in
    let read : packed_count_row_at (packed_key_at lives.0) replicas rows c.args.bytes.now ≡ Ok (row, rest) =
    (λ i. packed_count_row_at (packed_key_at (sym keys i).keys) replicas (sym c.deref.ensures.value i) c.args.bytes.now) ∙ c.in_ok-row.ensures.read in
    let found = met_found (counts_met lives) rows (packed_count_row_at (packed_key_at lives.0) replicas rows) c.args.bytes.now row c.into_met.result rest read (c.into_met.ensures ∙ met) in
    subst (λ (l : CountsValue). made_at (with_met (counts_met l.0.0) l.1) (packed_count_row_at (packed_key_at l.0.0.0) l.0.1 l.1) c.args.bytes.now ≡ Ok ((row, c.into_met.result), rest))
    c.self.view_is found

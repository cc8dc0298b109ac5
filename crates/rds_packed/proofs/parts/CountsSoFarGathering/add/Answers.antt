use Rattle.std.proofs.Common.{sym, subst}
use Rattle.rds_bytes.specs.Reading.{made_at}
use Rattle.rds_feeds.specs.Numbered.{with_met}
use Rattle.rds_feeds.specs.Parts.{WasRead}
use Rattle.rds_packed.specs.CountTexts.{packed_count_row_at}
use Rattle.rds_packed.specs.PackedReading.{packed_key_at}
use Rattle.rds_packed.specs.CountsValue.{CountsValue}
use Rattle.rds_packed.proofs.CountsRead.{counts_met, count_added}
use Rattle.rds_packed.proofs.parts.CountsSoFarGathering.add.Goals as goal

pub invariant_of-self-2 : goal.invariant_of-self-2
invariant_of-self-2 g c =
    let rows = c.self.inside.rows.items in
    let read = subst (λ (l : CountsValue). WasRead (made_at (with_met (counts_met l.0.0) l.1) (packed_count_row_at (packed_key_at l.0.0.0) l.0.1 l.1)) c.args.part) (sym c.self.view_is) c.requires in
    rw c.in_ok-push.ensures.items (count_added c.self.inside.lives c.self.inside.replicas rows c.args.part c.self.invariant.1 read)

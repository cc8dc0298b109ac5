use Rattle.std.proofs.Common.{arith}
use Rattle.rds_keep.proofs.KeptTexts.{is_kept}
use Rattle.rds_keep.proofs.snapshots.text_can_be_kept.Goals as goal

pub returns : goal.returns
returns g c = is_kept c.args.replica.now c.args.text.now (λ i. omega (arith, c.type_inv.text i)) c.requires.text c.requires.within c.requires.again

use Rattle.std.proofs.Common.{◌∙◌, ap, List, ℕ}
use Rattle.rds_bytes.specs.Table.{has_key}
use Rattle.rds_packed.proofs.FrontKeys.{was_new}
use Rattle.rds_packed.proofs.tables.KeysSoFarGathering.add.Goals as goal

pub add-requires-clause-new : goal.add-requires-clause-new
add-requires-clause-new c =
    ap (λ (ks : List (List ℕ)). has_key ks c.args.part.0) (c.as_slice.ensures.value ∙ (c.reserve.ensures.items ∙ c.self.view_is))
    ∙ was_new c.args.self.now c.args.part c.requires

use Rattle.std.proofs.Common.{◌∙◌, List, ℕ, subst}
use Rattle.rds_offline.specs.Letters.{IsBrought}
use Rattle.rds_client.proofs.visiting.sync_site.Goals as goal

pub returns-in-Ok-bring : goal.returns-in-Ok-bring
returns-in-Ok-bring g c = record {
  taken = subst (λ (path : List ℕ). IsBrought path c.in-Ok-bring.taken) (c.ask.ensures.path ∙ c.in-Ok.ensures.path) c.in-Ok-bring.ensures.taken;
}

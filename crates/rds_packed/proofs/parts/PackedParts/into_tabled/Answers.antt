use Rattle.std.proofs.Common.{◌∙◌, sym, ap}
use Rattle.rds_feeds.specs.Numbered.{has_own_table}
use Rattle.rds_packed.proofs.MetInTurn.{is_own}
use Rattle.rds_packed.proofs.parts.PackedParts.into_tabled.Goals as goal

pub returns-then-not-is_met-clause-exact : goal.returns-then-not-is_met-clause-exact
returns-then-not-is_met-clause-exact g c =
    let inside = c.self.inside in
    ap has_own_table (sym c.self.view_is) ∙ is_own (inside.table, (inside.lives, inside.counts)) inside.met c.keys.result c.is_met.result c.self.invariant c.keys.ensures c.is_met.ensures ∙ c.if-not-is_met.true

pub returns-clause-exact : goal.returns-clause-exact
returns-clause-exact g c =
    let inside = c.self.inside in
    ap has_own_table (sym c.self.view_is) ∙ is_own (inside.table, (inside.lives, inside.counts)) inside.met c.keys.result c.is_met.result c.self.invariant c.keys.ensures c.is_met.ensures ∙ c.if-not-is_met.false

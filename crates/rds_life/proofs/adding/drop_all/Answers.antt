use Rattle.std.proofs.Common.{◌∙◌, ap, false, refl}
use Rattle.std.specs.FinMap as map
use Rattle.rds_dots.specs.Dots.{dot_cmp}
use Rattle.rds_life.proofs.Additions.{dropping_takes}
use Rattle.rds_life.proofs.Puts.{find-without}
use Rattle.rds_life.proofs.adding.drop_all.Goals as goal

pub dropping-preserved : goal.dropping-preserved
dropping-preserved c =
    let row = c.in-Some.parts.0.now in
    dropping_takes (λ _. false) c.args.other.now c.in-Some.parts.1.now c.args.rows.now c.dropping.rows row c.dropping.rest.now c.remove.new.self c.in-Some.ensures.cases.0 c.dropping.invariant refl
    (λ d. ap (map.find dot_cmp d) c.remove.ensures ∙ find-without row.0 c.dropping.rows d)

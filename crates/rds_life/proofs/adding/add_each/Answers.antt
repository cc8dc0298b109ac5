use Rattle.std.proofs.Common.{◌∙◌, ap, sym}
use Rattle.std.specs.FinMap as map
use Rattle.std.specs.FinSet as set
use Rattle.rds_dots.specs.Dots.{dot_cmp}
use Rattle.rds_life.proofs.Additions.{adding_puts}
use Rattle.rds_life.proofs.adding.add_each.Goals as goal

pub adding-preserved-in_ok-insert : goal.adding-preserved-in_ok-insert
adding-preserved-in_ok-insert g c =
    let row = c.in-Some.row.now in
    adding_puts (set.contains (g.S.DotSet.contents c.args.seen.now)) c.args.other.now c.in-Some.later.now c.args.rows.now c.adding.rows row c.adding.rest.now c.insert.new.self c.in-Some.ensures.cases.0 c.adding.invariant (sym c.if-not-contains.ensures)
    (c.in_ok-insert.ensures.ok ∙ ap (λ e. map.put dot_cmp row.0 e c.adding.rows) c.in_ok-copy.ensures.ok)

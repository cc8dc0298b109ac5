use Rattle.std.proofs.Common.{◌∙◌, sym}
use Rattle.rds_life.proofs.PastRows.{behind_next}
use Rattle.rds_life.proofs.row_map.MappedRowsIterator.next.Goals as goal

pub invariant_of-self-2 : goal.invariant_of-self-2
invariant_of-self-2 c =
    (behind_next c.self.inside.after c.self.inside.map.now c.self.invariant.1 (c.in_ok-dot.dot.now, c.in_ok-dot.entry.now) _ (sym c.self.invariant.0 ∙ c.in_ok-dot.ensures.steps), c.self.invariant.1)

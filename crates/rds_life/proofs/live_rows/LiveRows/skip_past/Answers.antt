use Rattle.std.proofs.Common.{◌∙◌, ap, sym, rules}
use Rattle.rds_dots.specs.Ascending.{ascends}
use Rattle.rds_life.specs.Life.{keys}
use Rattle.rds_life.specs.Past.{rows_past}
use Rattle.rds_life.specs.Rests.{rows_to_come}
use Rattle.rds_life.proofs.PastRows.{rise-past}
use Rattle.rds_life.proofs.live_rows.LiveRows.skip_past.Goals as goal
use Rattle.rds_life.proofs.live_rows.LiveRows.skip_past.Goals.{in-Listed, in-Mapped}

pub returns-clause-past : goal.returns-clause-past
returns-clause-past c = elim c.match-self.branch [
  | in-Listed w ↦ search rules
  | in-Mapped w ↦ search rules
]

pub invariant_of-self : goal.invariant_of-self
invariant_of-self c =
    ap (λ rows. ascends (keys rows)) (returns-clause-past c ∙ ap (rows_past c.args.dot) (sym c.self.view_is))
    ∙ rise-past c.args.dot (rows_to_come c.self.inside.rest) c.self.invariant

pub returns-clause-ascending : goal.returns-clause-ascending
returns-clause-ascending c = invariant_of-self c

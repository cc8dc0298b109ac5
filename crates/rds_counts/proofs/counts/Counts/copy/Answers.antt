use Rattle.std.proofs.Common.{◌∙◌}
use mathlib.Core.Bool.{false≢true}
use Rattle.rds_counts.proofs.Nothing.{no_rows}
use Rattle.rds_counts.proofs.counts.Counts.copy.Goals as goal

pub returns-in_err-copy_rows-clause-nothing : goal.returns-in_err-copy_rows-clause-nothing
returns-in_err-copy_rows-clause-nothing c = λ none.
    absurd (false≢true (c.in_err-copy_rows.ensures.nothing (c.deref.ensures.value ∙ no_rows c.self.inside.rows.items c.args.self.now c.self.invariant c.self.view_is none)))

use Rattle.std.proofs.Common.{◌∙◌, sym, ap}
use Rattle.rds_counts.specs.RowsOf.{count_rows}
use Rattle.rds_counts.specs.RowsOfLemmas.{count_rows-counts_of}
use Rattle.rds_counts.proofs.counts.Counts.rows.Goals as goal

pub returns-clause-only : goal.returns-clause-only
returns-clause-only c = c.deref.ensures.value ∙ sym (count_rows-counts_of c.self.inside.rows.items c.self.invariant) ∙ ap count_rows c.self.view_is

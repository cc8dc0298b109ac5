use Rattle.std.proofs.Common.{◌∙◌, ap, subst, sym}
use Rattle.rds_counts.specs.Counted.{counts_of, AreCountRows}
use Rattle.rds_tree.proofs.marking.rows_of.Goals as goal

pub returns-clause-has : goal.returns-clause-has
returns-clause-has c = record { are = subst AreCountRows c.rows.ensures.only c.rows.ensures.are_rows; say = ap counts_of (sym c.rows.ensures.only) ∙ sym c.rows.ensures.value }

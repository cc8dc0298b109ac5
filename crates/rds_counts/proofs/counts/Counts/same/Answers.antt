use Rattle.std.proofs.Common.{◌∙◌, sym, ap}
use Rattle.rds_counts.specs.Counted.{counts_of}
use Rattle.rds_counts.specs.RowsOf.{count_rows}
use Rattle.rds_counts.specs.RowsOfLemmas.{count_rows-counts_of}
use Rattle.rds_counts.proofs.counts.Counts.same.Goals as goal

-- equal counters have equal rows
pub returns : goal.returns
returns c = (
  (λ is. sym c.self.view_is ∙ ap counts_of (sym c.deref.ensures.value ∙ c.same_rows.ensures.0 is ∙ c.deref-2.ensures.value) ∙ c.other.view_is),
  (λ same. c.same_rows.ensures.1
      (c.deref.ensures.value ∙ sym (count_rows-counts_of c.self.inside.rows.items c.self.invariant)
      ∙ ap count_rows (c.self.view_is ∙ same ∙ sym c.other.view_is)
      ∙ count_rows-counts_of c.other.inside.rows.items c.other.invariant ∙ sym c.deref-2.ensures.value)),
)

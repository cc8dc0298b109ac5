use Rattle.std.proofs.Common.{◌∙◌, ap, sym, length}
use Rattle.std.specs.FinMap as map
use Rattle.rds_counts.specs.Counted.{components, counts_of}
use Rattle.rds_counts.specs.Entries.{entries-counts_of}
use Rattle.rds_counts.proofs.counts.Counts.components.Goals as goal

pub returns-clause-size : goal.returns-clause-size
returns-clause-size c =
    c.numbers_above.ensures.is ∙ ap (λ rows. length (components rows)) c.deref.ensures.value
    ∙ ap length (sym (entries-counts_of c.self.inside.rows.items c.self.invariant.rise))
    ∙ sym (map.len-entries (counts_of c.self.inside.rows.items))
    ∙ ap map.len c.self.view_is

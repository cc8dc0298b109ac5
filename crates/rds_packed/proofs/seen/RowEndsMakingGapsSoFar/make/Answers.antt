use Rattle.std.proofs.Common.{◌∙◌, Result, Ok, ap, sym}
use Rattle.rds_names.specs.declared.fault.Fault.{Fault}
use Rattle.rds_feeds.specs.SeenDots.{GapsValue, RowsValue, end_row}
use Rattle.rds_packed.proofs.SeenRuns.{row_ends}
use Rattle.rds_packed.proofs.seen.RowEndsMakingGapsSoFar.make.Goals as goal

abbrev ok : RowsValue → Result RowsValue Fault
ok v = Ok v

pub returns-clause-ok : goal.returns-clause-ok
returns-clause-ok g c =
    let inside = c.whole.inside in
    let value : GapsValue = record { replicas = inside.replicas; replica = inside.replica; top = inside.top; before = inside.before; seen = g.S.DotSet.contents inside.seen } in
    ap (λ (v : GapsValue). ok (end_row v)) (sym c.whole.view_is)
    ∙ ap ok (row_ends value c.first_after.result c.from.result (g.S.DotSet.contents c.insert_run.new.self) c.whole.invariant c.first_after.ensures c.from.ensures c.in_ok-insert_run.ensures.ok)

use Rattle.std.proofs.Common.{List, ap, sym, ◌∙◌, subst, arith, leb}
use Rattle.rds_dots.specs.declared.dot.Run.{Run}
use Rattle.rds_dots.specs.Runs.{start}
use Rattle.rds_dots.specs.RunFacts.{bounds_of}
use Rattle.rds_gaps.specs.Added.{addition, last_start}
use Rattle.rds_gaps.specs.Inserted.{insertion, IsCoalesced}
use Rattle.rds_gaps.proofs.Places.{parted_at, inserted_alone, inserted_over, added_is_inserted, same_on_ok}
use Rattle.rds_gaps.proofs.Facts.{le_of}
use Rattle.rds_gaps.proofs.inserting.insert_run.Goals as goal

pub returns-then-begins_last-clause-ok : goal.returns-then-begins_last-clause-ok
returns-then-begins_last-clause-ok c =
    let old = c.args.runs.now.items in
    let le = le_of (last_start old) (start c.args.run) (ap (λ (rs : List Run). leb (last_start rs) (start c.args.run)) (sym c.deref.ensures.value) ∙ sym c.if-begins_last.ensures) in
    same_on_ok c.add_run.result c.add_run.new.runs.items (addition old c.args.run) (insertion old c.args.run) c.add_run.ensures.ok (added_is_inserted old c.args.run c.requires.runs_are (bounds_of c.args.run c.requires.run_is) le)

pub returns-in_ok-insert-clause-ok : goal.returns-in_ok-insert-clause-ok
returns-in_ok-insert-clause-ok c =
    let old = c.args.runs.now.items in
    let b = bounds_of c.args.run c.requires.run_is in
    let p = parted_at c.args.run c.saturating_sub.result c.deref-2.result.now old c.index_after-from.result c.saturating_sub.ensures c.deref-2.ensures.value c.index_after-from.ensures.parted in
    let d = subst (λ (rs : List Run). IsCoalesced rs c.index_after-from.result c.args.run c.coalesced-to.result.0 c.coalesced-to.result.1) c.deref-3.ensures.value c.coalesced-to.ensures in
    c.in_ok-insert.ensures.items ∙ inserted_alone old c.requires.runs_are c.args.run b c.index_after-from.result p c.coalesced-to.result.0 c.coalesced-to.result.1 d c.if-from-to.true

pub returns-else-from-to-clause-ok : goal.returns-else-from-to-clause-ok
returns-else-from-to-clause-ok c =
    let old = c.args.runs.now.items in
    let b = bounds_of c.args.run c.requires.run_is in
    let p = parted_at c.args.run c.saturating_sub.result c.deref-2.result.now old c.index_after-from.result c.saturating_sub.ensures c.deref-2.ensures.value c.index_after-from.ensures.parted in
    let d = subst (λ (rs : List Run). IsCoalesced rs c.index_after-from.result c.args.run c.coalesced-to.result.0 c.coalesced-to.result.1) c.deref-3.ensures.value c.coalesced-to.ensures in
    let in_order = d.in_order in
    let apart = c.if-from-to.false in
    c.remove_between.ensures ∙ inserted_over old c.requires.runs_are c.args.run b c.index_after-from.result p c.coalesced-to.result.0 c.coalesced-to.result.1 d (omega (arith, apart))

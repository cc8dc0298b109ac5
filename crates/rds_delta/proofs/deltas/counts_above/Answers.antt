use Rattle.std.proofs.Common.{◌∙◌, sym, ap, subst}
use mathlib.Core.Bool.{false≢true}
use Rattle.rds_counts.specs.Counted.{Counted, number, counts_of, AreCountRows}
use Rattle.rds_counts.proofs.Nothing.{rows_of_zeros}
use Rattle.rds_delta.specs.Higher.{higher_rows}
use Rattle.rds_delta.proofs.DeltaLemmas.{higher_are, number_above}
use Rattle.rds_delta.proofs.deltas.counts_above.Goals as goal

pub with_rows-requires : goal.with_rows-requires
with_rows-requires c = record { rows = subst AreCountRows (sym c.in_ok-rows.ensures.ok) (higher_are (number c.args.peer.now) c.rows.result.now c.rows.ensures.are_rows) }

pub returns-in_err-rows-clause-nothing : goal.returns-in_err-rows-clause-nothing
returns-in_err-rows-clause-nothing c = λ none.
    let peer = number c.args.peer.now in
    let rows = c.rows.result.now in
    absurd (false≢true (c.in_err-rows.ensures.nothing
    (rows_of_zeros (higher_rows peer rows) (higher_are peer rows c.rows.ensures.are_rows)
    (λ q. number_above peer rows c.rows.ensures.are_rows c.args.counts.now (sym c.rows.ensures.value) q ∙ none q))))

pub returns-clause-ok : goal.returns-clause-ok
returns-clause-ok c = λ q.
    ap (λ (m : Counted). number m q) (c.with_rows.ensures.value ∙ ap counts_of c.in_ok-rows.ensures.ok)
    ∙ number_above (number c.args.peer.now) c.rows.result.now c.rows.ensures.are_rows c.args.counts.now (sym c.rows.ensures.value) q

use Rattle.std.proofs.Common.{subst, sym}
use Rattle.rds_counts.specs.Counted.{number}
use Rattle.rds_state.specs.Ahead.{NumberAhead}
use Rattle.rds_state.proofs.AheadLemmas.{rows_ahead_is}
use Rattle.rds_questions.proofs.taking.number_lacking.Goals as goal

pub returns : goal.returns
returns c =
    let here = number c.args.counts.now in
    let sent = number c.args.told.now in
    subst (NumberAhead here c.args.own sent) (sym c.first_above.ensures) (rows_ahead_is here c.args.own c.args.told.now c.rows.result.now c.rows.ensures.are_rows c.rows.ensures.value)

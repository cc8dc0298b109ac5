use Rattle.rds_counts.specs.Counted.{number}
use Rattle.rds_questions.proofs.Reached.{all_rows, each_row}
use Rattle.rds_questions.proofs.reaching.are_numbers_reached.Goals as goal

pub returns : goal.returns
returns c =
    let here = number c.args.here.now in
    let told = c.args.told.now in
    let rows = c.rows.result.now in
    let is = c.rows.ensures in (
      λ all. all_rows here told rows is.are_rows is.value (c.are_rows_reached.ensures.0 all),
      λ each. c.are_rows_reached.ensures.1 (each_row here told rows is.are_rows is.value each),
    )

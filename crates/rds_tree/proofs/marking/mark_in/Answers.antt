use Rattle.std.proofs.Common.{◌∙◌, ap, sym}
use Rattle.rds_state.specs.Mark.{count_mark}
use Rattle.rds_tree.proofs.MarkCounts.{mark_found, mark_lacking}
use Rattle.rds_tree.proofs.marking.mark_in.Goals as goal

pub returns-in-Ok : goal.returns-in-Ok
returns-in-Ok c = c.of_count.ensures ∙ ap count_mark c.index-rows-at.is ∙ sym (mark_found c.args.key.now c.args.replica c.args.rows.now c.requires.rise c.in-Ok.at c.in-Ok.ensures c.index-rows-at.result)

pub returns-in-Err : goal.returns-in-Err
returns-in-Err c = c.empty.ensures ∙ sym (mark_lacking c.args.key.now c.args.replica c.args.rows.now c.requires.rise _ c.in-Err.ensures)

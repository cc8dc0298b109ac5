use Rattle.std.proofs.Common.{◌<◌, arith, length, sym, subst, List, ℕ}
use Rattle.rds_lines.proofs.EditedLines.{follows_last, follows_step, line_more, none_left, some_left}
use Rattle.rds_lines.proofs.Pieces.{rest_shorter}
use Rattle.rds_lines.proofs.editing.edit_lines.Goals as goal

pub returns-then-is_empty-clause-edited : goal.returns-then-is_empty-clause-edited
returns-then-is_empty-clause-edited g c =
    follows_last c.lines.count c.args.input.now c.lines.rest.now (g.E.Edits.replica c.args.editor.now) (g.E.Edits.replica c.lines.editor) c.lines.answers.items (none_left c.lines.rest.now c.is_empty.result c.is_empty.ensures c.if-is_empty.true) c.lines.invariant.follows

pub lines-smaller : goal.lines-smaller
lines-smaller g c =
    subst (λ (l : List ℕ). length l < length c.lines.rest.now) (sym c.split_line.ensures.rest) (rest_shorter c.lines.rest.now (some_left c.lines.rest.now c.is_empty.result c.is_empty.ensures c.if-is_empty.false))

pub answer_next-requires : goal.answer_next-requires
answer_next-requires g c =
    let some = some_left c.lines.rest.now c.is_empty.result c.is_empty.ensures c.if-is_empty.false in
    let more = line_more c.lines.rest.now c.split_line.result.1.now some c.split_line.ensures.rest in
    omega (arith, more, c.lines.invariant.room)

pub lines-preserved : goal.lines-preserved
lines-preserved g c =
    let some = some_left c.lines.rest.now c.is_empty.result c.is_empty.ensures c.if-is_empty.false in
    let shorter : length c.split_line.result.1.now < length c.lines.rest.now = subst (λ (l : List ℕ). length l < length c.lines.rest.now) (sym c.split_line.ensures.rest) (rest_shorter c.lines.rest.now some) in
    let more = line_more c.lines.rest.now c.split_line.result.1.now some c.split_line.ensures.rest in
    record {
      follows = follows_step c.lines.count c.args.input.now c.lines.rest.now c.split_line.result.0.now c.split_line.result.1.now (g.E.Edits.replica c.args.editor.now) (g.E.Edits.replica c.lines.editor) (g.E.Edits.replica c.answer_next.new.editor) c.lines.answers.items c.answer_next.new.answers.items
          some c.split_line.ensures.line c.split_line.ensures.rest c.lines.invariant.follows c.answer_next.ensures.answered;
      counted = omega (arith, shorter, c.lines.invariant.counted);
      room = omega (arith, more, c.lines.invariant.room, c.answer_next.ensures.one, c.answer_next.ensures.room);
      stays = g.met.E.Edits.then c.args.editor.now c.lines.editor c.answer_next.new.editor c.lines.invariant.stays c.answer_next.ensures.stays;
    }

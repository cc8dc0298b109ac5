use Rattle.std.proofs.Common.{◌≡◌, ◌<◌, arith, ap, length, List, ℕ, subst, sym}
use Rattle.rds_lines.proofs.EditedLines.{line_more, none_left, some_left}
use Rattle.rds_lines.proofs.Pieces.{rest_shorter}
use Rattle.rds_lines.proofs.editing.count_lines.Goals as goal
use Rattle.rds_lines.specs.Lines.{lines_in}

pub returns-then-is_empty : goal.returns-then-is_empty
returns-then-is_empty c =
    let none = none_left c.lines.rest.now c.is_empty.result c.is_empty.ensures c.if-is_empty.true in
    let over : length (lines_in c.lines.rest.now) ≡ 0 = ap (λ (l : List ℕ). length (lines_in l)) none in
    omega (arith, over, c.lines.invariant.all)

pub lines-smaller : goal.lines-smaller
lines-smaller c =
    subst (λ (l : List ℕ). length l < length c.lines.rest.now) (sym c.split_line.ensures.rest) (rest_shorter c.lines.rest.now (some_left c.lines.rest.now c.is_empty.result c.is_empty.ensures c.if-is_empty.false))

pub lines-preserved : goal.lines-preserved
lines-preserved c =
    let some = some_left c.lines.rest.now c.is_empty.result c.is_empty.ensures c.if-is_empty.false in
    let shorter : length c.split_line.result.1.now < length c.lines.rest.now = subst (λ (l : List ℕ). length l < length c.lines.rest.now) (sym c.split_line.ensures.rest) (rest_shorter c.lines.rest.now some) in
    let more = line_more c.lines.rest.now c.split_line.result.1.now some c.split_line.ensures.rest in
    record {
      all = omega (arith, more, c.lines.invariant.all);
      counted = omega (arith, shorter, c.lines.invariant.counted);
    }

use Rattle.std.proofs.Common.{rules, ◌≡◌, ◌∙◌, ◌+◌, ℕ, List, [], ◌++◌, ap, drop}
use Rattle.std.specs.Prelude.{string_bytes}
use Rattle.rds_names.specs.declared.scalar.Scalar.{Scalar}
use Rattle.rds_json.proofs.Sizes.{size_of}
use Rattle.rds_tree.specs.Shown.{maps_of, shown_view, views_shown}
use Rattle.rds_listing.specs.Conflicts.{conflict_lines}
use Rattle.rds_listing.specs.Pieces.{lines_text}
use Rattle.rds_listing.specs.Standings.{standings_beside}
use Rattle.rds_listing.proofs.ConflictLines.{map_told, maps_are_smaller, smaller_left, told_of_view}
use Rattle.rds_listing.proofs.conflicting.+push_conflicts.Goals as goal

pub loop-row-init : goal.loop-row-init
loop-row-init t c = record {
  told =
      ap (λ (ls : List ℕ). string_bytes c.args.text.now ++ ls)
      (told_of_view c.args.above.now c.args.shape.now c.rows-regs.result.now _ c.rows-regs.ensures c.rows-maps.ensures);
  smaller = maps_are_smaller c.args.shape.now _ c.rows-maps.ensures;
}

pub loop-row-preserved : goal.loop-row-preserved
loop-row-preserved t c =
    let above = c.args.above.now in
    let l = c.loop-row in
    let maps = c.rows-maps.result.now in
    let left = maps_of (views_shown (drop (l.row-index + 1) maps)) in
    let last = string_bytes c.push_conflicts.new.text in
    record {
      told =
          ap (λ (rs : List (List ℕ × List Scalar)). last ++ lines_text (conflict_lines (standings_beside above rs [] left))) c.split_past.ensures.later
          ∙ map_told above l.regs.now maps l.row-index c.row-item.result (string_bytes l.text) (string_bytes c.push_registers.new.text) last _
          c.loop-row-test.true c.row-item.is l.invariant.told (search rules) (search rules);
      smaller = smaller_left maps l.row-index c.row-item.result (size_of (shown_view c.args.shape.now)) c.loop-row-test.true c.row-item.is l.invariant.smaller;
    }

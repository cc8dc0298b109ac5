use Rattle.std.proofs.Common.{◌≡◌, ◌++◌, ◌<◌, [], drop}
use Rattle.std.specs.Prelude.{string_bytes}
use Rattle.rds_tree.specs.Shown.{maps_of, shown_view, views_shown}
use Rattle.rds_json.proofs.Sizes.{maps_size, size_of}
use Rattle.rds_listing.specs.Conflicts.{conflict_lines, conflicts_below}
use Rattle.rds_listing.specs.Pieces.{lines_text}
use Rattle.rds_listing.specs.Standings.{standings_beside}
use Rattle.rds_listing.proofs.conflicting.+push_conflicts.Given as goal

abbrev pub decreases-push_conflicts : goal.decreases-push_conflicts
decreases-push_conflicts l = size_of (shown_view l.shape.now)

-- those so far, with those of the registers and maps that are left
abbrev pub invariant-loop-row : goal.invariant-loop-row
invariant-loop-row l = record {
  told : string_bytes l.text ++ lines_text (conflict_lines (standings_beside l.above l.regs [] (maps_of (views_shown (drop l.row-index l.maps)))))
      ≡ string_bytes l.initial.text ++ conflicts_below l.above (shown_view l.shape);
  smaller : maps_size (maps_of (views_shown (drop l.row-index l.maps))) < size_of (shown_view l.shape);
}

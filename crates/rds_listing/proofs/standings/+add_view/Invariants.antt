use Rattle.std.proofs.Common.{◌≡◌, ◌++◌, ◌<◌, drop}
use Rattle.rds_tree.specs.Shown.{maps_of, shown_view, views_shown}
use Rattle.rds_json.proofs.Sizes.{maps_size, size_of}
use Rattle.rds_listing.specs.Standings.{standings, standings_beside}
use Rattle.rds_listing.proofs.standings.+add_view.Given as goal

abbrev pub decreases-add_view : goal.decreases-add_view
decreases-add_view l = size_of (shown_view l.shape.now)

-- those so far, with those of the maps that are left
abbrev pub invariant-loop-row : goal.invariant-loop-row
invariant-loop-row l = record {
  told : l.all.items ++ standings_beside l.above l.regs l.sets (maps_of (views_shown (drop l.row-index l.maps)))
      ≡ l.initial.all.items ++ standings l.above (shown_view l.shape);
  smaller : maps_size (maps_of (views_shown (drop l.row-index l.maps))) < size_of (shown_view l.shape);
}

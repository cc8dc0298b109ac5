-- How large a view is.
use Rattle.std.proofs.Common.{ℕ, suc, ◌+◌}
use Rattle.rds_tree.specs.Shown.{Shown, shows, ShownMaps, no_maps, a_map}

abbrev mutual
  pub size_of : Shown → ℕ
  size_of (shows maps regs sets counters) = suc (maps_size maps)

  pub maps_size : ShownMaps → ℕ
  maps_size no_maps = 0
  maps_size (a_map k v maps) = suc (size_of v + maps_size maps)

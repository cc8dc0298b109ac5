-- The lines at a key of a view are those of the view of that key alone.
use Rattle.std.proofs.Common.{◌≡◌, ℕ, List}
use Rattle.std.specs.Prelude.{filter}
use Rattle.rds_tree.specs.Parts.{only_key}
use Rattle.rds_tree.specs.Row.{is_filled}
use Rattle.rds_tree.specs.Shown.{Shown, shows}
use Rattle.rds_json.proofs.OneKey.{counter_at-only, values_at-only}
use Rattle.rds_listing.specs.Raw.{lines_at, wanted_lines}
use Rattle.rds_listing.specs.declared.bare.Wanted.{Wanted}

pub lines-only : (wanted : Wanted) (key : List ℕ) (shown : Shown) → lines_at wanted key (only_key key shown) ≡ lines_at wanted key shown
lines-only wanted key (shows maps regs sets counters) = λ i. filter is_filled (wanted_lines wanted (values_at-only key regs i) (values_at-only key sets i) (counter_at-only key counters i))

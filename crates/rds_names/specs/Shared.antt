-- Items that several values may share.
use Rattle.std.specs.Prelude.{List, [], Option, Some, None}
use Rattle.std.specs.Arc.{arc_slice_items}
use Rattle.std.specs.declared.sync.ArcSlice.{ArcSlice}

-- none are kept apart, in no memory
abbrev pub shared_items : {X Z : Type 0} → Option (ArcSlice X Z) → List X
shared_items None = []
shared_items (Some items) = arc_slice_items items

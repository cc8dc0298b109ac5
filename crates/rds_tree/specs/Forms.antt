-- The leaves at the end of a path, as they are kept.
use Rattle.std.specs.Prelude.{List, [], ◌∷◌}
use Rattle.rds_tree.specs.declared.leaf.Leaf.{Leaf}
use Rattle.rds_tree.specs.declared.leaves.Form.{Form}
use Rattle.rds_tree.specs.declared.leaves.Form.TheVariants.{Empty, Alone, Two, Several}

abbrev pub leaves_kept : Form → List Leaf
leaves_kept Empty = []
leaves_kept (Alone l) = l ∷ []
leaves_kept (Two l m) = l ∷ m ∷ []
leaves_kept (Several leaves) = leaves

-- The values of a kind that stand at a node.
use Rattle.std.proofs.Common.{◌≡◌, ℕ, List, [], ◌∷◌, ◌++◌, map, refl, ◌∙◌, ap}
use Rattle.std.specs.Prelude.{Some, None, if◌then◌else◌}
use Rattle.std.specs.List.{filter_map, cons_option}
use Rattle.rds_names.specs.declared.scalar.Scalar.{Scalar}
use Rattle.rds_names.specs.declared.entry.Kind.{Kind}
use Rattle.rds_tree.specs.declared.leaf.Leaf.{Leaf}
use Rattle.rds_tree.specs.Document.{Placed}
use Rattle.rds_tree.specs.View.{is_that_kind, value_here, values_here, values_once}
use Rattle.rds_tree.specs.Gathered.{values_in}
use Rattle.rds_tree.specs.Row.{Row, under, rows_in_children, rows_in_node, placed_all}

abbrev found : Kind → List Placed → List Scalar
found kind es = filter_map (λ e. value_here kind e.kind e.value e.path) es

found-under : (kind : Kind) (k : List ℕ) (rows rest : List Row) → found kind (placed_all (map (under k) rows ++ rest)) ≡ found kind (placed_all rest)
found-under kind k [] rest = refl
found-under kind k (r ∷ rows) rest = found-under kind k rows rest

found-below : (kind : Kind) (cs : List (List ℕ × List Row)) → found kind (placed_all (rows_in_children cs)) ≡ []
found-below kind [] = refl
found-below kind (c ∷ cs) = found-under kind c.0 c.1 (rows_in_children cs) ∙ found-below kind cs

found-rows : (kind : Kind) (leaves : List Leaf) (cs : List (List ℕ × List Row)) → found kind (placed_all (rows_in_node leaves cs)) ≡ values_in kind leaves
found-rows kind [] cs = found-below kind cs
found-rows kind (l ∷ leaves) cs = ap (cons_option (if is_that_kind kind l.kind then Some l.value else None)) (found-rows kind leaves cs)

pub values_here-rows : (kind : Kind) (leaves : List Leaf) (cs : List (List ℕ × List Row)) → values_here kind (placed_all (rows_in_node leaves cs)) ≡ values_once (values_in kind leaves)
values_here-rows kind leaves cs = ap values_once (found-rows kind leaves cs)

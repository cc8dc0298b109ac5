-- A child of a tree is lighter than the tree.
use Rattle.std.specs.Prelude.{◌≡◌, ℕ, ◌+◌, ◌≤◌, max, Bool, true, false, ◌&&◌, List, [], ◌∷◌, ◌++◌, length, map}
use Rattle.std.proofs.Common.{arith}
use denote.Param.Weighed.{most}
use Rattle.rds_tree.specs.declared.leaf.Leaf.{Leaf}
use Rattle.rds_tree.specs.Row.{Row, under, at_end, rows_in_children, rows_in_node, is_filled, are_full, weight}

weight-append : (xs ys : List Row) → weight (xs ++ ys) ≡ weight xs + weight ys
weight-append [] ys = omega arith
weight-append (x ∷ xs) ys = omega (arith, weight-append xs ys)

weight-under : (k : List ℕ) (rows : List Row) → weight (map (under k) rows) ≡ weight rows + length rows
weight-under k [] = omega arith
weight-under k (r ∷ rows) = omega (arith, weight-under k rows)

full_length : (b : Bool) (rows : List Row) → (is_filled rows && b) ≡ true → 1 ≤ length rows
full_length b [] h = absurd (cc)
full_length b (r ∷ rows) h = omega arith

full_rest : (a b : Bool) → (a && b) ≡ true → b ≡ true
full_rest true b h = h
full_rest false b h = absurd (cc)

lighter_below : (cs : List (List ℕ × List Row)) → are_full cs ≡ true → most (λ y. weight y + 1) (map (λ x. x.1) cs) ≤ weight (rows_in_children cs)
lighter_below [] h = omega arith
lighter_below (c ∷ cs) h =
    omega (arith, weight-append (map (under c.0) c.1) (rows_in_children cs), weight-under c.0 c.1, full_length (are_full cs) c.1 h, lighter_below cs (full_rest (is_filled c.1) (are_full cs) h))

pub child_is_lighter : (leaves : List Leaf) (cs : List (List ℕ × List Row)) → are_full cs ≡ true → max (most (λ y. weight y + 1) (map (λ x. x.1) cs)) 0 ≤ weight (rows_in_node leaves cs)
child_is_lighter leaves cs h = omega (
  arith,
  weight-append (map at_end leaves) (rows_in_children cs),
  lighter_below cs h,
)

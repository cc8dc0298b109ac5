-- Rows, leaf by leaf and child by child.
use Rattle.std.specs.Bool.{IsTrue}
use Rattle.std.proofs.Common.{◌≡◌, ℕ, Bool, true, false, not, ◌||◌, List, [], ◌∷◌, length, refl, arith}
use Rattle.rds_tree.specs.declared.leaf.Leaf.{Leaf}
use Rattle.rds_tree.specs.View.{goes_deeper}
use Rattle.rds_tree.specs.Row.{placed_all, Row, rows_in_children, rows_in_node, is_filled, are_full}

pub is_full-rows : (leaves : List Leaf) (cs : List (List ℕ × List Row)) → are_full cs ≡ true → is_filled (rows_in_node leaves cs) ≡ (is_filled leaves || is_filled cs)
is_full-rows [] [] h = refl
is_full-rows [] ((k, []) ∷ cs) h = absurd (cc)
is_full-rows [] ((k, (r ∷ rows)) ∷ cs) h = refl
is_full-rows (l ∷ leaves) cs h = refl

pub emptiness : {X : Type 0} (xs : List X) (b : Bool) → (IsTrue b → length xs ≡ 0) × (length xs ≡ 0 → IsTrue b) → b ≡ not (is_filled xs)
emptiness [] true h = refl
emptiness [] false h = h.1 refl
emptiness (x ∷ xs) true h = let no : length (x ∷ xs) ≡ 0 = h.0 refl in absurd (omega arith)
emptiness (x ∷ xs) false h = refl

pub then_empty : (a b l c : Bool) → a ≡ not l → a ≡ true → b ≡ not c → b ≡ not (l || c)
then_empty a b true c h t e = absurd (cc)
then_empty a b false c h t e = e

pub else_empty : (a l c : Bool) → a ≡ not l → a ≡ false → a ≡ not (l || c)
else_empty a true c h t = t
else_empty a false c h t = absurd (cc)

goes_on-rows_below : (cs : List (List ℕ × List Row)) → are_full cs ≡ true → goes_deeper (placed_all (rows_in_children cs)) ≡ is_filled cs
goes_on-rows_below [] h = refl
goes_on-rows_below ((k, []) ∷ cs) h = absurd (cc)
goes_on-rows_below ((k, (r ∷ rows)) ∷ cs) h = refl

pub goes_on-rows : (leaves : List Leaf) (cs : List (List ℕ × List Row)) → are_full cs ≡ true → goes_deeper (placed_all (rows_in_node leaves cs)) ≡ is_filled cs
goes_on-rows [] cs h = goes_on-rows_below cs h
goes_on-rows (l ∷ leaves) cs h = goes_on-rows leaves cs h

pub not_not : (b : Bool) → not (not b) ≡ b
not_not true = refl
not_not false = refl

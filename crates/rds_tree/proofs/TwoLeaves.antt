-- Two leaves at the end of a path.
use Rattle.std.proofs.Common.{◌≡◌, Bool, true, ◌&&◌, ◌||◌, List, [], ◌∷◌, sym, ◌∙◌, ap}
use Rattle.std.proofs.Math.Bool.{or-false}
use Rattle.std.specs.Prelude.{Option, Some, None, if◌then◌else◌}
use Rattle.std.specs.List.{list_any}
use Rattle.std.specs.Ordering.{eq_by_cmp}
use Rattle.rds_names.specs.declared.entry.Entry.{Entry}
use Rattle.rds_names.specs.declared.entry.Kind.{Kind}
use Rattle.rds_names.specs.declared.scalar.Scalar.{Scalar}
use Rattle.rds_names.specs.Orders.{scalar_cmp}
use Rattle.rds_names.proofs.Orders.{scalars_exact}
use Rattle.rds_dots.specs.declared.dot.Dot.{Dot}
use Rattle.rds_dots.specs.Dots.{dot_cmp}
use Rattle.rds_life.specs.Killed.{is_the}
use Rattle.rds_tree.specs.declared.leaf.Leaf.{Leaf}
use Rattle.rds_tree.specs.Cuts.{among_leaves}
use Rattle.rds_tree.specs.Gathered.{values_in}
use Rattle.rds_tree.specs.Once.{once_same}
use Rattle.rds_tree.specs.Row.{AddsLeaf}
use Rattle.rds_tree.specs.View.{is_that_kind, values_once}
use Rattle.rds_tree.proofs.SameView.{any-filter_map, passes}
use Rattle.rds_tree.proofs.ScalarOrder.{scalars_total}

-- a dot among two is that of either
pub two_among : (picks : Leaf → Bool) (leaves : List Leaf) (l m : Leaf) → l ∷ m ∷ [] ≡ leaves → (d : Dot) (e : Entry) → among_leaves picks leaves d e ≡ (among_leaves picks (l ∷ []) d e || among_leaves picks (m ∷ []) d e)
two_among picks leaves l m is d e =
    ap (λ ls. among_leaves picks ls d e) (sym is) ∙ ap (λ b. b || among_leaves picks (m ∷ []) d e) (sym (or-false (picks l && eq_by_cmp dot_cmp l.dot d)))

pub two_dots : (leaves : List Leaf) (l m : Leaf) → l ∷ m ∷ [] ≡ leaves → (d : Dot) (e : Entry) → among_leaves (λ x. true) leaves d e ≡ (is_the l.dot d e || is_the m.dot d e)
two_dots leaves l m is d e = ap (λ ls. among_leaves (λ x. true) ls d e) (sym is) ∙ ap (λ b. is_the l.dot d e || b) (or-false (is_the m.dot d e))

abbrev picked : Kind → Leaf → Option Scalar
picked kind l = if is_that_kind kind l.kind then Some l.value else None

-- leaves with the same members have the same values
same_leaves : (kind : Kind) (xs ys : List Leaf) → ((t : Leaf → Bool) → list_any t xs ≡ list_any t ys) → values_once (values_in kind xs) ≡ values_once (values_in kind ys)
same_leaves kind xs ys same = once_same scalars_total scalars_exact _ _ (λ q.
    any-filter_map (eq_by_cmp scalar_cmp q) (picked kind) xs ∙ same (λ l. passes (eq_by_cmp scalar_cmp q) (picked kind l)) ∙ sym (any-filter_map (eq_by_cmp scalar_cmp q) (picked kind) ys))

-- the values of two, where one was added to the other
pub two_values : (kind : Kind) (made leaves : List Leaf) (l m : Leaf) → AddsLeaf (m ∷ []) l made → l ∷ m ∷ [] ≡ leaves → values_once (values_in kind made) ≡ values_once (values_in kind leaves)
two_values kind made leaves l m adds is = same_leaves kind made leaves (λ t. adds.any t ∙ ap (list_any t) is)

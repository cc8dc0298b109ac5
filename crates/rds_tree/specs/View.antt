-- What a document shows at a path.
use Rattle.std.specs.Prelude.{ℕ, ℤ, zero, suc, Bool, true, false, List, [], ◌∷◌, map, Option, Some, None, if◌then◌else◌}
use Rattle.std.specs.List.{list_any, filter_map}
use Rattle.std.specs.Ordering.{eq_by_cmp}
use Rattle.rds_names.specs.declared.scalar.Scalar.{Scalar}
use Rattle.rds_names.specs.declared.entry.Kind.{Kind}
use Rattle.rds_names.specs.declared.entry.Kind.TheVariants.{Reg, Elem}
use Rattle.rds_tree.specs.Once.{once}
use Rattle.rds_names.specs.Orders.{scalar_cmp}
use Rattle.rds_tree.specs.Shown.{Shown, shows, no_maps, maps_of}
use Rattle.rds_tree.specs.Document.{Document, Placed, keys_once}
use Rattle.rds_names.specs.Key.{key_cmp}

-- each value once, ascending
abbrev pub values_once : List Scalar → List Scalar
values_once vs = once scalar_cmp vs

abbrev pub first_key : List (List ℕ) → Option (List ℕ)
first_key [] = None
first_key (k ∷ ks) = Some k

-- the keys below which something stands
abbrev pub keys_below : List Placed → List (List ℕ)
keys_below es = keys_once (filter_map (λ e. first_key e.path) es)

-- whether two keys are one
abbrev pub same_key : List ℕ → List ℕ → Bool
same_key = eq_by_cmp key_cmp

-- what is left of an entry's path below a key
abbrev pub step_into : List ℕ → Kind → Scalar → List (List ℕ) → Option Placed
step_into k kind value [] = None
step_into k kind value (x ∷ xs) = if same_key x k then Some (record { path = xs; kind = kind; value = value }) else None

-- what stands at the key, or below it, seen from there
abbrev pub below : List ℕ → List Placed → List Placed
below k es = filter_map (λ e. step_into k e.kind e.value e.path) es

-- what stands at the path, or below it, seen from there
abbrev pub below_path : List (List ℕ) → List Placed → List Placed
below_path [] es = es
below_path (k ∷ ks) es = below_path ks (below k es)

-- the keys, each with what stands at it or below
abbrev pub children : List Placed → List (List ℕ × List Placed)
children es = map (λ k. (k, below k es)) (keys_below es)

abbrev pub is_that_kind : Kind → Kind → Bool
is_that_kind Reg Reg = true
is_that_kind Elem Elem = true
is_that_kind Reg Elem = false
is_that_kind Elem Reg = false

-- the value of an entry of the kind that stands right here
abbrev pub value_here : Kind → Kind → Scalar → List (List ℕ) → Option Scalar
value_here kind k value [] = if is_that_kind kind k then Some value else None
value_here kind k value (x ∷ xs) = None

-- the values of a kind that stand right here
abbrev pub values_here : Kind → List Placed → List Scalar
values_here kind es = values_once (filter_map (λ e. value_here kind e.kind e.value e.path) es)

-- the values with their key, unless there are none
abbrev pub with_key : {X : Type 0} → List ℕ → List X → Option (List ℕ × List X)
with_key k [] = None
with_key k (x ∷ xs) = Some (k, x ∷ xs)

-- the values of a kind under each key that has some
abbrev pub values_by_key : Kind → List (List ℕ × List Placed) → List (List ℕ × List Scalar)
values_by_key kind cs = filter_map (λ c. with_key c.0 (values_here kind c.1)) cs

abbrev pub is_below : List (List ℕ) → Bool
is_below [] = false
is_below (k ∷ ks) = true

-- whether something stands further below
abbrev pub goes_deeper : List Placed → Bool
goes_deeper es = list_any (λ e. is_below e.path) es

-- what entries show whose paths have at most n keys, beside these counters
abbrev pub shown_to : ℕ → Option (List (List ℕ × ℤ)) → List Placed → Shown
shown_to zero counters es = shows no_maps [] [] counters
shown_to (suc n) counters es =
    shows (maps_of (filter_map (λ c. if goes_deeper c.1 then Some (c.0, shown_to n None c.1) else None) (children es)))
    (values_by_key Reg (children es)) (values_by_key Elem (children es)) counters

-- counters stand at the root alone
abbrev pub counters_shown : List (List ℕ) → List (List ℕ × ℤ) → Option (List (List ℕ × ℤ))
counters_shown [] sums = Some sums
counters_shown (k ∷ ks) sums = None

-- what entries show at a path, which has at most 8 keys, beside these counters
unfoldable pub entries_view : Option (List (List ℕ × ℤ)) → List (List ℕ) → List Placed → Shown
entries_view counters path es = shown_to 8 counters (below_path path es)

-- what a document shows at a path
abbrev pub view_of : Document → List (List ℕ) → Shown
view_of doc path = entries_view (counters_shown path doc.sums) path doc.entries

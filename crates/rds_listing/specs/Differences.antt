-- What one document shows and another doesn't, as lines of JSON. Both are gone through in their order: each value of
-- the second comes behind what the first has before it.
use Rattle.std.specs.Prelude.{ℕ, ℤ, Bool, false, List, [], ◌∷◌, ◌++◌, codes, map, Option, Some, None, if◌then◌else◌}
use Rattle.std.specs.Cmp.Lexicographic.{slice_cmp}
use Rattle.std.specs.Fmt.{signed_decimal}
use Rattle.std.specs.List.{flat_map}
use Rattle.std.specs.Ordering.{int_eq, is_eq, is_lt, ordering_then}
use Rattle.std.specs.declared.cmp.Ordering.{Ordering}
use Rattle.serde_json.specs.Data.{string}
use Rattle.serde_json.specs.Written.{compact_text}
use Rattle.rds_names.specs.Orders.{kind_cmp, scalar_cmp}
use Rattle.rds_names.specs.declared.entry.Kind.{Kind}
use Rattle.rds_names.specs.declared.entry.Kind.TheVariants.{Elem, Reg}
use Rattle.rds_names.specs.declared.scalar.Scalar.{Scalar}
use Rattle.rds_state.specs.Value.{StateValue}
use Rattle.rds_tree.specs.Document.{Placed, document}
use Rattle.rds_names.specs.Key.{key_cmp}
use Rattle.rds_tree.specs.Shown.{Shown}
use Rattle.rds_tree.specs.Shows.{counters_in}
use Rattle.rds_tree.specs.View.{view_of}
use Rattle.rds_json.specs.Show.{scalar_data}
use Rattle.rds_json.specs.Spelling.{path_data}
use Rattle.rds_listing.specs.Pieces.{lines_text}
use Rattle.rds_listing.specs.Standings.{StandingValue, standings}

-- a value where it stands
abbrev pub leaf_at : List (List ℕ) → Kind → Scalar → Placed
leaf_at path kind value = record { path = path; kind = kind; value = value }

-- each value of registers and sets by itself
abbrev pub leaves_standing : StandingValue → List Placed
leaves_standing s = map (leaf_at s.path s.kind) s.values

abbrev pub leaves : List StandingValue → List Placed
leaves all = flat_map leaves_standing all

-- by path, then by kind, then by value
abbrev pub leaf_cmp : Placed → Placed → Ordering
leaf_cmp a b =
    ordering_then (ordering_then (slice_cmp key_cmp a.path b.path) (kind_cmp a.kind b.kind))
    (scalar_cmp a.value b.value)

-- those that come before a leaf, up to the first that doesn't
abbrev pub before : Placed → List Placed → List Placed
before leaf [] = []
before leaf (l ∷ ls) = if is_lt (leaf_cmp l leaf) then l ∷ before leaf ls else []

-- those from that one on
abbrev pub from : Placed → List Placed → List Placed
from leaf [] = []
from leaf (l ∷ ls) = if is_lt (leaf_cmp l leaf) then from leaf ls else l ∷ ls

-- whether they begin with the leaf
abbrev pub begins_with_leaf : Placed → List Placed → Bool
begins_with_leaf leaf [] = false
begins_with_leaf leaf (l ∷ ls) = is_eq (leaf_cmp l leaf)

-- those behind it, where they do
abbrev pub behind : Placed → List Placed → List Placed
behind leaf [] = []
behind leaf (l ∷ ls) = if is_eq (leaf_cmp l leaf) then ls else l ∷ ls

abbrev pub kind_word : Kind → List ℕ
kind_word Reg = codes "reg"
kind_word Elem = codes "set"

-- which document alone has the leaf, where, and what
abbrev pub only_line : List ℕ → Placed → List ℕ
only_line side leaf =
    codes "{\"only\":\"" ++ side ++ codes "\",\"path\":" ++ compact_text (path_data leaf.path) ++ codes ",\"kind\":\""
    ++ kind_word leaf.kind ++ codes "\",\"value\":" ++ compact_text (scalar_data leaf.value) ++ codes "}"

abbrev pub only_first : List Placed → List (List ℕ)
only_first ls = map (only_line (codes "first")) ls

-- a leaf of the second, where the rest of the first doesn't begin with it
abbrev pub only_second : Placed → List Placed → List (List ℕ)
only_second leaf firsts = if begins_with_leaf leaf firsts then [] else only_line (codes "second") leaf ∷ []

abbrev pub leaf_lines : List Placed → List Placed → List (List ℕ)
leaf_lines firsts [] = only_first firsts
leaf_lines firsts (leaf ∷ seconds) =
    only_first (before leaf firsts)
    ++ (only_second leaf (from leaf firsts) ++ leaf_lines (behind leaf (from leaf firsts)) seconds)

-- ---- counters

abbrev pub counter_sum_text : Option ℤ → List ℕ
counter_sum_text None = codes "null"
counter_sum_text (Some sum) = signed_decimal sum

-- what both counters of a key stand at
abbrev pub counter_line : List ℕ → Option ℤ → Option ℤ → List ℕ
counter_line key first second =
    codes "{\"path\":" ++ (compact_text (string key)
    ++ (codes ",\"kind\":\"counter\",\"first\":" ++ (counter_sum_text first
    ++ (codes ",\"second\":" ++ (counter_sum_text second ++ codes "}")))))

-- those whose keys come before a key, and those from the first on whose key doesn't
abbrev pub sums_before : List ℕ → List (List ℕ × ℤ) → List (List ℕ × ℤ)
sums_before key [] = []
sums_before key (r ∷ rs) = if is_lt (key_cmp r.0 key) then r ∷ sums_before key rs else []

abbrev pub sums_from : List ℕ → List (List ℕ × ℤ) → List (List ℕ × ℤ)
sums_from key [] = []
sums_from key (r ∷ rs) = if is_lt (key_cmp r.0 key) then sums_from key rs else r ∷ rs

-- the sum of the key, where they begin with it, and those behind it
abbrev pub sum_met : List ℕ → List (List ℕ × ℤ) → Option ℤ
sum_met key [] = None
sum_met key (r ∷ rs) = if is_eq (key_cmp r.0 key) then Some r.1 else None

abbrev pub sums_behind : List ℕ → List (List ℕ × ℤ) → List (List ℕ × ℤ)
sums_behind key [] = []
sums_behind key (r ∷ rs) = if is_eq (key_cmp r.0 key) then rs else r ∷ rs

abbrev pub first_line : List ℕ × ℤ → List ℕ
first_line row = counter_line row.0 (Some row.1) None

abbrev pub is_sum : Option ℤ → ℤ → Bool
is_sum None sum = false
is_sum (Some met) sum = int_eq met sum

-- a counter of the second, where that of the first doesn't stand at the same
abbrev pub second_lines : Option ℤ → List ℕ × ℤ → List (List ℕ)
second_lines met row = if is_sum met row.1 then [] else counter_line row.0 met (Some row.1) ∷ []

abbrev pub counter_lines : List (List ℕ × ℤ) → List (List ℕ × ℤ) → List (List ℕ)
counter_lines firsts [] = map first_line firsts
counter_lines firsts (row ∷ seconds) =
    map first_line (sums_before row.0 firsts)
    ++ (second_lines (sum_met row.0 (sums_from row.0 firsts)) row
    ++ counter_lines (sums_behind row.0 (sums_from row.0 firsts)) seconds)

-- ---- documents

-- at the root alone there are counters
abbrev pub sums_in : Option (List (List ℕ × ℤ)) → List (List ℕ × ℤ)
sums_in None = []
sums_in (Some rows) = rows

-- what two views at a path show differently: registers and sets, then counters
abbrev pub views_lines : List (List ℕ) → Shown → Shown → List (List ℕ)
views_lines path first second =
    leaf_lines (leaves (standings path first)) (leaves (standings path second))
    ++ counter_lines (sums_in (counters_in first)) (sums_in (counters_in second))

-- the lines of what the documents of two states have at a path
abbrev pub differences_text : StateValue → StateValue → List (List ℕ) → List ℕ
differences_text state other path =
    lines_text (views_lines path (view_of (document state) path) (view_of (document other) path))

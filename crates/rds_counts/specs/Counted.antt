-- Counters as a map from places to numbers above 0, and the rows that they are kept in.
use Rattle.std.specs.Prelude.{◌≡◌, ℕ, zero, suc, ◌+◌, Bool, true, ◌&&◌, ◌||◌, nat_le, nat_lt, cond, List, [], ◌∷◌, ◌++◌}
use Rattle.std.specs.Prelude.{Option, Some, None, refl}
use Rattle.std.specs.Coded.{Coded, code_by, coded×, coded_ℕ, coded_bool, coded_list}
use Rattle.std.specs.List.{list_all}
use Rattle.std.specs.Ordering.{nat_cmp, ordering_then, is_lt, is_eq}
use Rattle.std.specs.Cmp.Lexicographic.{slice_cmp}
use Rattle.std.specs.declared.cmp.Ordering.{Ordering}
use Rattle.std.specs.FinMap as map
use Rattle.rds_counts.specs.declared.row.Which.{Which}
use Rattle.rds_counts.specs.declared.row.Which.TheVariants.{P, N}
use Rattle.rds_counts.specs.declared.row.CountRow.{CountRow}
use Rattle.rds_counts.specs.declared.row.TheConstants.{MAX_COUNT}
use Rattle.rds_counts.specs.Place.{Place, place_cmp}

-- a number above 0, by the one before it
pub record Above : Type 0 where
  pub before : ℕ

-- the numbers that are above 0
abbrev pub Counted : Type 0
Counted = map.FinMap place_cmp Above

-- the number of an entry, 0 where there is none
abbrev pub number_from : Option Above → ℕ
number_from None = 0
number_from (Some a) = a.before + 1

-- the number at a place, 0 where nothing stands there
abbrev pub number : Counted → Place → ℕ
number m q = number_from (map.get m q)

-- the place of a key, a replica and which
abbrev pub place : List ℕ → ℕ → Which → Place
place key replica which = record { key = key; replica = replica; which = which }

-- an entry for a number above 0, and none for 0
abbrev pub entry_above : Place → ℕ → List (Place × Above)
entry_above q zero = []
entry_above q (suc n) = (q, record { before = n }) ∷ []

-- the numbers above 0 of rows, in order
abbrev pub components : List CountRow → List (Place × Above)
components [] = []
components (r ∷ rows) =
    entry_above (place r.key r.replica P) r.p
    ++ (entry_above (place r.key r.replica N) r.n ++ components rows)

-- the counters that rows say
abbrev pub counts_of : List CountRow → Counted
counts_of rows = map.from_entries (components rows)

-- rows are ordered by key, then replica
abbrev pub row_cmp : CountRow → CountRow → Ordering
row_cmp a b = ordering_then (slice_cmp nat_cmp a.key b.key) (nat_cmp a.replica b.replica)

-- a row's numbers aren't both 0, and all is within its range
abbrev pub is_row : CountRow → Bool
is_row r = (nat_lt 0 r.p || nat_lt 0 r.n) && nat_le r.p MAX_COUNT && nat_le r.n MAX_COUNT && nat_lt r.replica 256

-- each row comes before all that follow
abbrev pub rows_rise : List CountRow → Bool
rows_rise [] = true
rows_rise (r ∷ rows) = list_all (λ s. is_lt (row_cmp r s)) rows && rows_rise rows

-- the row comes before the next one
abbrev pub row_before_next : CountRow → List CountRow → Bool
row_before_next r [] = true
row_before_next r (s ∷ rows) = is_lt (row_cmp r s)

-- the same as below, by one look from each row to the next
abbrev pub rows_fit : List CountRow → Bool
rows_fit [] = true
rows_fit (r ∷ rows) = is_row r && row_before_next r rows && rows_fit rows

-- one of two numbers
abbrev pub number_in_pair : Which → ℕ × ℕ → ℕ
number_in_pair P pair = pair.0
number_in_pair N pair = pair.1

-- both numbers of a key and a replica
abbrev pub pair_of : List CountRow → List ℕ → ℕ → ℕ × ℕ
pair_of [] key replica = (0, 0)
pair_of (r ∷ rows) key replica = cond (is_eq (ordering_then (slice_cmp nat_cmp r.key key) (nat_cmp r.replica replica))) (r.p, r.n) (pair_of rows key replica)

-- rows of counters ascend, and each is one
pub record AreCountRows (rows : List CountRow) : Type 0 where
  pub rise : rows_rise rows ≡ true
  pub are : list_all is_row rows ≡ true

abbrev is_p : Which → Bool
is_p P = true
is_p N = Bool.false

abbrev from_p : Bool → Which
from_p true = P
from_p Bool.false = N

abbrev back_to_which : (w : Which) → from_p (is_p w) ≡ w
back_to_which P = refl
back_to_which N = refl

abbrev pub coded_which : Coded Which
coded_which = code_by Bool coded_bool is_p from_p back_to_which

abbrev pub coded_place : Coded Place
coded_place = code_by (List ℕ × (ℕ × Which)) (coded× (coded_list coded_ℕ) (coded× coded_ℕ coded_which)) (λ q. (q.key, (q.replica, q.which))) (λ p. record { key = p.0; replica = p.1.0; which = p.1.1 }) (λ _. refl)

abbrev pub coded_above : Coded Above
coded_above = code_by ℕ coded_ℕ (λ a. a.before) (λ n. record { before = n }) (λ _. refl)

abbrev pub coded_counts : Coded Counted
coded_counts = map.code coded_place coded_above

-- Paths at a key or below it, and counters' rows of a key.
use Rattle.std.proofs.Common.{◌≡◌, ℕ, suc, ◌+◌, ◌<◌, Bool, true, false, ◌&&◌, ◌||◌, List, [], ◌∷◌, ◌++◌, length, get_or}
use Rattle.std.proofs.Common.{Result, Ok, Err, refl, sym, ◌∙◌, ap, arith, inl, inr}
use Rattle.std.specs.Prelude.{Some, None}
use Rattle.std.specs.Result.{is_ok}
use Rattle.std.specs.List.{list_any, slice_get, starts_with}
use Rattle.std.specs.List.Sorted.{IsBinarySearchResult, IsNonDecreasingBy, IsSearchInRange}
use Rattle.std.specs.Ordering.{is_eq, is_lt, ordering_index, ordering_reverse, ordering_then}
use Rattle.std.specs.declared.cmp.Ordering.{Ordering}
use Rattle.std.specs.declared.cmp.Ordering.TheVariants.{Less, Equal, Greater}
use Rattle.std.specs.Cmp.Lexicographic.{nat_list_cmp_total}
use Rattle.std.specs.Str.{bytes_eq}
use Rattle.std.proofs.lemmas.Bool.{cases_lt}
use Rattle.std.proofs.lemmas.List.Folds.{list_any_at}
use Rattle.std.proofs.lemmas.List.Sorted.{searchable_from_sorted}
use Rattle.rds_counts.specs.declared.row.CountRow.{CountRow}
use Rattle.rds_counts.specs.Counted.{rows_rise}
use Rattle.rds_counts.proofs.Found.{rises_at}
use Rattle.rds_names.specs.Key.{key_cmp}
use Rattle.rds_tree.specs.View.{same_key}
use Rattle.rds_tree.proofs.Kids.{flip_eq}

-- ---- paths

same_next : (x y : List ℕ) → Some y ≡ Some x → y ≡ x
same_next x y h = cc

no_next : (x : List ℕ) → None ≡ Some x → ⊥
no_next x h = cc

no_end : (x : List ℕ) → Some x ≡ None → ⊥
no_end x h = cc

all_start : (p : List (List ℕ)) → starts_with bytes_eq p [] ≡ true
all_start [] = refl
all_start (x ∷ p) = refl

swapped : (a b c : Bool) → (a && (b && c)) ≡ (b && (a && c))
swapped true b c = refl
swapped false true c = refl
swapped false false c = refl

and_none : (a : Bool) → (a && false) ≡ false
and_none true = refl
and_none false = refl

-- a path is at a key or below it where it begins with the keys above, and goes on by the key
pub under_key : (a p : List (List ℕ)) (k x : List ℕ) → slice_get p (length a) ≡ Some x → starts_with bytes_eq p (a ++ k ∷ []) ≡ (bytes_eq k x && starts_with bytes_eq p a)
under_key [] [] k x is = absurd (no_next x is)
under_key [] (y ∷ p) k x is = ap (λ z. bytes_eq k z && starts_with bytes_eq p []) (same_next x y is) ∙ ap (λ b. bytes_eq k x && b) (all_start p)
under_key (b ∷ a) [] k x is = absurd (no_next x is)
under_key (b ∷ a) (y ∷ p) k x is = ap (λ z. bytes_eq b y && z) (under_key a p k x is) ∙ swapped (bytes_eq b y) (bytes_eq k x) (starts_with bytes_eq p a)

pub under_none : (a p : List (List ℕ)) (k : List ℕ) → slice_get p (length a) ≡ None → starts_with bytes_eq p (a ++ k ∷ []) ≡ false
under_none [] [] k is = refl
under_none [] (y ∷ p) k is = absurd (no_end y is)
under_none (b ∷ a) [] k is = refl
under_none (b ∷ a) (y ∷ p) k is = ap (λ z. bytes_eq b y && z) (under_none a p k is) ∙ and_none (bytes_eq b y)

-- ---- rows of counters

none_any : {X : Type 0} (t : X → Bool) (xs : List X) (d : X) → ((k : ℕ) → k < length xs → t (get_or xs k d) ≡ false) → list_any t xs ≡ false
none_any t [] d none = refl
none_any t (x ∷ xs) d none = ap (λ b. b || list_any t xs) (none 0 (omega arith)) ∙ none_any t xs d (λ k lt. none (suc k) (omega arith))

not_before : (o p : Ordering) → ordering_then o p ≡ Less → is_lt (ordering_reverse o) ≡ false
not_before Less p h = refl
not_before Equal p h = refl
not_before Greater p h = absurd (cc)

some_row : CountRow
some_row = record { key = []; replica = 0; p = 0; n = 0 }

keys_rise : (key : List ℕ) (rows : List CountRow) → rows_rise rows ≡ true → IsNonDecreasingBy (λ (r : CountRow). ordering_index (key_cmp r.key key)) rows
keys_rise key rows rise =
    searchable_from_sorted nat_list_cmp_total (λ (r : CountRow). r.key) rows key (λ k d from within.
    let a = get_or rows k d in
    let b = get_or rows (k + 1) d in
    ap is_lt (nat_list_cmp_total.antisymm b.key a.key) ∙ not_before (key_cmp a.key b.key) _ (rises_at rows rise d k (k + 1) (omega arith) within))

-- what a search answers is whether a row has the key
pub searched : (key : List ℕ) (rows : List CountRow) → rows_rise rows ≡ true → (r : Result ℕ ℕ) → IsSearchInRange r (length rows) → IsBinarySearchResult (λ (r : CountRow). key_cmp r.key key) rows r → is_ok r ≡ list_any (λ (r : CountRow). same_key key r.key) rows
searched key rows rise (Ok at) within equal =
    sym (list_any_at (λ (r : CountRow). same_key key r.key) rows at some_row within (flip_eq key (get_or rows at some_row).key ∙ ap is_eq (equal some_row)))
searched key rows rise (Err at) within parted =
    let part = parted (keys_rise key rows rise) in
    sym (none_any (λ (r : CountRow). same_key key r.key) rows some_row (λ k lt. flip_eq key (get_or rows k some_row).key ∙ elim (cases_lt k at) [
      | inl before ↦ ap is_eq (part.0 k some_row (omega arith) before)
      | inr from ↦ ap is_eq (part.1 k some_row from lt)
    ]))

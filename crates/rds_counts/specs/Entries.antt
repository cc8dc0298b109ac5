-- The entries of counters, in order.
use Rattle.std.proofs.Common.{◌≡◌, ℕ, zero, suc, true, List, [], ◌∷◌, ◌++◌, refl, sym, ◌∙◌, ap, subst}
use lib.Dec.{T}
use Rattle.std.specs.List.{list_all}
use Rattle.std.specs.Cmp.{nat_cmp_total, tied_itself}
use Rattle.std.specs.Cmp.Lexicographic.{slice_cmp, nat_list_cmp_total}
use Rattle.std.specs.Ordering.{nat_cmp, is_lt}
use Rattle.std.specs.declared.cmp.Ordering.TheVariants.{Less}
use Rattle.std.specs.FinMap as map
use Rattle.std.specs.FinMap.Entries.{is_sorted, below_all, same_entries}
use Rattle.rds_counts.specs.declared.row.Which.{Which}
use Rattle.rds_counts.specs.declared.row.Which.TheVariants.{P, N}
use Rattle.rds_counts.specs.declared.row.CountRow.{CountRow}
use Rattle.rds_counts.specs.Place.{Place, place_cmp}
use Rattle.rds_counts.specs.PlaceOrder.{place_total, place_exact}
use Rattle.rds_counts.specs.Counted.{Above, place, entry_above, components, counts_of, row_cmp, rows_rise}
use Rattle.rds_counts.specs.CountedLemmas.{then_less}
use Rattle.rds_names.specs.Conditions.{and_true, and_left, and_right, less_of}

below_above : (q x : Place) (n : ℕ) (es : List (Place × Above)) → is_lt (place_cmp q x) ≡ true → below_all place_cmp q es ≡ true → below_all place_cmp q (entry_above x n ++ es) ≡ true
below_above q x zero es lt all = all
below_above q x (suc n) es lt all = and_true _ _ lt all

below_rows : (r : CountRow) (w : Which) (rows : List CountRow) → list_all (λ t. is_lt (row_cmp r t)) rows ≡ true → below_all place_cmp (place r.key r.replica w) (components rows) ≡ true
below_rows r w [] all = refl
below_rows r w (s ∷ rows) all =
    let is : row_cmp r s ≡ Less = less_of _ (and_left (is_lt (row_cmp r s)) _ all) in
    let lt : (v : Which) → is_lt (place_cmp (place r.key r.replica w) (place s.key s.replica v)) ≡ true = λ v. ap is_lt (then_less (slice_cmp nat_cmp r.key s.key) (nat_cmp r.replica s.replica) _ is) in
    below_above (place r.key r.replica w) (place s.key s.replica P) s.p _ (lt P) (below_above (place r.key r.replica w) (place s.key s.replica N) s.n _ (lt N) (below_rows r w rows (and_right (is_lt (row_cmp r s)) _ all)))

sorted_above : (x : Place) (n : ℕ) (es : List (Place × Above)) → below_all place_cmp x es ≡ true → is_sorted place_cmp es ≡ true → is_sorted place_cmp (entry_above x n ++ es) ≡ true
sorted_above x zero es all rise = rise
sorted_above x (suc n) es all rise = and_true _ _ all rise

p_first : (k : List ℕ) (n : ℕ) → is_lt (place_cmp (place k n P) (place k n N)) ≡ true
p_first k n = rw (tied_itself nat_list_cmp_total k, tied_itself nat_cmp_total n) refl

pub sorted-components : (rows : List CountRow) → rows_rise rows ≡ true → is_sorted place_cmp (components rows) ≡ true
sorted-components [] rise = refl
sorted-components (r ∷ rows) rise =
    let all = and_left (list_all (λ t. is_lt (row_cmp r t)) rows) _ rise in
    let later = sorted-components rows (and_right (list_all (λ t. is_lt (row_cmp r t)) rows) _ rise) in
    sorted_above (place r.key r.replica P) r.p _
    (below_above (place r.key r.replica P) (place r.key r.replica N) r.n _ (p_first r.key r.replica) (below_rows r P rows all))
    (sorted_above (place r.key r.replica N) r.n _ (below_rows r N rows all) later)

-- the entries of counters are the numbers of their rows, in order
pub entries-counts_of : (rows : List CountRow) → rows_rise rows ≡ true → map.entries (counts_of rows) ≡ components rows
entries-counts_of rows rise =
    same_entries place_cmp place_total place_exact (map.entries (counts_of rows)) (components rows) (map.entries_sorted (counts_of rows)) (subst T (sym (sorted-components rows rise)) tt)
    (λ q. sym (map.get-entries (counts_of rows) q) ∙ map.get-from_entries place_total (components rows) q)

-- The keys of counters, row by row.
use Rattle.std.proofs.Common.{◌≡◌, ℕ, zero, suc, Bool, true, false, ◌&&◌, ◌||◌, List, [], ◌∷◌, ◌++◌, map as each, refl}
use Rattle.std.proofs.Common.{sym, ◌∙◌, ap, length, arith, append-nil}
use Rattle.std.specs.Prelude.{ℤ, Option, None, nat_lt, nat_le}
use Rattle.std.specs.List.{list_any, list_all}
use Rattle.std.specs.Ordering.{is_lt, is_gt, ordering_then}
use Rattle.std.specs.Cmp.Lexicographic.{nat_list_cmp_total}
use Rattle.std.specs.declared.cmp.Ordering.{Ordering}
use Rattle.std.specs.declared.cmp.Ordering.TheVariants.{Less, Equal, Greater}
use Rattle.std.specs.FinMap as map
use Rattle.std.specs.FinMap.{nat_cmp-IsAntisymmetric, slice_cmp-IsAntisymmetric}
use Rattle.rds_counts.specs.declared.row.CountRow.{CountRow}
use Rattle.rds_counts.specs.declared.row.TheConstants.{MAX_COUNT}
use Rattle.rds_counts.specs.Place.{Place}
use Rattle.rds_counts.specs.Counted.{Above, Counted, counts_of, components, entry_above, row_cmp, is_row, rows_rise}
use Rattle.rds_counts.specs.Counted.{AreCountRows}
use Rattle.rds_counts.specs.Value.{value_of}
use Rattle.rds_names.specs.Conditions.{and_left, and_right}
use Rattle.rds_counts.specs.Entries.{entries-counts_of}
use Rattle.rds_tree.specs.Distinct.{distinct}
use Rattle.rds_tree.specs.Document.{counted_keys, sums_of}
use Rattle.rds_names.specs.Key.{key_cmp}
use Rattle.rds_tree.proofs.Distinct.{NoLess, Climbs, once_distinct}
use Rattle.rds_tree.proofs.Members.{any-once}
use Rattle.rds_tree.proofs.SameDocument.{any-map}

abbrev keys_of : List CountRow → List (List ℕ)
keys_of rows = each (λ r. r.key) rows

not_greater : (o p : Ordering) → is_lt (ordering_then o p) ≡ true → is_gt o ≡ false
not_greater Less p h = refl
not_greater Equal p h = refl
not_greater Greater p h = absurd (cc)

no_less : (r : CountRow) (rows : List CountRow) → list_all (λ s. is_lt (row_cmp r s)) rows ≡ true → NoLess key_cmp r.key (keys_of rows)
no_less r [] all = tt
no_less r (s ∷ rows) all = (not_greater (key_cmp r.key s.key) _ (and_left (is_lt (row_cmp r s)) _ all), no_less r rows (and_right (is_lt (row_cmp r s)) _ all))

keys_climb : (rows : List CountRow) → rows_rise rows ≡ true → Climbs key_cmp (keys_of rows)
keys_climb [] rise = tt
keys_climb (r ∷ rows) rise = (no_less r rows (and_left (list_all (λ s. is_lt (row_cmp r s)) rows) _ rise), keys_climb rows (and_right (list_all (λ s. is_lt (row_cmp r s)) rows) _ rise))

or_again : (a b : Bool) → (a || (a || b)) ≡ (a || b)
or_again true b = refl
or_again false b = refl

abbrev place_keys : List (Place × Above) → List (List ℕ)
place_keys es = each (λ e. e.0.key) es

any-above : (t : List ℕ → Bool) (p q : Place) (m n : ℕ) (es : List (Place × Above)) → q.key ≡ p.key → (nat_lt 0 m || nat_lt 0 n) ≡ true → list_any t (place_keys (entry_above p m ++ (entry_above q n ++ es))) ≡ (t p.key || list_any t (place_keys es))
any-above t p q zero zero es is h = absurd (cc)
any-above t p q (suc m) zero es is h = refl
any-above t p q zero (suc n) es is h = ap (λ k. t k || list_any t (place_keys es)) is
any-above t p q (suc m) (suc n) es is h = ap (λ k. t p.key || (t k || list_any t (place_keys es))) is ∙ or_again (t p.key) _

first_of : (a b c d : Bool) → (a && b && c && d) ≡ true → a ≡ true
first_of true b c d h = refl
first_of false b c d h = absurd (cc)

any_key : (t : List ℕ → Bool) (rows : List CountRow) → list_all is_row rows ≡ true → list_any t (place_keys (components rows)) ≡ list_any t (keys_of rows)
any_key t [] are = refl
any_key t (r ∷ rows) are =
    any-above t _ _ r.p r.n (components rows) refl (first_of (nat_lt 0 r.p || nat_lt 0 r.n) (nat_le r.p MAX_COUNT) (nat_le r.n MAX_COUNT) (nat_lt r.replica 256) (and_left (is_row r) _ are)) ∙ ap (λ b. t r.key || b) (any_key t rows (and_right (is_row r) _ are))

-- the keys of counters are those of their rows, each once
counted_keys-rows : (counts : Counted) (rows : List CountRow) → AreCountRows rows → counts ≡ counts_of rows → counted_keys counts ≡ distinct key_cmp None (keys_of rows)
counted_keys-rows counts rows are is =
    once_distinct key_cmp nat_list_cmp_total (slice_cmp-IsAntisymmetric nat_cmp-IsAntisymmetric) (keys_of rows) _ (keys_climb rows are.rise) (λ t.
    ap (λ m. list_any t (place_keys (map.entries m))) is ∙ ap (λ es. list_any t (place_keys es)) (entries-counts_of rows are.rise) ∙ any_key t rows are.are)

no_rows : (rows : List CountRow) → length rows ≡ 0 → rows ≡ []
no_rows [] h = refl
no_rows (r ∷ rows) h = absurd (omega arith)

abbrev sums_from : Counted → Option (List ℕ) → List CountRow → List (List ℕ × ℤ)
sums_from counts last rows = each (λ k. (k, value_of counts k)) (distinct key_cmp last (keys_of rows))

-- at the end all sums are there
pub sums_whole : (counts : Counted) (rows rest : List CountRow) (sums : List (List ℕ × ℤ)) (last : Option (List ℕ)) → AreCountRows rows → counts ≡ counts_of rows → length rest ≡ 0
    → sums ++ sums_from counts last rest ≡ sums_from counts None rows → sums ≡ sums_of counts
sums_whole counts rows rest sums last are is none told =
    sym (append-nil sums) ∙ ap (λ rs. sums ++ sums_from counts last rs) (sym (no_rows rest none)) ∙ told ∙ ap (each (λ k. (k, value_of counts k))) (sym (counted_keys-rows counts rows are is))

-- a key is counted where a row has it
pub any_counted : (t : List ℕ → Bool) (counts : Counted) (rows : List CountRow) → AreCountRows rows → counts ≡ counts_of rows → list_any (λ (r : CountRow). t r.key) rows ≡ list_any t (counted_keys counts)
any_counted t counts rows are is =
    sym (any-map t (λ (r : CountRow). r.key) rows) ∙ sym (any_key t rows are.are) ∙ ap (λ es. list_any t (place_keys es)) (sym (entries-counts_of rows are.rise))
    ∙ ap (λ m. list_any t (place_keys (map.entries m))) (sym is)
    ∙ sym (any-once nat_list_cmp_total (slice_cmp-IsAntisymmetric nat_cmp-IsAntisymmetric) t (place_keys (map.entries counts)))

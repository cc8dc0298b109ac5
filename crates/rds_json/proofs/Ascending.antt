-- Where keys ascend, each member comes behind those that are there.
use Rattle.std.proofs.Common.{◌≡◌, ◌∙◌, ap, refl, arith, ℕ, ◌+◌, ◌<◌, ℤ, List, [], ◌∷◌, length, map, true, nat_cmp, Ordering, Less, Equal, Greater}
use Rattle.std.proofs.lemmas.Cmp.{nat_list_cmp_total}
use Rattle.std.proofs.lemmas.List.{length-map, get_or-map}
use Rattle.std.proofs.lemmas.Map.Keys.{sorted_from_all_adjacent}
use Rattle.std.specs.Cmp.Lexicographic.{slice_cmp}
use Rattle.std.specs.List.{AllByRecursion, IsAllAdjacentAnswer}
use Rattle.std.specs.List.Sorted.{IsStrictlySortedBy}
use Rattle.std.specs.Ordering.{is_lt, ordering_reverse}
use Rattle.serde_json.specs.Data.{Data, number, Members, no_members, member, put}
use Rattle.serde_json.specs.Find.{of_integer}
use Rattle.rds_names.specs.declared.scalar.Scalar.{Scalar}
use Rattle.rds_tree.specs.Shown.{Shown, maps_of, views_shown}
use Rattle.rds_tree.specs.declared.views.View.{View}
use Rattle.rds_json.specs.Show.{scalars_data, with_values, with_sums, with_maps, data_of}
use Rattle.rds_json.specs.Written.{KeysAscend}

less : (o : Ordering) → true ≡ is_lt o → o ≡ Less
less Less is = refl
less Equal is = cc
less Greater is = cc

-- where each key is below the next
pub ascend_by_pairs : {V : Type 0} (rows : List (List ℕ × V)) → IsAllAdjacentAnswer (λ x y b. b ≡ is_lt (slice_cmp nat_cmp x.0 y.0)) rows true → KeysAscend rows
unfolding IsStrictlySortedBy
ascend_by_pairs [] pairs = tt
ascend_by_pairs (r ∷ rows) pairs = sorted_from_all_adjacent nat_list_cmp_total (map (λ s. s.0) (r ∷ rows)) [] (λ k within.
    let fits : k + 1 < length (r ∷ rows) = omega (arith, length-map (r ∷ rows) (λ s. s.0)) in
    rw (get_or-map (λ s. s.0) (r ∷ rows) k r [] (omega arith), get_or-map (λ s. s.0) (r ∷ rows) (k + 1) r [] fits) (less _ (pairs k r fits)))

-- the members of rows, in their order
abbrev pub in_order : {V : Type 0} → (V → Data) → List (List ℕ × V) → Members
in_order shown [] = no_members
in_order shown (r ∷ rows) = member r.0 (shown r.1) (in_order shown rows)

-- the members, with those of the rows
abbrev put_all : {V : Type 0} → (V → Data) → Members → List (List ℕ × V) → Members
put_all shown ms [] = ms
put_all shown ms (r ∷ rows) = put_all shown (put r.0 (shown r.1) ms) rows

-- a member whose key is below all others stays the first
first_stays : {V : Type 0} (shown : V → Data) (k : List ℕ) (d : Data) (ms : Members) (rows : List (List ℕ × V)) → AllByRecursion (λ l. slice_cmp nat_cmp k l ≡ Less) (map (λ r. r.0) rows)
    → put_all shown (member k d ms) rows ≡ member k d (put_all shown ms rows)
first_stays shown k d ms [] below = refl
first_stays shown k d ms (r ∷ rows) below =
    let above : slice_cmp nat_cmp r.0 k ≡ Greater = nat_list_cmp_total.antisymm r.0 k ∙ ap ordering_reverse below.0 in
    rw above (first_stays shown k d (put r.0 (shown r.1) ms) rows below.1)

put_in_order : {V : Type 0} (shown : V → Data) (rows : List (List ℕ × V)) → KeysAscend rows → put_all shown no_members rows ≡ in_order shown rows
unfolding IsStrictlySortedBy
put_in_order shown [] ascend = refl
put_in_order shown (r ∷ rows) ascend = first_stays shown r.0 (shown r.1) no_members rows ascend.0 ∙ ap (member r.0 (shown r.1)) (put_in_order shown rows ascend.1)

values_put : (ms : Members) (rows : List (List ℕ × List Scalar)) → with_values ms rows ≡ put_all scalars_data ms rows
values_put ms [] = refl
values_put ms (r ∷ rows) = values_put (put r.0 (scalars_data r.1) ms) rows

sums_put : (ms : Members) (rows : List (List ℕ × ℤ)) → with_sums ms rows ≡ put_all (λ z. number (of_integer z)) ms rows
sums_put ms [] = refl
sums_put ms (r ∷ rows) = sums_put (put r.0 (number (of_integer r.1)) ms) rows

maps_put : (ms : Members) (rows : List (List ℕ × Shown)) → with_maps ms (maps_of rows) ≡ put_all data_of ms rows
maps_put ms [] = refl
maps_put ms (r ∷ rows) = maps_put (put r.0 (data_of r.1) ms) rows

same_keys : (rows : List (List ℕ × View)) → map (λ r. r.0) (views_shown rows) ≡ map (λ r. r.0) rows
same_keys [] = refl
same_keys (r ∷ rows) = ap (λ ks. r.0 ∷ ks) (same_keys rows)

pub values_in_order : (rows : List (List ℕ × List Scalar)) → KeysAscend rows → with_values no_members rows ≡ in_order scalars_data rows
values_in_order rows ascend = values_put no_members rows ∙ put_in_order scalars_data rows ascend

pub sums_in_order : (rows : List (List ℕ × ℤ)) → KeysAscend rows → with_sums no_members rows ≡ in_order (λ z. number (of_integer z)) rows
sums_in_order rows ascend = sums_put no_members rows ∙ put_in_order (λ z. number (of_integer z)) rows ascend

pub maps_in_order : (rows : List (List ℕ × View)) → KeysAscend rows → with_maps no_members (maps_of (views_shown rows)) ≡ in_order data_of (views_shown rows)
maps_in_order rows ascend = maps_put no_members (views_shown rows) ∙ put_in_order data_of (views_shown rows) (rw (same_keys rows) ascend)

-- Where keys are found: what adding one keeps.
use Rattle.std.proofs.Common.{◌≡◌, ℕ, zero, suc, ◌+◌, ◌<◌, ◌≤◌, Bool, true, false, not, cond, eqb, ◌||◌, List, [], ◌∷◌, ◌++◌, length, take, length-take, replicate, Option, Some, None, refl, sym, ap, subst, ◌∙◌, arith}
use Rattle.std.proofs.Math.ListN.{set, get_or}
use Rattle.std.specs.Prelude.{slice_get, bit_and}
use Rattle.std.specs.List.{AllByRecursion}
use Rattle.std.specs.Option.{option_or}
use Rattle.std.specs.Str.{bytes_eq}
use Rattle.std.specs.BTreeMap.{get_by, is_at, Updates}
use Rattle.std.specs.Ordering.{is_eq}
use Rattle.std.specs.Map.{lookup}
use Rattle.std.proofs.lemmas.Bool.{false≢true, eqb-true, eqb-false}
use Rattle.std.proofs.lemmas.List.{get_or-set_same, get_or-set_other}
use Rattle.rds_names.specs.Conditions.{and_true}
use Rattle.rds_names.specs.Roster.{all_differ}
use Rattle.rds_bytes.specs.declared.places.KeyPlaces.{KeyPlaces}
use Rattle.rds_bytes.specs.declared.places.Place.{Place}
use Rattle.rds_bytes.specs.Marks.{mark}
use Rattle.rds_bytes.specs.Numbers.{place_in, marked_cmp}
use Rattle.rds_bytes.specs.Places.{is_known_key, stands_at, tag, placed, number_at, told_at, seek, has_room, but_last, pushed, bucket_of, elsewhere, AreFound}
use Rattle.rds_bytes.specs.Table.{has_key, add_key, table_number}
use Rattle.rds_bytes.proofs.KeyLoops.{pair_cmp, ties}
use Rattle.rds_bytes.proofs.TableLaws.{no_some, same_key, is_same, has_at, has_push, differ_push, number_at_place, number_push, number_last, number_none, below_length, get_last, take_push, not_taken}

place_where : (b : Bool) (keys : List (List ℕ)) (q : List ℕ) → has_key keys q ≡ b → place_in keys q ≡ cond b (Some (table_number keys q)) None
place_where b keys q e = ap (λ t. cond t (Some (table_number keys q)) None) e

-- ---- a bucket

abbrev AreBelow : ℕ → List Place → Type 0
AreBelow bound bucket = AllByRecursion (λ place. place.number ≤ bound) bucket

stands_has : (keys : List (List ℕ)) (n : ℕ) (q : List ℕ) → stands_at keys n q ≡ true → has_key keys q ≡ true
stands_has keys n q is = by (slice_get keys n) refl is
  where
    by : (o : Option (List ℕ)) → slice_get keys n ≡ o → is_known_key o q ≡ true → has_key keys q ≡ true
    by None at none = absurd (false≢true none)
    by (Some k) at same = subst (λ (y : List ℕ). has_key keys y ≡ true) (sym (same_key q k same)) (has_at keys n k at)

-- a key that is lacking stands nowhere
stands_not : (keys : List (List ℕ)) (n : ℕ) (q : List ℕ) → has_key keys q ≡ false → stands_at keys n q ≡ false
stands_not keys n q lacks = by (stands_at keys n q) refl
  where
    by : (b : Bool) → stands_at keys n q ≡ b → b ≡ false
    by false is = refl
    by true is = absurd (false≢true (sym lacks ∙ stands_has keys n q is))

is_itself : (n : ℕ) → eqb n n ≡ true
is_itself n = by (eqb n n) refl
  where
    by : (b : Bool) → eqb n n ≡ b → b ≡ true
    by true e = refl
    by false e = absurd (eqb-false n n e refl)

none_told : (b : Bool) (o : Option ℕ) → o ≡ None → cond b o None ≡ None
none_told true o is = is
none_told false o is = refl

number_not : (keys : List (List ℕ)) (n : ℕ) (q : List ℕ) → has_key keys q ≡ false → number_at keys n q ≡ None
number_not keys zero q lacks = refl
number_not keys (suc n) q lacks = ap (λ b. cond b (Some n) None) (stands_not keys n q lacks)

seek_not : (keys : List (List ℕ)) (bucket : List Place) (t : ℕ) (q : List ℕ) → has_key keys q ≡ false → seek keys bucket t q ≡ None
seek_not keys [] t q lacks = refl
seek_not keys (place ∷ bucket) t q lacks =
    (λ i. option_or (none_told (eqb place.tag t) (number_at keys place.number q) (number_not keys place.number q lacks) i) (seek_not keys bucket t q lacks i))

get_before : (xs : List (List ℕ)) (y : List ℕ) (n : ℕ) → n < length xs → slice_get (xs ++ y ∷ []) n ≡ slice_get xs n
get_before [] y n lt = absurd (omega arith)
get_before (x ∷ xs) y zero lt = refl
get_before (x ∷ xs) y (suc n) lt = get_before xs y n (omega arith)

-- numbers of keys are those of more keys
number_stays : (keys : List (List ℕ)) (key : List ℕ) (n : ℕ) (q : List ℕ) → n ≤ length keys → number_at (keys ++ key ∷ []) n q ≡ number_at keys n q
number_stays keys key zero q le = refl
number_stays keys key (suc n) q le =
    let within : n < length keys = omega arith in
    ap (λ o. cond (is_known_key o q) (Some n) None) (get_before keys key n within)

seek_push : (keys : List (List ℕ)) (key : List ℕ) (bucket : List Place) (t : ℕ) (q : List ℕ) → AreBelow (length keys) bucket → seek (keys ++ key ∷ []) bucket t q ≡ seek keys bucket t q
seek_push keys key [] t q below = refl
seek_push keys key (place ∷ bucket) t q below =
    (λ i. option_or (cond (eqb place.tag t) (number_stays keys key place.number q below.0 i) None) (seek_push keys key bucket t q below.1 i))

-- the last of a bucket tells nothing where it is room
seek_room : (keys : List (List ℕ)) (bucket : List Place) (t : ℕ) (q : List ℕ) → has_room bucket ≡ true → seek keys (but_last bucket) t q ≡ seek keys bucket t q
seek_room keys [] t q room = absurd (false≢true room)
seek_room keys (place ∷ []) t q room =
    let none : number_at keys place.number q ≡ None = ap (λ (n : ℕ). number_at keys n q) (eqb-true place.number 0 room) in
    sym (ap (λ (o : Option ℕ). option_or o None) (none_told (eqb place.tag t) (number_at keys place.number q) none))
seek_room keys (place ∷ (p ∷ bucket)) t q room = ap (λ (o : Option ℕ). option_or (told_at keys place t q) o) (seek_room keys (p ∷ bucket) t q room)

less_below : (bound : ℕ) (bucket : List Place) → AreBelow bound bucket → AreBelow bound (but_last bucket)
less_below bound [] below = tt
less_below bound (place ∷ []) below = tt
less_below bound (place ∷ (p ∷ bucket)) below = (below.0, less_below bound (p ∷ bucket) below.1)

more_below : (bound : ℕ) (bucket : List Place) → AreBelow bound bucket → AreBelow (suc bound) bucket
more_below bound [] below = tt
more_below bound (place ∷ bucket) below = ((let le : place.number ≤ bound = below.0 in omega arith), more_below bound bucket below.1)

length_push : (xs : List (List ℕ)) (y : List ℕ) → length (xs ++ y ∷ []) ≡ suc (length xs)
length_push [] y = refl
length_push (x ∷ xs) y = ap suc (length_push xs y)

first_or : (b : Bool) (n : ℕ) (o : Option ℕ) → option_or (cond b (Some n) None) o ≡ cond b (Some n) o
first_or true n o = refl
first_or false n o = refl

or_both : (a b c : Option ℕ) → option_or (option_or a b) c ≡ option_or a (option_or b c)
or_both None b c = refl
or_both (Some n) b c = refl

apart_from : (key q : List ℕ) → (q ≡ key → ⊥) → bytes_eq q key ≡ false
apart_from key q differ = by (bytes_eq q key) refl
  where
    by : (b : Bool) → bytes_eq q key ≡ b → b ≡ false
    by false e = refl
    by true e = absurd (differ (same_key q key e))

-- ---- one more key

module _ (keys : List (List ℕ)) (key : List ℕ) (new : has_key keys key ≡ false) where
  place_new : place_in (keys ++ key ∷ []) key ≡ Some (length keys)
  place_new =
      let had : has_key (keys ++ key ∷ []) key ≡ true = has_push keys key key ∙ (λ i. new i || is_same key i) in
      place_where true (keys ++ key ∷ []) key had ∙ ap (λ (n : ℕ). Some n) (number_last keys key new ∙ number_none keys key new)

  -- the number of a key where one is new
  place_push : (q : List ℕ) → place_in (keys ++ key ∷ []) q ≡ cond (bytes_eq q key) (Some (length keys)) (place_in keys q)
  place_push q = by (bytes_eq q key) refl (has_key keys q) refl
    where
      by : (b : Bool) → bytes_eq q key ≡ b → (h : Bool) → has_key keys q ≡ h → place_in (keys ++ key ∷ []) q ≡ cond b (Some (length keys)) (place_in keys q)
      by true e h had = subst (λ (k : List ℕ). place_in (keys ++ key ∷ []) k ≡ Some (length keys)) (sym (same_key q key e)) place_new
      by false e true had =
          place_where true (keys ++ key ∷ []) q (has_push keys key q ∙ (λ i. had i || e i)) ∙ ap (λ (n : ℕ). Some n) (number_push keys key q had) ∙ sym (place_where true keys q had)
      by false e false had = place_where false (keys ++ key ∷ []) q (has_push keys key q ∙ (λ i. had i || e i)) ∙ sym (place_where false keys q had)

  longer : length (keys ++ key ∷ []) ≡ suc (length keys)
  longer = length_push keys key

  stands_last : (q : List ℕ) → stands_at (keys ++ key ∷ []) (length keys) q ≡ bytes_eq q key
  stands_last q = ap (λ o. is_known_key o q) (get_last keys key)

  -- its place tells its number, and nothing of other keys
  told_new : (q : List ℕ) → told_at (keys ++ key ∷ []) (placed (mark key) (length keys)) (tag (mark q)) q ≡ cond (bytes_eq q key) (Some (length keys)) None
  told_new q = by (bytes_eq q key) refl
    where
      by : (b : Bool) → bytes_eq q key ≡ b → told_at (keys ++ key ∷ []) (placed (mark key) (length keys)) (tag (mark q)) q ≡ cond b (Some (length keys)) None
      by true e =
          let tags : eqb (tag (mark key)) (tag (mark q)) ≡ true = ap (λ (k : List ℕ). eqb (tag (mark key)) (tag (mark k))) (same_key q key e) ∙ is_itself (tag (mark key)) in
          (λ i. cond (tags i) (cond ((stands_last q ∙ e) i) (Some (length keys)) None) None)
      by false e =
          none_told (eqb (tag (mark key)) (tag (mark q))) (number_at (keys ++ key ∷ []) (suc (length keys)) q) (ap (λ b. cond b (Some (length keys)) None) (stands_last q ∙ e))

  differ_more : all_differ keys ≡ true → all_differ (keys ++ key ∷ []) ≡ true
  differ_more differ = differ_push keys key ∙ and_true _ _ differ (ap not new)

  below_more : (bucket : List Place) → AreBelow (length keys) bucket → AreBelow (length (keys ++ key ∷ [])) bucket
  below_more bucket below = subst (λ (n : ℕ). AreBelow n bucket) (sym longer) (more_below (length keys) bucket below)

  -- the new number goes into the bucket of its mark
  module _ (places next : KeyPlaces) (are : AreFound places keys) (mask : next.mask ≡ places.mask) (others : next.others ≡ places.others)
      (room : has_room (bucket_of places (mark key)) ≡ true) (at : bit_and (mark key) places.mask < length places.buckets.items)
      (buckets : next.buckets.items ≡ set places.buckets.items (bit_and (mark key) places.mask) (pushed (placed (mark key) (length keys)) (bucket_of places (mark key)))) where
    bucket_next : (m : ℕ) → bucket_of next m ≡ get_or (set places.buckets.items (bit_and (mark key) places.mask) (pushed (placed (mark key) (length keys)) (bucket_of places (mark key)))) (bit_and m places.mask) []
    bucket_next m i = get_or (buckets i) (bit_and m (mask i)) []

    bucket_same : (m : ℕ) → bit_and m places.mask ≡ bit_and (mark key) places.mask → bucket_of next m ≡ pushed (placed (mark key) (length keys)) (bucket_of places (mark key))
    bucket_same m same =
        bucket_next m ∙ ap (λ (j : ℕ). get_or (set places.buckets.items (bit_and (mark key) places.mask) (pushed (placed (mark key) (length keys)) (bucket_of places (mark key)))) j []) same
        ∙ get_or-set_same places.buckets.items (bit_and (mark key) places.mask) (pushed (placed (mark key) (length keys)) (bucket_of places (mark key))) [] at

    bucket_other : (m : ℕ) → (bit_and m places.mask ≡ bit_and (mark key) places.mask → ⊥) → bucket_of next m ≡ bucket_of places m
    bucket_other m other =
        bucket_next m ∙ get_or-set_other places.buckets.items (bit_and (mark key) places.mask) (bit_and m places.mask) (pushed (placed (mark key) (length keys)) (bucket_of places (mark key))) [] other

    elsewhere_same : (q : List ℕ) → elsewhere next q ≡ elsewhere places q
    elsewhere_same q = ap (λ o. get_by (λ k. marked_cmp q k.0 k.1) o) others

    pub put_in_bucket : AreFound next (keys ++ key ∷ [])
    put_in_bucket = record {
      found = λ q. found_by q (eqb (bit_and (mark q) places.mask) (bit_and (mark key) places.mask)) refl;
      here = λ q has. here_by q (eqb (bit_and (mark q) places.mask) (bit_and (mark key) places.mask)) refl has;
      below = λ m. below_by m (eqb (bit_and m places.mask) (bit_and (mark key) places.mask)) refl;
      differ = differ_more are.differ;
    }
      where
        found_by : (q : List ℕ) (b : Bool) → eqb (bit_and (mark q) places.mask) (bit_and (mark key) places.mask) ≡ b
            → option_or (seek (keys ++ key ∷ []) (bucket_of next (mark q)) (tag (mark q)) q) (elsewhere next q) ≡ place_in (keys ++ key ∷ []) q
        found_by q true e =
            let same = eqb-true (bit_and (mark q) places.mask) (bit_and (mark key) places.mask) e in
            let bucket = bucket_of places (mark key) in
            let t = tag (mark q) in
            let rest : seek (keys ++ key ∷ []) (but_last bucket) t q ≡ seek keys bucket t q =
            seek_push keys key (but_last bucket) t q (less_below (length keys) bucket (are.below (mark key))) ∙ seek_room keys bucket t q room in
            let was : option_or (seek keys bucket t q) (elsewhere places q) ≡ place_in keys q =
            ap (λ (j : ℕ). option_or (seek keys (get_or places.buckets.items j []) t q) (elsewhere places q)) (sym same) ∙ are.found q in
            (λ i. option_or (seek (keys ++ key ∷ []) (bucket_same (mark q) same i) t q) (elsewhere_same q i))
            ∙ (λ i. option_or (option_or (told_new q i) (rest i)) (elsewhere places q))
            ∙ or_both (cond (bytes_eq q key) (Some (length keys)) None) (seek keys bucket t q) (elsewhere places q)
            ∙ first_or (bytes_eq q key) (length keys) (option_or (seek keys bucket t q) (elsewhere places q))
            ∙ ap (λ o. cond (bytes_eq q key) (Some (length keys)) o) was ∙ sym (place_push q)
        found_by q false e =
            let other = eqb-false (bit_and (mark q) places.mask) (bit_and (mark key) places.mask) e in
            let differs : bytes_eq q key ≡ false = apart_from key q (λ same. other (ap (λ (k : List ℕ). bit_and (mark k) places.mask) same)) in
            (λ i. option_or (seek (keys ++ key ∷ []) (bucket_other (mark q) other i) (tag (mark q)) q) (elsewhere_same q i))
            ∙ ap (λ o. option_or o (elsewhere places q)) (seek_push keys key (bucket_of places (mark q)) (tag (mark q)) q (are.below (mark q)))
            ∙ are.found q ∙ sym (place_push q ∙ ap (λ b. cond b (Some (length keys)) (place_in keys q)) differs)

        here_by : (q : List ℕ) (b : Bool) → eqb (bit_and (mark q) places.mask) (bit_and (mark key) places.mask) ≡ b → has_room (bucket_of next (mark q)) ≡ true → elsewhere next q ≡ None
        here_by q true e has =
            let same = eqb-true (bit_and (mark q) places.mask) (bit_and (mark key) places.mask) e in
            elsewhere_same q ∙ are.here q (ap (λ (j : ℕ). has_room (get_or places.buckets.items j [])) same ∙ room)
        here_by q false e has =
            let other = eqb-false (bit_and (mark q) places.mask) (bit_and (mark key) places.mask) e in
            elsewhere_same q ∙ are.here q (ap has_room (sym (bucket_other (mark q) other)) ∙ has)

        below_by : (m : ℕ) (b : Bool) → eqb (bit_and m places.mask) (bit_and (mark key) places.mask) ≡ b → AreBelow (length (keys ++ key ∷ [])) (bucket_of next m)
        below_by m true e =
            let same = eqb-true (bit_and m places.mask) (bit_and (mark key) places.mask) e in
            let bucket = bucket_of places (mark key) in
            let first : suc (length keys) ≤ length (keys ++ key ∷ []) = (let l = longer in omega arith) in
            subst (AreBelow (length (keys ++ key ∷ []))) (sym (bucket_same m same)) (first, below_more (but_last bucket) (less_below (length keys) bucket (are.below (mark key))))
        below_by m false e =
            let other = eqb-false (bit_and m places.mask) (bit_and (mark key) places.mask) e in
            subst (AreBelow (length (keys ++ key ∷ []))) (sym (bucket_other m other)) (below_more (bucket_of places m) (are.below m))

  -- the bucket is full, and the new number goes into the map
  module _ (places next : KeyPlaces) (are : AreFound places keys) (m : ℕ) (marked : m ≡ mark key) (mask : next.mask ≡ places.mask) (buckets : next.buckets.items ≡ places.buckets.items)
      (full : has_room (bucket_of places (mark key)) ≡ false) (updates : Updates pair_cmp places.others next.others (m, key) (Some (length keys))) where
    bucket_stays : (n : ℕ) → bucket_of next n ≡ bucket_of places n
    bucket_stays n i = get_or (buckets i) (bit_and n (mask i)) []

    one_elsewhere : (q : List ℕ) → elsewhere next q ≡ cond (bytes_eq q key) (Some (length keys)) (elsewhere places q)
    one_elsewhere q =
        updates.0 (mark q, q) ∙ (λ i. cond (is_eq (pair_cmp (marked i, key) (mark q, q))) (Some (length keys)) (elsewhere places q))
        ∙ (λ i. cond (ties key q i) (Some (length keys)) (elsewhere places q))

    pub put_elsewhere : AreFound next (keys ++ key ∷ [])
    put_elsewhere = record {
      found = λ q.
          (λ i. option_or (seek (keys ++ key ∷ []) (bucket_stays (mark q) i) (tag (mark q)) q) (one_elsewhere q i))
          ∙ ap (λ o. option_or o (cond (bytes_eq q key) (Some (length keys)) (elsewhere places q))) (seek_push keys key (bucket_of places (mark q)) (tag (mark q)) q (are.below (mark q)))
          ∙ by q (bytes_eq q key) refl ∙ sym (place_push q);
      here = λ q has.
          let room : has_room (bucket_of places (mark q)) ≡ true = ap has_room (sym (bucket_stays (mark q))) ∙ has in
          let differs : bytes_eq q key ≡ false = apart_from key q (λ same. false≢true (sym full ∙ subst (λ (k : List ℕ). has_room (bucket_of places (mark k)) ≡ true) same room)) in
          one_elsewhere q ∙ (λ i. cond (differs i) (Some (length keys)) (are.here q room i));
      below = λ n. subst (AreBelow (length (keys ++ key ∷ []))) (sym (bucket_stays n)) (below_more (bucket_of places n) (are.below n));
      differ = differ_more are.differ;
    }
      where
        by : (q : List ℕ) (b : Bool) → bytes_eq q key ≡ b → option_or (seek keys (bucket_of places (mark q)) (tag (mark q)) q) (cond b (Some (length keys)) (elsewhere places q)) ≡ cond b (Some (length keys)) (place_in keys q)
        by q true e =
            let lacks : has_key keys q ≡ false = subst (λ (k : List ℕ). has_key keys k ≡ false) (sym (same_key q key e)) new in
            ap (λ o. option_or o (Some (length keys))) (seek_not keys (bucket_of places (mark q)) (tag (mark q)) q lacks)
        by q false e = are.found q

-- ---- none, and what is found

zeros_below : (count i : ℕ) (bucket : List Place) → AreBelow 0 bucket → AreBelow 0 (get_or (replicate count bucket) i [])
zeros_below zero i bucket below = tt
zeros_below (suc count) zero bucket below = below
zeros_below (suc count) (suc i) bucket below = zeros_below count i bucket below

pub none_found : (places : KeyPlaces) (count : ℕ) (bucket : List Place) → AreBelow 0 bucket → places.buckets.items ≡ replicate count bucket → places.others.entries ≡ [] → AreFound places []
none_found places count bucket zeros buckets others = record {
  found = λ q. (λ i. option_or (seek_not [] (bucket_of places (mark q)) (tag (mark q)) q refl i) (lookup (is_at (λ k. marked_cmp q k.0 k.1)) (others i)));
  here = λ q has. ap (lookup (is_at (λ k. marked_cmp q k.0 k.1))) others;
  below = λ m. subst (AreBelow 0) (sym (ap (λ (s : List (List Place)). get_or s (bit_and m places.mask) []) buckets)) (zeros_below count (bit_and m places.mask) bucket zeros);
  differ = refl;
}

-- the keys up to the next one, which is new to those before it
pub next_found : (places : KeyPlaces) (keys : List (List ℕ)) (n : ℕ) (key : List ℕ) → slice_get keys n ≡ Some key → AreFound places (take n keys ++ key ∷ []) → AreFound places (take (n + 1) keys)
next_found places keys n key at are = (let one : n + 1 ≡ suc n = omega arith in subst (AreFound places) (take_push keys n key at ∙ ap (λ (m : ℕ). take m keys) (sym one)) are)

pub next_is_new : (keys : List (List ℕ)) (n : ℕ) (key : List ℕ) → all_differ keys ≡ true → slice_get keys n ≡ Some key → has_key (take n keys) key ≡ false
next_is_new keys n key differ at = (let number = number_at_place keys n key differ at in not_taken keys n key (omega arith))

pub so_many : (keys : List (List ℕ)) (n : ℕ) (key : List ℕ) → slice_get keys n ≡ Some key → n ≡ length (take n keys)
so_many keys n key at = (let within = below_length keys n key at in let few = length-take n keys in omega arith)

pub its_number : (keys : List (List ℕ)) (key : List ℕ) (n : ℕ) → place_in keys key ≡ Some n → n ≡ table_number keys key
its_number keys key n placed = by (has_key keys key) refl
  where
    by : (b : Bool) → has_key keys key ≡ b → n ≡ table_number keys key
    by true e = (let both : Some (table_number keys key) ≡ Some n = sym (place_where true keys key e) ∙ placed in cc)
    by false e = no_some n (sym (place_where false keys key e) ∙ placed)

-- a key that the table has leaves it as it is
pub old_stays : (keys : List (List ℕ)) (key : List ℕ) → has_key keys key ≡ true → keys ≡ add_key keys key
old_stays keys key had = sym (ap (λ b. cond b keys (keys ++ key ∷ [])) had)

-- a key that stands at a place is in the table, and has the place for its number
pub at_stays : (keys : List (List ℕ)) (n : ℕ) (key : List ℕ) → slice_get keys n ≡ Some key → keys ≡ add_key keys key
at_stays keys n key at = old_stays keys key (has_at keys n key at)

pub at_number : (places : KeyPlaces) (keys : List (List ℕ)) (n : ℕ) (key : List ℕ) → AreFound places keys → slice_get keys n ≡ Some key → n ≡ table_number keys key
at_number places keys n key are at = sym (number_at_place keys n key are.differ at)

-- a new key is the last of the table
pub new_pushes : (keys : List (List ℕ)) (key : List ℕ) → has_key keys key ≡ false → keys ++ key ∷ [] ≡ add_key keys key
new_pushes keys key new = sym (ap (λ b. cond b keys (keys ++ key ∷ [])) new)

-- Where the numbers of keys are found: in buckets that marks name and, for keys whose bucket was full, in a map.
use Rattle.std.specs.Prelude.{◌≡◌, ℕ, zero, suc, ◌≤◌, ◌==◌, Bool, true, false, if◌then◌else◌, List, [], ◌∷◌, length, Option, Some, None, slice_get, slice_index_or, bit_and}
use Rattle.std.specs.List.{AllByRecursion}
use Rattle.std.specs.Option.{option_or}
use Rattle.std.specs.Str.{bytes_eq}
use Rattle.std.specs.BTreeMap.{get_by}
use Rattle.rds_names.specs.Roster.{all_differ}
use Rattle.rds_bytes.specs.declared.places.KeyPlaces.{KeyPlaces}
use Rattle.rds_bytes.specs.declared.places.Place.{Place}
use Rattle.rds_bytes.specs.Marks.{mark}
use Rattle.rds_bytes.specs.Numbers.{place_in, marked_cmp}

abbrev pub is_known_key : Option (List ℕ) → List ℕ → Bool
is_known_key None key = false
is_known_key (Some known) key = bytes_eq key known

-- whether the key of a number is this one
abbrev pub stands_at : List (List ℕ) → ℕ → List ℕ → Bool
stands_at keys number key = is_known_key (slice_get keys number) key

-- ---- a bucket: numbers, each as one more and with a part of its key's mark, and 0 where there is room

-- the part of a mark that stands beside a number
abbrev pub tag : ℕ → ℕ
tag m = bit_and m 4294967295

-- the place of a key that has this mark and this number
abbrev pub placed : ℕ → ℕ → Place
placed m number = record { tag = tag m; number = suc number }

-- the number of a key, where one more than it is given
abbrev pub number_at : List (List ℕ) → ℕ → List ℕ → Option ℕ
number_at keys zero key = None
number_at keys (suc number) key = if stands_at keys number key then Some number else None

-- the number of a key with this tag, where the place has it
abbrev pub told_at : List (List ℕ) → Place → ℕ → List ℕ → Option ℕ
told_at keys place t key = if place.tag == t then number_at keys place.number key else None

-- the number of a key with this tag, where the bucket has it
abbrev pub seek : List (List ℕ) → List Place → ℕ → List ℕ → Option ℕ
seek keys [] t key = None
seek keys (place ∷ bucket) t key = option_or (told_at keys place t key) (seek keys bucket t key)

-- whether the last is room
abbrev pub has_room : List Place → Bool
has_room [] = false
has_room (place ∷ []) = place.number == 0
has_room (place ∷ (p ∷ bucket)) = has_room (p ∷ bucket)

abbrev pub but_last : List Place → List Place
but_last [] = []
but_last (place ∷ []) = []
but_last (place ∷ (p ∷ bucket)) = place ∷ but_last (p ∷ bucket)

-- another comes first, and the last goes
abbrev pub pushed : Place → List Place → List Place
pushed place bucket = place ∷ but_last bucket

-- ---- buckets and the map

-- the bucket that a mark names; one of no room where there is none
abbrev pub bucket_of : KeyPlaces → ℕ → List Place
bucket_of places m = slice_index_or places.buckets.items (bit_and m places.mask) []

-- what the map has for a key
abbrev pub elsewhere : KeyPlaces → List ℕ → Option ℕ
elsewhere places key = get_by (λ k. marked_cmp key k.0 k.1) places.others

-- the number of each key is found, and no key stands twice; what has room in its bucket is not in the map
pub record AreFound (places : KeyPlaces) (keys : List (List ℕ)) : Type 0 where
  pub found : (key : List ℕ) → option_or (seek keys (bucket_of places (mark key)) (tag (mark key)) key) (elsewhere places key) ≡ place_in keys key
  pub here : (key : List ℕ) → has_room (bucket_of places (mark key)) ≡ true → elsewhere places key ≡ None
  pub below : (m : ℕ) → AllByRecursion (λ place. place.number ≤ length keys) (bucket_of places m)
  pub differ : all_differ keys ≡ true

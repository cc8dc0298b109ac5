-- The members of an array of JSON, and what is said of them.
use Rattle.std.specs.Prelude.{ℕ, List, [], ◌∷◌, length, Option, Some, None, option_and_then, Result, Err}
use Rattle.std.specs.Option.{option_map_or}
use Rattle.serde_json.specs.Data.{Data, Items, no_items, item}
use Rattle.serde_json.specs.Find.{at, as_array, as_number, as_str, as_u64}
use Rattle.rds_names.specs.declared.fault.Fault.{Fault}
use Rattle.rds_names.specs.declared.fault.Fault.TheVariants.{BadLine}

abbrev pub items_in : Items → List Data
items_in no_items = []
items_in (item d ds) = d ∷ items_in ds

-- the members; what is no array has none
abbrev pub members : Data → List Data
members d = option_map_or items_in (as_array d) []

abbrev pub member_count : Data → ℕ
member_count d = length (members d)

-- the text at a place, of which the first is 0
abbrev pub text_member : ℕ → Data → Option (List ℕ)
text_member i d = option_and_then as_str (at i d)

-- the whole number at a place that fits 64 bits
abbrev pub number_member : ℕ → Data → Option ℕ
number_member i d = option_and_then (λ n. option_and_then as_u64 (as_number n)) (at i d)

-- ---- what is said of one, two or three members, where each is there and of its kind; else the line is bad

abbrev pub of_one : {A X : Type 0} → (A → Result X Fault) → Option A → Result X Fault
of_one said (Some a) = said a
of_one said None = Err BadLine

abbrev pub of_two : {A B X : Type 0} → (A → B → Result X Fault) → Option A → Option B → Result X Fault
of_two said (Some a) (Some b) = said a b
of_two said _ _ = Err BadLine

abbrev pub of_three : {A B C X : Type 0} → (A → B → C → Result X Fault) → Option A → Option B → Option C → Result X Fault
of_three said (Some a) (Some b) (Some c) = said a b c
of_three said _ _ _ = Err BadLine

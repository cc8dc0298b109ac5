-- Items and members that are read one after the other.
use Rattle.std.proofs.Common.{◌≡◌, ℕ, List, [], ◌∷◌, ◌++◌, Option, Some, None, option_map, refl, ap}
use Rattle.json.specs.Json as json
use Rattle.serde_json.specs.Data.{Data, Items, no_items, item, Members, put}
use Rattle.serde_json.specs.Read.{of_json, of_items, of_members}
use Rattle.serde_json.specs.View.{items_of}

-- the items so far, with those that are left
abbrev pub before : List Data → Items → Items
before [] rest = rest
before (d ∷ ds) rest = item d (before ds rest)

pub before_none : (ds : List Data) → before ds no_items ≡ items_of ds
before_none [] = refl
before_none (d ∷ ds) = ap (item d) (before_none ds)

before_push : (ds : List Data) (d : Data) (rest : Items) → before ds (item d rest) ≡ before (ds ++ d ∷ []) rest
before_push [] d rest = refl
before_push (e ∷ ds) d rest = ap (item e) (before_push ds d rest)

with_item : (ds : List Data) (d : Data) (o : Option Items) → option_map (before ds) (option_map (item d) o) ≡ option_map (before (ds ++ d ∷ [])) o
with_item ds d None = refl
with_item ds d (Some rest) = ap Some (before_push ds d rest)

pub before_all : (o : Option Items) → o ≡ option_map (before []) o
before_all None = refl
before_all (Some rest) = refl

pub item_owned : (ds : List Data) (d : Data) (j : json.Json) (js : json.Items) → of_json j ≡ Some d
    → option_map (before ds) (of_items (json.item j js)) ≡ option_map (before (ds ++ d ∷ [])) (of_items js)
item_owned ds d j js e = rw e (with_item ds d (of_items js))

pub item_refused : (ds : List Data) (j : json.Json) (js : json.Items) → of_json j ≡ None → option_map (before ds) (of_items (json.item j js)) ≡ None
item_refused ds j js e = rw e

pub member_owned : (k : List ℕ) (d : Data) (j : json.Json) (ms : json.Members) (found : Members) → of_json j ≡ Some d
    → of_members (json.member k j ms) found ≡ of_members ms (put k d found)
member_owned k d j ms found e = rw e

pub member_refused : (k : List ℕ) (j : json.Json) (ms : json.Members) (found : Members) → of_json j ≡ None → of_members (json.member k j ms) found ≡ None
member_refused k j ms found e = rw e

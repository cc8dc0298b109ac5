-- What listeners are told.
use Rattle.std.proofs.Common.{◌≡◌, ℕ, false, List, [], ◌∷◌, ◌++◌, refl, ap, sym, append-nil}
use Rattle.std.specs.List.{join_with_byte}
use Rattle.serde_json.specs.Written.{has_float}
use Rattle.rds_http.specs.News.{paths_data}

-- paths have no numbers
pub paths_plain : (paths : List (List (List ℕ))) → has_float (paths_data paths) ≡ false
paths_plain [] = refl
paths_plain (path ∷ paths) = paths_plain paths

-- a slash before each key
abbrev pub slashed : List (List ℕ) → List ℕ
slashed [] = []
slashed (key ∷ keys) = 47 ∷ (key ++ slashed keys)

pub joined_is : (key : List ℕ) (keys : List (List ℕ)) → join_with_byte 47 (key ∷ keys) ≡ key ++ slashed keys
joined_is key [] = sym (append-nil key)
joined_is key (next ∷ keys) = ap (λ (t : List ℕ). key ++ 47 ∷ t) (joined_is next keys)

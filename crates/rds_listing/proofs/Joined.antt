-- Keys in a row, with a '/' between each two.
use Rattle.std.proofs.Common.{◌≡◌, ℕ, List, [], ◌∷◌, ◌++◌, ap, sym, append-nil}
use Rattle.std.specs.List.{join_with_byte}

-- a '/' before each
abbrev pub slashed : List (List ℕ) → List ℕ
slashed [] = []
slashed (key ∷ keys) = 47 ∷ (key ++ slashed keys)

pub joined_is : (key : List ℕ) (keys : List (List ℕ)) → join_with_byte 47 (key ∷ keys) ≡ key ++ slashed keys
joined_is key [] = sym (append-nil key)
joined_is key (next ∷ keys) = ap (λ (t : List ℕ). key ++ 47 ∷ t) (joined_is next keys)

-- The note that a node has beside its file.
use Rattle.std.specs.Prelude.{◌≡◌, ◌&&◌, ◌||◌, ◌==◌, ℕ, Bool, true, nat_le, List, ◌∷◌, ◌++◌, length, codes}
use Rattle.std.specs.Char.{is_ascii_graphic}
use Rattle.std.specs.List.{list_all, starts_with}

abbrev pub begins_with : List ℕ → List ℕ → Bool
begins_with text start = starts_with (λ a b. a == b) text start

-- a file is the note of a node, or was to become one
abbrev pub is_note : List ℕ → Bool
is_note bytes = nat_le (length bytes) 512 && ((length bytes == 0) || begins_with bytes (codes "rds_node http"))

-- an address that may be shown: it is short, and each byte is a printable sign of ASCII
abbrev pub is_address : List ℕ → Bool
is_address text = nat_le (length text) 200 && begins_with text (codes "http") && list_all is_ascii_graphic text

-- a note tells this address in its first line
pub record TellsAddress (note address : List ℕ) : Type 0 where
  pub rest : List ℕ
  pub whole : is_note note ≡ true
  pub spelled : note ≡ codes "rds_node " ++ address ++ (10 ∷ rest)
  pub shown : is_address address ≡ true

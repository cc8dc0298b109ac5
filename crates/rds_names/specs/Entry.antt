-- What an entry is made of.
use Rattle.std.specs.Prelude.{◌≡◌, ℕ, Bool, true, false, nat_le, List, length, Option, Some, None, refl}
use Rattle.std.proofs.lemmas.Bool.{leb-true}
use Rattle.rds_names.specs.declared.scalar.Scalar.{Scalar}
use Rattle.rds_names.specs.declared.entry.Kind.{Kind}
use Rattle.rds_names.specs.declared.entry.Entry.{Entry}

-- the entry stands at this path, in this way, with this value
pub record HasParts (path : List (List ℕ)) (kind : Kind) (value : Scalar) (entry : Entry) : Type 0 where
  pub at : entry.path ≡ path
  pub stands : entry.kind ≡ kind
  pub holds : entry.value ≡ value

-- the entry of these parts, by what was found of the length of its path
abbrev pub entry_where : (path : List (List ℕ)) (kind : Kind) (value : Scalar) (some few : Bool)
    → nat_le 1 (length path) ≡ some → nat_le (length path) 8 ≡ few → Option Entry
entry_where path kind value true true some few =
    Some (record { path = path; kind = kind; value = value; below_root = leb-true _ _ some; within = leb-true _ _ few })
entry_where path kind value true false some few = None
entry_where path kind value false few some _ = None

-- the entry of these parts, where the path has one key at least and 8 at most
abbrev pub entry_from_parts : List (List ℕ) → Kind → Scalar → Option Entry
entry_from_parts path kind value = entry_where path kind value (nat_le 1 (length path)) (nat_le (length path) 8) refl refl

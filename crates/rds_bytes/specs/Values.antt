-- The values that have a text.
use Rattle.std.specs.Prelude.{◌≡◌, ℕ, ◌<◌, ◌≤◌, ◌&&◌, Bool, true, List, length, FitsSigned}
use Rattle.std.specs.List.{AllByRecursion, list_all}
use Rattle.std.specs.Str.{is_utf8}
use Rattle.std.specs.Int.{w64}
use Rattle.std.specs.FinSet as set
use Rattle.rds_names.specs.Key.{is_key}
use Rattle.rds_names.specs.Name.{is_name}
use Rattle.rds_names.specs.Roster.{RosterValue, are_names}
use Rattle.rds_names.specs.declared.entry.Entry.{Entry}
use Rattle.rds_names.specs.declared.scalar.Scalar.{Scalar}
use Rattle.rds_names.specs.declared.scalar.Scalar.TheVariants.{Null, Bool as Truth, Int, Text}
use Rattle.rds_dots.specs.declared.dot.Dot.{Dot}
use Rattle.rds_dots.specs.Dots.{Dots, is_dot}
use Rattle.rds_counts.specs.declared.row.CountRow.{CountRow}
use Rattle.rds_counts.specs.Counted.{Counted, counts_of, AreCountRows}

-- a key is text
abbrev pub is_key_text : List ℕ → Bool
is_key_text t = is_utf8 t && is_key t

abbrev pub IsKeyText : List ℕ → Type 0
IsKeyText t = is_key_text t ≡ true

-- the roster holds a key and different names, and the replica is one of it
pub record IsMember (roster : RosterValue) (own : ℕ) : Type 0 where
  pub group : is_key_text roster.group ≡ true
  pub each_name : list_all is_name roster.names ≡ true
  pub names : are_names roster.names ≡ true
  pub own_number : own < length roster.names

-- each is a dot of one of so many replicas
abbrev pub AreDotsOf : ℕ → Dots → Type 0
AreDotsOf replicas s = (d : Dot) → set.contains s d ≡ true → (is_dot d ≡ true) × (d.replica < replicas)

abbrev pub IsScalar : Scalar → Type 0
IsScalar Null = Unit {0}
IsScalar (Truth b) = Unit {0}
IsScalar (Int z) = FitsSigned w64 z
IsScalar (Text t) = (length t ≤ 1024) × (is_utf8 t ≡ true)

abbrev pub IsEntry : Entry → Type 0
IsEntry e = (list_all is_key_text e.path ≡ true) × IsScalar e.value

abbrev pub IsLiveRow : Dot × Entry → Type 0
IsLiveRow row = IsEntry row.1

abbrev pub IsKeyed : CountRow → Type 0
IsKeyed r = is_key_text r.key ≡ true

-- of a key and one of so many replicas
abbrev pub IsCountRowOf : ℕ → CountRow → Type 0
IsCountRowOf replicas r = IsKeyed r × (r.replica < replicas)

-- ---- rows of which each key is such a one

abbrev pub HasKeys : (List ℕ → Type 0) → Dot × Entry → Type 0
HasKeys IsKey row = AllByRecursion IsKey row.1.path

abbrev pub HasKey : (List ℕ → Type 0) → CountRow → Type 0
HasKey IsKey r = IsKey r.key

-- ---- the values of counters

-- the numbers of rows, each of a key and one of so many replicas
pub record AreCountsOf (replicas : ℕ) (m : Counted) : Type 0 where
  pub rows : List CountRow
  pub are_rows : AreCountRows rows
  pub each_row : AllByRecursion (IsCountRowOf replicas) rows
  pub value : counts_of rows ≡ m

-- What stands under an id once defaults are given, in whatever order rows stand.
use Rattle.std.proofs.Common.{◌≡◌, ◌⊎◌, ◌∙◌, ◌||◌, Bool, true, false, List, [], ◌∷◌, ◌++◌, Option, Some, None, refl, sym, ap, inl, inr}
use Rattle.std.specs.Prelude.{⊤, fold, if◌then◌else◌, option_and_then, slice_get}
use Rattle.std.specs.Str.{bytes_eq}
use Rattle.std.proofs.lemmas.List.{append-nil}
use Rattle.std.proofs.lemmas.Slice.Eq.{bytes_eq-Decides}
use Rattle.clap.specs.Words.{Kinds, Row, Rule, Text, first_of}
use Rattle.clap.specs.Kinds.{or_else}
use Rattle.clap.specs.Faults.{default_fault, defaults_fault, given_default_fault}
use Rattle.clap.specs.Walk.{default_rows, has_row, is_empty, more_values, reading_by, with_default}
use Rattle.clap.specs.declared.parser.matches.ValueSource.TheVariants.{DefaultValue}
use Rattle.rds_words.proofs.RowsById.{at_no_row, find_kept, find_new, find_past, no_row, row_at}

abbrev default_row : Rule → Text → List Text → Row
default_row a d ds = record { id = a.id; values = d ∷ ds; count = None; source = Some DefaultValue; reading = reading_by a }

abbrev given : List Row → Rule → Bool → List Text → List Row
given rows a b ds = if b then rows else default_rows a.id (reading_by a) ds rows

default_new : (a : Rule) (rows : List Row) (d : Text) (ds : List Text) → has_row a.id rows ≡ false → a.defaults ≡ d ∷ ds → with_default rows a ≡ rows ++ default_row a d ds ∷ []
default_new a rows d ds none is = (λ i. given rows a (none i) (is i)) ∙ at_no_row a.id (more_values DefaultValue (d ∷ ds)) (default_row a d ds ∷ []) rows none

default_more : (a : Rule) (rows : List Row) → (more : List Row) × (with_default rows a ≡ rows ++ more)
default_more a rows = of (has_row a.id rows) refl a.defaults refl
  where
    of : (b : Bool) → has_row a.id rows ≡ b → (ds : List Text) → a.defaults ≡ ds → (more : List Row) × (with_default rows a ≡ rows ++ more)
    of true e ds k = ([], ap (λ (b : Bool). given rows a b a.defaults) e ∙ sym (append-nil rows))
    of false e [] k = ([], (λ i. given rows a (e i) (k i)) ∙ sym (append-nil rows))
    of false e (d ∷ ds) k = (default_row a d ds ∷ [], default_new a rows d ds e k)

-- a default of another id, or none, changes nothing under this one
default_past : (id : Text) (a : Rule) (rows : List Row) → (bytes_eq a.id id ≡ false) ⊎ (a.defaults ≡ []) → row_at id (with_default rows a) ≡ row_at id rows
default_past id a rows other = of (has_row a.id rows) refl a.defaults refl other
  where
    of : (b : Bool) → has_row a.id rows ≡ b → (ds : List Text) → a.defaults ≡ ds → (bytes_eq a.id id ≡ false) ⊎ (a.defaults ≡ []) → row_at id (with_default rows a) ≡ row_at id rows
    of true e ds k other = ap (λ (b : Bool). row_at id (given rows a b a.defaults)) e
    of false e [] k other = λ i. row_at id (given rows a (e i) (k i))
    of false e (d ∷ ds) k (inl differ) = ap (row_at id) (default_new a rows d ds e k) ∙ find_past (λ r. bytes_eq r.id id) rows (default_row a d ds) differ
    of false e (d ∷ ds) k (inr none) = absurd (not_both (sym none ∙ k))
      where
        not_both : ◌≡◌ {A = List Text} [] (d ∷ ds) → ⊥
        not_both e = absurd cc

-- ---- all rules

pub row_kept : (c : List Rule) (rows : List Row) (id : Text) (r : Row) → row_at id rows ≡ Some r → row_at id (fold with_default rows c) ≡ Some r
row_kept [] rows id r is = is
row_kept (a ∷ c) rows id r is =
    let more = default_more a rows in
    row_kept c (with_default rows a) id r (ap (row_at id) more.1 ∙ find_kept (λ r. bytes_eq r.id id) rows more.0 r is)

-- no rule gives this id a default
abbrev pub HasNoDefault : Text → List Rule → Type 0
HasNoDefault id [] = ⊤
HasNoDefault id (a ∷ c) = ((bytes_eq a.id id ≡ false) ⊎ (a.defaults ≡ [])) × HasNoDefault id c

pub row_missing : (c : List Rule) (rows : List Row) (id : Text) → HasNoDefault id c → row_at id rows ≡ None → row_at id (fold with_default rows c) ≡ None
row_missing [] rows id has none = none
row_missing (a ∷ c) rows id has none = row_missing c (with_default rows a) id has.1 (default_past id a rows has.0 ∙ none)

-- the first rule of this id has this default
abbrev pub HasDefault : Text → Text → List Rule → Type 0
HasDefault id d [] = ⊥
HasDefault id d (a ∷ c) = ((a.id ≡ id) × (a.defaults ≡ d ∷ [])) ⊎ ((bytes_eq a.id id ≡ false) × HasDefault id d c)

pub first_default : (c : List Rule) (rows : List Row) (id d : Text) → HasDefault id d c → row_at id rows ≡ None → first_of id (fold with_default rows c) ≡ Some d
first_default [] rows id d has none = absurd has
first_default (a ∷ c) rows id d (inr other) none = first_default c (with_default rows a) id d other.1 (default_past id a rows (inl other.0) ∙ none)
first_default (a ∷ c) rows id d (inl this) none = first_in (row_kept c (with_default rows a) id (default_row a d []) there)
  where
    is_none : has_row a.id rows ≡ false
    is_none = no_row a.id rows (ap (λ (k : Text). row_at k rows) this.0 ∙ none)

    there : row_at id (with_default rows a) ≡ Some (default_row a d [])
    there = ap (row_at id) (default_new a rows d [] is_none this.1) ∙ find_new (λ r. bytes_eq r.id id) rows (default_row a d []) none ((bytes_eq-Decides a.id id).1 this.0)

    first_in : row_at id (fold with_default (with_default rows a) c) ≡ Some (default_row a d []) → first_of id (fold with_default (with_default rows a) c) ≡ Some d
    first_in is = ap (λ (f : Option Row). option_and_then (λ r. slice_get r.values 0) f) is

-- ---- faults of defaults

abbrev pub AreQuiet : List Rule → Type 0
AreQuiet [] = ⊤
AreQuiet (a ∷ c) = ((is_empty a.defaults ≡ true) ⊎ (given_default_fault a a.defaults ≡ [])) × AreQuiet c

quiet_one : (a : Rule) (rows : List Row) → (is_empty a.defaults ≡ true) ⊎ (given_default_fault a a.defaults ≡ []) → default_fault rows a ≡ []
quiet_one a rows (inl none) = ap (λ (b : Bool). if has_row a.id rows || b then [] else given_default_fault a a.defaults) none ∙ of (has_row a.id rows)
  where
    of : (b : Bool) → (if b || true then [] else given_default_fault a a.defaults) ≡ []
    of true = refl
    of false = refl
quiet_one a rows (inr none) = of (has_row a.id rows || is_empty a.defaults)
  where
    of : (b : Bool) → (if b then [] else given_default_fault a a.defaults) ≡ []
    of true = refl
    of false = none

pub quiet : (c : List Rule) (rows : List Row) → AreQuiet c → defaults_fault rows c ≡ []
unfolding defaults_fault
quiet [] rows are = refl
quiet (a ∷ c) rows are = ap (λ (k : Kinds). or_else k (defaults_fault (with_default rows a) c)) (quiet_one a rows are.0) ∙ quiet c (with_default rows a) are.1

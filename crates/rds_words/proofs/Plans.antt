-- What a command with options takes, as lists, and rows by the ids of these lists.
use Rattle.std.proofs.Common.{◌≡◌, ◌⊎◌, ◌∙◌, ◌&&◌, Bool, true, false, not, List, [], ◌∷◌, ◌++◌, codes, Option, Some, None, map, refl, sym, ap, subst, inl, inr}
use Rattle.std.specs.Prelude.{if◌then◌else◌}
use Rattle.std.specs.List.{list_all}
use Rattle.std.specs.Str.{bytes_eq}
use Rattle.std.proofs.lemmas.Slice.Eq.{bytes_eq-Decides}
use Rattle.clap.specs.Words.{Row, Text}
use Rattle.clap.specs.Facts.{parser_of_value}
use Rattle.clap.specs.Values.{reading_of}
use Rattle.clap.specs.Walk.{stronger, with_values}
use Rattle.clap.specs.declared.builder.value_parser.Reading.{Reading}
use Rattle.clap.specs.declared.builder.value_parser.ValueParser.TheVariants.{String}
use Rattle.clap.specs.declared.parser.matches.ValueSource.TheVariants.{CommandLine}
use Rattle.rds_names.specs.Conditions.{and_left, and_right}
use Rattle.rds_words.specs.Typed.{Form}
use Rattle.rds_words.proofs.RowsById.{find_in, row_at}

-- an option, with the reading of its row
pub record Known : Type 0 where
  pub bare : Text
  pub id : Text
  pub form : Form
  pub reading : Reading

abbrev pub name_of : Known → Text
name_of o = codes "--" ++ o.bare

abbrev pub IsIn : Known → List Known → Type 0
IsIn o [] = ⊥
IsIn o (k ∷ ks) = (k ≡ o) ⊎ IsIn o ks

-- ---- ids that differ

abbrev pub differ : Text → Text → Bool
differ a b = not (bytes_eq a b) && not (bytes_eq b a)

abbrev pub is_apart : Text → List Text → Bool
is_apart a bs = list_all (differ a) bs

abbrev pub are_apart : List Text → Bool
are_apart [] = true
are_apart (a ∷ rest) = is_apart a rest && are_apart rest

not_true : (b : Bool) → not b ≡ true → b ≡ false
not_true true e = absurd cc
not_true false e = refl

pub this_differs : (a b : Text) → differ a b ≡ true → bytes_eq a b ≡ false
this_differs a b e = not_true (bytes_eq a b) (and_left (not (bytes_eq a b)) _ e)

pub other_differs : (a b : Text) → differ a b ≡ true → bytes_eq b a ≡ false
other_differs a b e = not_true (bytes_eq b a) (and_right (not (bytes_eq a b)) _ e)

pub all_in : (f : Known → Bool) (o : Known) (ks : List Known) → list_all f ks ≡ true → IsIn o ks → f o ≡ true
all_in f o [] all is = absurd is
all_in f o (k ∷ ks) all (inl is) = subst (λ (k : Known). f k ≡ true) is (and_left (f k) _ all)
all_in f o (k ∷ ks) all (inr is) = all_in f o ks (and_right (f k) _ all) is

apart_in : (of : Known → Text) (a : Text) (o : Known) (ks : List Known) → is_apart a (map of ks) ≡ true → IsIn o ks → differ a (of o) ≡ true
apart_in of a o [] all is = absurd is
apart_in of a o (k ∷ ks) all (inl is) = subst (λ (k : Known). differ a (of k) ≡ true) is (and_left (differ a (of k)) _ all)
apart_in of a o (k ∷ ks) all (inr is) = apart_in of a o ks (and_right (differ a (of k)) _ all) is

-- two options are one, or differ in both
pub same_or : (ks : List Known) → are_apart (map (λ k. k.id) ks) ≡ true → are_apart (map name_of ks) ≡ true → (o p : Known) → IsIn o ks → IsIn p ks
    → (o ≡ p) ⊎ ((bytes_eq o.id p.id ≡ false) × (bytes_eq (name_of o) (name_of p) ≡ false))
same_or [] ids names o p is also = absurd is
same_or (k ∷ ks) ids names o p (inl is) (inl also) = inl (sym is ∙ also)
same_or (k ∷ ks) ids names o p (inl is) (inr also) =
    inr (subst (λ (k : Known). (bytes_eq k.id p.id ≡ false) × (bytes_eq (name_of k) (name_of p) ≡ false)) is (
      this_differs k.id p.id (apart_in (λ k. k.id) k.id p ks (and_left (is_apart k.id (map (λ k. k.id) ks)) _ ids) also),
      this_differs (name_of k) (name_of p) (apart_in name_of (name_of k) p ks (and_left (is_apart (name_of k) (map name_of ks)) _ names) also),
    ))
same_or (k ∷ ks) ids names o p (inr is) (inl also) =
    inr (subst (λ (k : Known). (bytes_eq o.id k.id ≡ false) × (bytes_eq (name_of o) (name_of k) ≡ false)) also (
      other_differs k.id o.id (apart_in (λ k. k.id) k.id o ks (and_left (is_apart k.id (map (λ k. k.id) ks)) _ ids) is),
      other_differs (name_of k) (name_of o) (apart_in name_of (name_of k) o ks (and_left (is_apart (name_of k) (map name_of ks)) _ names) is),
    ))
same_or (k ∷ ks) ids names o p (inr is) (inr also) =
    same_or ks (and_right (is_apart k.id (map (λ k. k.id) ks)) _ ids) (and_right (is_apart (name_of k) (map name_of ks)) _ names) o p is also

-- ---- rows of words and of options

abbrev pub text_reading : Reading
text_reading = reading_of (parser_of_value (Some String))

abbrev pub read_row : Reading → Text → List Text → Row
read_row reading id values = record { id = id; values = values; count = None; source = Some CommandLine; reading = reading }

-- the row of the first of these values, where there is one
abbrev pub given_row : Reading → Text → List Text → Option Row
given_row reading id [] = None
given_row reading id (v ∷ vs) = Some (read_row reading id (v ∷ []))

-- the row of all of them
abbrev pub values_row : Reading → Text → List Text → Option Row
values_row reading id [] = None
values_row reading id (v ∷ vs) = Some (read_row reading id (v ∷ vs))

-- nothing else changed but what stands under this id
abbrev pub Keeps : Text → List Row → List Row → Type 0
Keeps id rows after = (k : Text) → bytes_eq id k ≡ false → row_at k after ≡ row_at k rows

abbrev pub behind_first : List Text → List Text
behind_first [] = []
behind_first (w ∷ ws) = ws

abbrev pub more_ids : Option Text → List Text
more_ids None = []
more_ids (Some id) = id ∷ []

-- these words stand under these ids, one each, and the others under the last
abbrev pub AreAt : List Text → Option Text → List Text → List Row → Type 0
AreAt [] None ws rows = ws ≡ []
AreAt [] (Some m) ws rows = row_at m rows ≡ values_row text_reading m ws
AreAt (i ∷ ids) more ws rows = (row_at i rows ≡ given_row text_reading i ws) × AreAt ids more (behind_first ws) rows

pub at_kept : (ids : List Text) (more : Option Text) (ws : List Text) (rows after : List Row) (k : Text) → Keeps k rows after → is_apart k (ids ++ more_ids more) ≡ true → AreAt ids more ws rows → AreAt ids more ws after
at_kept [] None ws rows after k keeps apart stands = stands
at_kept [] (Some m) ws rows after k keeps apart stands = keeps m (this_differs k m (and_left (differ k m) _ apart)) ∙ stands
at_kept (i ∷ ids) more ws rows after k keeps apart stands =
    (keeps i (this_differs k i (and_left (differ k i) _ apart)) ∙ stands.0, at_kept ids more (behind_first ws) rows after k keeps (and_right (differ k i) _ apart) stands.1)

pub none_at : (ids : List Text) (more : Option Text) → AreAt ids more [] []
none_at [] None = refl
none_at [] (Some m) = refl
none_at (i ∷ ids) more = (refl, none_at ids more)

-- ---- one more value

abbrev pub with_one : Text → Text → List Row → List Row
with_one id v rows = with_values id text_reading CommandLine (v ∷ []) rows

abbrev more_of : Text → Row → Row
more_of v r = record r { values = r.values ++ v ∷ []; source = Some (stronger r.source CommandLine) }

pub with_one_there : (id v : Text) (rows : List Row) (r : Row) → row_at id rows ≡ Some r → row_at id (with_one id v rows) ≡ Some (more_of v r)
with_one_there id v [] r is = absurd cc
with_one_there id v (x ∷ rows) r is = of (with_one_there id v rows r) (bytes_eq x.id id) refl is
  where
    same : (x : Row) → ◌≡◌ {A = Option Row} (Some x) (Some r) → x ≡ r
    same x e = cc

    of : (row_at id rows ≡ Some r → row_at id (with_one id v rows) ≡ Some (more_of v r)) → (b : Bool) → bytes_eq x.id id ≡ b → (if b then Some x else row_at id rows) ≡ Some r
        → row_at id (if b then more_of v x ∷ rows else x ∷ with_one id v rows) ≡ Some (more_of v r)
    of on true e is = rw e (ap (λ (y : Row). Some (more_of v y)) (same x is))
    of on false e is = rw e (on is)

pub with_one_new : (id v : Text) (rows : List Row) → row_at id rows ≡ None → row_at id (with_one id v rows) ≡ Some (read_row text_reading id (v ∷ []))
with_one_new id v [] none = rw ((bytes_eq-Decides id id).1 refl) refl
with_one_new id v (x ∷ rows) none = of (with_one_new id v rows) (bytes_eq x.id id) refl none
  where
    of : (row_at id rows ≡ None → row_at id (with_one id v rows) ≡ Some (read_row text_reading id (v ∷ []))) → (b : Bool) → bytes_eq x.id id ≡ b → (if b then Some x else row_at id rows) ≡ None
        → row_at id (if b then more_of v x ∷ rows else x ∷ with_one id v rows) ≡ Some (read_row text_reading id (v ∷ []))
    of on true e is = absurd cc
    of on false e is = rw e (on is)

pub with_one_keeps : (id v : Text) (rows : List Row) → Keeps id rows (with_one id v rows)
with_one_keeps id v [] k differs = rw differs refl
with_one_keeps id v (x ∷ rows) k differs = of (with_one_keeps id v rows k differs) (bytes_eq x.id id) refl
  where
    of : row_at k (with_one id v rows) ≡ row_at k rows → (b : Bool) → bytes_eq x.id id ≡ b → row_at k (if b then more_of v x ∷ rows else x ∷ with_one id v rows) ≡ row_at k (x ∷ rows)
    of on true e =
        let other : bytes_eq x.id k ≡ false = subst (λ (i : Text). bytes_eq i k ≡ false) (sym ((bytes_eq-Decides x.id id).0 e)) differs in
        rw other refl
    of on false e = find_in (bytes_eq x.id k) x (row_at k (with_one id v rows)) (row_at k rows) on

-- Rows that are added to a value are those of a list.
use Rattle.std.proofs.Common.{◌≡◌, ℕ, zero, suc, List, [], ◌∷◌, ◌++◌, Option, Result, Ok, Err, refl, ap, ◌∙◌}
use Rattle.std.specs.Int.{Width}
use Rattle.rds_names.specs.declared.fault.Fault.{Fault}
use Rattle.rds_bytes.specs.Reading.{◌>>=◌, Reader, made_at, rows_after, list_at, number_at}
use Rattle.rds_feeds.specs.Numbered.{with_met}
use Rattle.rds_feeds.specs.Parts.{makes}
use Rattle.rds_feeds.specs.Rows.{times, many}

-- what a value becomes with these rows, one after the other
abbrev pub adding : {A V : Type 0} → (V → A → V) → V → List A → V
adding add v [] = v
adding add v (a ∷ rows) = adding add (add v a) rows

pub adding-push : {A V : Type 0} (add : V → A → V) (v : V) (rows : List A) (a : A) → adding add v (rows ++ a ∷ []) ≡ add (adding add v rows) a
adding-push add v [] a = refl
adding-push add v (row ∷ rows) a = adding-push add (add v row) rows a

-- the value that has these rows takes the next one as the list does
module _ {A V : Type 0} (f : List A → Reader A) (next : V → Reader V) (value : List A → V)
    (same : (before : List A) (bytes : List ℕ) → next (value before) bytes ≡ made_at (λ a. value (before ++ a ∷ [])) (f before) bytes) where
  abbrev made_row : List A → A × List ℕ → Result (V × List ℕ) Fault
  made_row before a = Ok (value (before ++ a.0 ∷ []), a.1)

  abbrev next_rows : ℕ → V × List ℕ → Result (V × List ℕ) Fault
  next_rows n x = times next n x.0 x.1

  abbrev rows_left : ℕ → List A → A × List ℕ → Result (List A × List ℕ) Fault
  rows_left n before a = rows_after f (before ++ a.0 ∷ []) n a.1

  abbrev made_rows : List A × List ℕ → Result (V × List ℕ) Fault
  made_rows xs = Ok (value xs.0, xs.1)

  abbrev all_rows : ℕ × List ℕ → Result (List A × List ℕ) Fault
  all_rows n = rows_after f [] n.0 n.1

  abbrev all_next : ℕ × List ℕ → Result (V × List ℕ) Fault
  all_next n = times next n.0 (value []) n.1

  after_row : (n : ℕ) (before : List A) (r : Result (A × List ℕ) Fault)
      → ((a : A) (rest : List ℕ) → times next n (value (before ++ a ∷ [])) rest ≡ made_at value (rows_after f (before ++ a ∷ []) n) rest)
      → ((r >>= made_row before) >>= next_rows n) ≡ ((r >>= rows_left n before) >>= made_rows)
  after_row n before (Ok a) more = more a.0 a.1
  after_row n before (Err e) more = refl

  pub times_are_rows : (n : ℕ) (before : List A) (bytes : List ℕ) → times next n (value before) bytes ≡ made_at value (rows_after f before n) bytes
  unfolding times rows_after
  times_are_rows zero before bytes = refl
  times_are_rows (suc n) before bytes =
      ap (λ (r : Result (V × List ℕ) Fault). r >>= λ x. times next n x.0 x.1) (same before bytes) ∙ after_row n before (f before bytes) (λ a rest. times_are_rows n (before ++ a ∷ []) rest)

  counted : (r : Result (ℕ × List ℕ) Fault) → (r >>= all_next) ≡ ((r >>= all_rows) >>= made_rows)
  counted (Ok n) = times_are_rows n.0 [] n.1
  counted (Err e) = refl

  pub many_are_list : (width : Width) (bytes : List ℕ) → many width next (value []) bytes ≡ made_at value (list_at (number_at width) f) bytes
  many_are_list width bytes = counted (number_at width bytes)

-- rows in a list, beside what reads them
module _ {A R : Type 0} (reader : R → List A → Reader A) (r : R) where
  abbrev with_row : R × List A → A → R × List A
  with_row l a = (l.0, l.1 ++ a ∷ [])

  pub listed : (width : Width) (bytes : List ℕ)
      → many width (λ (l : R × List A). made_at (with_row l) (reader l.0 l.1)) (r, []) bytes ≡ made_at (λ rows. (r, rows)) (list_at (number_at width) (reader r)) bytes
  listed width bytes = many_are_list (reader r) (λ l. made_at (with_row l) (reader l.0 l.1)) (λ rows. (r, rows)) (λ before bytes. refl) width bytes

-- what is made in two steps is made in one
module _ {A B C : Type 0} (g : B → C) (f : A → B) where
  abbrev first_made : A × List ℕ → Result (B × List ℕ) Fault
  first_made a = Ok (f a.0, a.1)

  abbrev then_second : B × List ℕ → Result (C × List ℕ) Fault
  then_second b = Ok (g b.0, b.1)

  abbrev both_made : A × List ℕ → Result (C × List ℕ) Fault
  both_made a = Ok (g (f a.0), a.1)

  twice : (x : Result (A × List ℕ) Fault) → ((x >>= first_made) >>= then_second) ≡ (x >>= both_made)
  twice (Ok a) = refl
  twice (Err e) = refl

  pub made_twice : (reader : Reader A) (bytes : List ℕ) → made_at g (made_at f reader) bytes ≡ made_at (λ a. g (f a)) reader bytes
  made_twice reader bytes = twice (reader bytes)

-- rows in a list, beside what reads them; each is read with what it meets
module _ {A R : Type 0} (reader : R → List A → Reader A) (met_by : R → List A → Option ℕ) (r : R) where
  abbrev with_read : R × List A → A × Option ℕ → R × List A
  with_read l x = (l.0, l.1 ++ x.0 ∷ [])

  abbrev next_met : R × List A → Reader (R × List A)
  next_met l = made_at (with_read l) (made_at (with_met (met_by l.0) l.1) (reader l.0 l.1))

  pub met_listed : (width : Width) (bytes : List ℕ) → many width next_met (r, []) bytes ≡ made_at (λ rows. (r, rows)) (list_at (number_at width) (reader r)) bytes
  met_listed width bytes =
      many_are_list (reader r) next_met (λ rows. (r, rows)) (λ before bytes. made_twice (with_read (r, before)) (with_met (met_by r) before) (reader r before) bytes) width bytes

-- what is made of rows beside what reads them is made of the rows
module _ {A R V : Type 0} (make : R × List A → V) (reader : Reader (List A)) (r : R) where
  abbrev made_beside : List A × List ℕ → Result ((R × List A) × List ℕ) Fault
  made_beside xs = Ok ((r, xs.0), xs.1)

  abbrev then_made : (R × List A) × List ℕ → Result (V × List ℕ) Fault
  then_made x = Ok (make x.0, x.1)

  abbrev made_once : List A × List ℕ → Result (V × List ℕ) Fault
  made_once xs = Ok (make (r, xs.0), xs.1)

  in_two : (x : Result (List A × List ℕ) Fault) → ((x >>= made_beside) >>= then_made) ≡ (x >>= made_once)
  in_two (Ok xs) = refl
  in_two (Err e) = refl

  pub made_in_two : (finish : Reader (R × List A)) → ((bytes : List ℕ) → finish bytes ≡ made_at (λ rows. (r, rows)) reader bytes)
      → (bytes : List ℕ) → makes finish (λ x. Ok (make x)) bytes ≡ made_at (λ rows. make (r, rows)) reader bytes
  made_in_two finish is bytes = ap (λ (y : Result ((R × List A) × List ℕ) Fault). y >>= then_made) (is bytes) ∙ in_two (reader bytes)

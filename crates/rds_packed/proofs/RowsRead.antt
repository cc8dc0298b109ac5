-- Rows that are read one by one after their number are those of a list.
use Rattle.std.proofs.Common.{◌≡◌, ℕ, zero, suc, ◌^◌, Bool, true, false, cond, ltb, List, [], ◌∷◌, ◌++◌, Result, Ok, Err, refl, ap, ◌∙◌}
use Rattle.rds_names.specs.declared.fault.Fault.{Fault}
use Rattle.rds_names.specs.declared.fault.Fault.TheVariants.{Bad}
use Rattle.rds_bytes.specs.Reading.{◌>>=◌, Reader, made_at, when_at, rows_after, list_at}
use Rattle.rds_feeds.specs.Chained.{chain}
use Rattle.rds_feeds.specs.Parts.{makes}
use Rattle.rds_feeds.specs.Rows.{times}

-- what is made in two steps is made in one
module _ {A B C : Type 0} (g : B → C) (f : A → B) where
  abbrev first_made : A × List ℕ → Result (B × List ℕ) Fault
  first_made a = Ok (f a.0, a.1)

  abbrev then_second : B × List ℕ → Result (C × List ℕ) Fault
  then_second b = Ok (g b.0, b.1)

  abbrev both_made : A × List ℕ → Result (C × List ℕ) Fault
  both_made a = Ok (g (f a.0), a.1)

  pub twice : (x : Result (A × List ℕ) Fault) → ((x >>= first_made) >>= then_second) ≡ (x >>= both_made)
  twice (Ok a) = refl
  twice (Err e) = refl

-- what a value becomes with these rows, one after the other
abbrev pub adding : {A V : Type 0} → (V → A → V) → V → List A → V
adding add v [] = v
adding add v (a ∷ rows) = adding add (add v a) rows

pub adding-push : {A V : Type 0} (add : V → A → V) (v : V) (rows : List A) (a : A) → adding add v (rows ++ a ∷ []) ≡ add (adding add v rows) a
adding-push add v [] a = refl
adding-push add v (row ∷ rows) a = adding-push add (add v row) rows a

-- the value that has these rows takes the next one as the list does
module _ {A V : Type 0} (f : List A → Reader A) (next : V → Reader V) (value : List A → V)
    (same : (before : List A) (bytes : List ℕ) → next (value before) bytes ≡ made_at (λ a. value (before ++ a ∷ [])) (f before) bytes) where
  abbrev made_row : List A → A × List ℕ → Result (V × List ℕ) Fault
  made_row before a = Ok (value (before ++ a.0 ∷ []), a.1)

  abbrev rows_left : ℕ → List A → A × List ℕ → Result (List A × List ℕ) Fault
  rows_left n before a = rows_after f (before ++ a.0 ∷ []) n a.1

  abbrev made_rows : List A × List ℕ → Result (V × List ℕ) Fault
  made_rows xs = Ok (value xs.0, xs.1)

  after_row : (n : ℕ) (before : List A) (r : Result (A × List ℕ) Fault)
      → ((a : A) (rest : List ℕ) → times next n (value (before ++ a ∷ [])) rest ≡ made_at value (rows_after f (before ++ a ∷ []) n) rest)
      → ((r >>= made_row before) >>= λ x. times next n x.0 x.1) ≡ ((r >>= rows_left n before) >>= made_rows)
  after_row n before (Ok a) more = more a.0 a.1
  after_row n before (Err e) more = refl

  pub times_are_rows : (n : ℕ) (before : List A) (bytes : List ℕ) → times next n (value before) bytes ≡ made_at value (rows_after f before n) bytes
  unfolding times rows_after
  times_are_rows zero before bytes = refl
  times_are_rows (suc n) before bytes =
      ap (λ (r : Result (V × List ℕ) Fault). r >>= λ x. times next n x.0 x.1) (same before bytes) ∙ after_row n before (f before bytes) (λ a rest. times_are_rows n (before ++ a ∷ []) rest)

  -- where four bytes can say how many they are
  abbrev pub rows_where : ℕ → Bool → Reader V
  rows_where n few = cond few (times next n (value [])) (λ _. Err Bad)

  module _ {W : Type 0} (make : V → W) where
    abbrev made_whole : V × List ℕ → Result (W × List ℕ) Fault
    made_whole x = Ok (make x.0, x.1)

    abbrev if_few : ℕ → Bool → List ℕ → Result (ℕ × List ℕ) Fault
    if_few n b rest = cond b (Ok (n, rest)) (Err Bad)

    abbrev all_rows : ℕ × List ℕ → Result (List A × List ℕ) Fault
    all_rows m = rows_after f [] m.0 m.1

    abbrev whole_of_rows : List A × List ℕ → Result (W × List ℕ) Fault
    whole_of_rows xs = Ok (make (value xs.0), xs.1)

    counted_rows : (n : ℕ) (b : Bool) (rest : List ℕ) → (rows_where n b rest >>= made_whole) ≡ ((if_few n b rest >>= all_rows) >>= whole_of_rows)
    counted_rows n true rest = ap (λ (r : Result (V × List ℕ) Fault). r >>= made_whole) (times_are_rows n [] rest) ∙ twice make value (rows_after f [] n rest)
    counted_rows n false rest = refl

    abbrev rows_of_number : ℕ × List ℕ → Result (V × List ℕ) Fault
    rows_of_number x = rows_where x.0 (ltb x.0 (2 ^ 32)) x.1

    abbrev when_few : ℕ × List ℕ → Result (ℕ × List ℕ) Fault
    when_few a = cond (ltb a.0 (2 ^ 32)) (Ok a) (Err Bad)

    after_number : (r : Result (ℕ × List ℕ) Fault) → ((r >>= rows_of_number) >>= made_whole) ≡ (((r >>= when_few) >>= all_rows) >>= whole_of_rows)
    after_number (Ok x) = counted_rows x.0 (ltb x.0 (2 ^ 32)) x.1
    after_number (Err e) = refl

    pub rows_read : (started number : Reader ℕ) → ((bytes : List ℕ) → started bytes ≡ number bytes) → (bytes : List ℕ)
        → makes (chain started (λ n. rows_where n (ltb n (2 ^ 32)))) (λ v. Ok (make v)) bytes ≡ made_at (λ rows. make (value rows)) (list_at (when_at (λ n. ltb n (2 ^ 32)) number) f) bytes
    rows_read started number is bytes =
        ap (λ (r : Result (ℕ × List ℕ) Fault). (r >>= rows_of_number) >>= made_whole) (is bytes) ∙ after_number (number bytes)

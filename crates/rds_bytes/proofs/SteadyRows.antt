-- Rows that come in pieces: one that is whole is taken, and one that is bad is refused, whatever follows.
use Rattle.std.proofs.Common.{◌≡◌, ℕ, suc, List, [], ◌∷◌, ◌++◌, Result, Ok, Err, refl, subst}
use Rattle.rds_names.specs.declared.fault.Fault.{Fault}
use Rattle.rds_names.specs.declared.fault.Fault.TheVariants.{Cut}
use Rattle.rds_bytes.specs.Reading.{Reader, rows_after}
use Rattle.rds_bytes.specs.Steady.{Agrees, IsSteady}
use Rattle.rds_bytes.specs.SteadyLaws.{rows_steady}

-- what is read stays read, whatever follows
pub read_on : {A : Type 0} (f : Reader A) → IsSteady f → (bytes : List ℕ) (x : A) (rest : List ℕ) → f bytes ≡ Ok (x, rest)
    → (more : List ℕ) → f (bytes ++ more) ≡ Ok (x, rest ++ more)
read_on {A} f s bytes x rest e more = subst (λ (r : Result (A × List ℕ) Fault). Agrees more r (f (bytes ++ more))) e (s bytes more)

-- what is refused for another fault than Cut is refused so, whatever follows
pub refused_on : {A : Type 0} (f : Reader A) → IsSteady f → (bytes : List ℕ) (e : Fault) → (e ≡ Cut → ⊥) → f bytes ≡ Err e
    → (more : List ℕ) → f (bytes ++ more) ≡ Err e
refused_on {A} f s bytes e not-cut h more = (subst (λ (r : Result (A × List ℕ) Fault). Agrees more r (f (bytes ++ more))) h (s bytes more)) not-cut

-- a row that is whole may be taken off, whatever follows
pub row_taken : {A : Type 0} (f : List A → Reader A) → ((before : List A) → IsSteady (f before)) → (before : List A) (n : ℕ) (row : A) (rest after : List ℕ)
    → f before rest ≡ Ok (row, after) → (more : List ℕ) → rows_after f before (suc n) (rest ++ more) ≡ rows_after f (before ++ row ∷ []) n (after ++ more)
unfolding rows_after
row_taken f s before n row rest after e more = let later = read_on (f before) (s before) rest row after e more in rw later refl

-- rows that are bad are bad, whatever follows
pub rows_refused : {A : Type 0} (f : List A → Reader A) → ((before : List A) → IsSteady (f before)) → (before : List A) (n : ℕ) (rest : List ℕ) (e : Fault)
    → (e ≡ Cut → ⊥) → rows_after f before n rest ≡ Err e → (more : List ℕ) → rows_after f before n (rest ++ more) ≡ Err e
rows_refused f s before n = refused_on (rows_after f before n) (rows_steady f s before n)

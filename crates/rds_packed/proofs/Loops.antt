-- Reading parts one after the other, as a loop does.
use Rattle.std.proofs.Common.{◌≡◌, ℕ, suc, ◌-◌, ◌+◌, ◌≤◌, ◌<◌, List, [], ◌∷◌, ◌++◌, Result, Ok, Err, refl, sym, ◌∙◌, arith}
use Rattle.rds_names.specs.declared.fault.Fault.{Fault}
use Rattle.rds_names.specs.declared.fault.Fault.TheVariants as fault
use Rattle.rds_bytes.specs.Reading.{Reader, Fails, rows_after}

-- what fails for a part fails for all that follows from its fault
pub fails_on : {Y Z : Type 0} (e : Fault) (r : Result Y Fault) (s : Result Z Fault) → (r ≡ Err e → s ≡ Err e) → Fails e r → Fails e s
fails_on fault.Memory r s go h = tt
fails_on _ r s go h = go h

module _ {A : Type 0} (f : List A → Reader A) (before : List A) (count i : ℕ) (bytes : List ℕ) (total : Result (List A × List ℕ) Fault) where
  pub goes_on : (a : A) (after : List ℕ) → i < count → f before bytes ≡ Ok (a, after)
      → rows_after f before (count - i) bytes ≡ total → rows_after f (before ++ a ∷ []) (count - (i + 1)) after ≡ total
  unfolding rows_after
  goes_on a after lt h so_far =
      let k : count - i ≡ suc (count - (i + 1)) = omega arith in
      let one : rows_after f before (count - i) bytes ≡ rows_after f (before ++ a ∷ []) (count - (i + 1)) after = rw (k, h) refl in
      sym one ∙ so_far

  pub fault_ends : (e : Fault) → i < count → f before bytes ≡ Err e → rows_after f before (count - i) bytes ≡ total → total ≡ Err e
  unfolding rows_after
  fault_ends e lt h so_far =
      let k : count - i ≡ suc (count - (i + 1)) = omega arith in
      let one : rows_after f before (count - i) bytes ≡ Err e = rw (k, h) refl in
      sym so_far ∙ one

  pub ends : (e : Fault) → i < count → Fails e (f before bytes) → rows_after f before (count - i) bytes ≡ total → Fails e total
  ends e lt h so_far = fails_on e (f before bytes) total (λ err. fault_ends e lt err so_far) h

  pub is_done : count ≤ i → rows_after f before (count - i) bytes ≡ total → total ≡ Ok (before, bytes)
  unfolding rows_after
  is_done le so_far =
      let k : count - i ≡ 0 = omega arith in
      let one : rows_after f before (count - i) bytes ≡ Ok (before, bytes) = rw k refl in
      sym so_far ∙ one

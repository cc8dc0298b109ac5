-- A row of a set of dots is read in two steps: what it begins with, and then its gaps.
use Rattle.std.proofs.Common.{◌≡◌, ℕ, List, Result, Ok, Err, refl}
use Rattle.std.specs.Int.{w32, w64}
use Rattle.rds_names.specs.declared.fault.Fault.{Fault}
use Rattle.rds_dots.specs.declared.dot.TheConstants.{MAX_SEQ}
use Rattle.rds_bytes.specs.declared.dots.Gap.{Gap}
use Rattle.rds_bytes.specs.declared.dots.DotRow.{DotRow}
use Rattle.rds_bytes.specs.Reading.{◌>>=◌, Reader, then_at, pair_at, made_at, when_at, byte_at, number_at, is_between, last, least_replica, is_next_replica, gaps_at, numbers_at, dot_row_by, dot_row_at, row_head_by, row_head_at, row_gaps_at, row_by}

module _ (f t c : Reader ℕ) (g : ℕ → ℕ → Reader (List Gap)) (bytes : List ℕ) where
  abbrev IsInSteps : Type 0
  IsInSteps = made_at dot_row_by (pair_at f (then_at t (λ top rest. c rest >>= λ n. g top n.0 n.1))) bytes
      ≡ made_at row_by (then_at (made_at row_head_by (pair_at f (pair_at t c))) (λ h. g h.top h.gaps)) bytes

  by_gaps : (x y z : ℕ × List ℕ) → f bytes ≡ Ok x → t x.1 ≡ Ok y → c y.1 ≡ Ok z → (r : Result (List Gap × List ℕ) Fault) → g y.0 z.0 z.1 ≡ r → IsInSteps
  by_gaps x y z p q s (Ok v) h = rw (p, q, s, h) refl
  by_gaps x y z p q s (Err e) h = rw (p, q, s, h) refl

  by_count : (x y : ℕ × List ℕ) → f bytes ≡ Ok x → t x.1 ≡ Ok y → (r : Result (ℕ × List ℕ) Fault) → c y.1 ≡ r → IsInSteps
  by_count x y p q (Ok z) h = by_gaps x y z p q h (g y.0 z.0 z.1) refl
  by_count x y p q (Err e) h = rw (p, q, h) refl

  by_top : (x : ℕ × List ℕ) → f bytes ≡ Ok x → (r : Result (ℕ × List ℕ) Fault) → t x.1 ≡ r → IsInSteps
  by_top x p (Ok y) h = by_count x y p h (c y.1) refl
  by_top x p (Err e) h = rw (p, h) refl

  in_steps : (r : Result (ℕ × List ℕ) Fault) → f bytes ≡ r → IsInSteps
  in_steps (Ok x) h = by_top x h (t x.1) refl
  in_steps (Err e) h = rw h refl

pub row_in_steps : (replicas : ℕ) (before : List DotRow) (bytes : List ℕ)
    → dot_row_at replicas before bytes ≡ made_at row_by (then_at (row_head_at replicas (least_replica (last before))) (λ h. row_gaps_at h.top h.gaps)) bytes
unfolding dot_row_at numbers_at gaps_at row_head_at
row_in_steps replicas before bytes =
    let f : Reader ℕ = when_at (is_next_replica replicas (least_replica (last before))) byte_at in
    in_steps f (when_at (is_between 1 MAX_SEQ) (number_at w64)) (number_at w32) row_gaps_at bytes (f bytes) refl

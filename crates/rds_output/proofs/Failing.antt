-- A call that failed is counted.
use Rattle.std.proofs.Common.{◌≡◌, ◌<◌, ◌-◌, ◌^◌, ◌⊎◌, ℕ, inl, inr, arith}
use Rattle.std.proofs.lemmas.Bool.{cases_lt}
use Rattle.rds_keep.specs.Counted.{one_more}

pub failed_by : (old now new : ℕ) → now ≡ old → new ≡ one_more now → (old < new) ⊎ (new ≡ 2 ^ 64 - 1)
failed_by old now new same more = elim (cases_lt old (2 ^ 64 - 1)) [
  | inl less ↦ inl (omega (arith, less, same, more))
  | inr full ↦ inr (omega (arith, full, same, more))
]

-- A reader or a writer, how many calls on it failed, how many reads a loop may make and the one at hand still may, and
-- whether it was renamed.
use Rattle.std.specs.Prelude.{◌≡◌, ◌+◌, ◌-◌, ◌*◌, ◌^◌, ◌<◌, ◌⊎◌, ℕ, Bool, min, refl}
use Rattle.std.specs.Coded.{Coded, code_by, coded×, coded_bool, coded_ℕ}

pub record CountedValue (T : Type 0) : Type 0 where
  pub inner : T
  pub failed : ℕ
  pub budget : ℕ
  pub left : ℕ
  pub renamed : Bool

abbrev pub counted_code : {T : Type 0} → Coded T → Coded (CountedValue T)
counted_code {T} code =
    code_by (T × (ℕ × (ℕ × (ℕ × Bool)))) (coded× code (coded× coded_ℕ (coded× coded_ℕ (coded× coded_ℕ coded_bool))))
    (λ c. (c.inner, (c.failed, (c.budget, (c.left, c.renamed)))))
    (λ p. record { inner = p.0; failed = p.1.0; budget = p.1.1.0; left = p.1.1.1.0; renamed = p.1.1.1.1 }) (λ _. refl)

-- one more, up to the greatest number
abbrev pub one_more : ℕ → ℕ
one_more n = min (n + 1) (2 ^ 64 - 1)

-- a call has failed, or a loop had no turn left; a full count is taken as risen
abbrev pub HasFailed : {T : Type 0} → CountedValue T → CountedValue T → Type 0
HasFailed old new = (old.failed < new.failed) ⊎ (new.failed ≡ 2 ^ 64 - 1)

-- how many bytes so many reads of a loop give at most
abbrev pub most_read : ℕ → ℕ
most_read reads = 65536 * reads

-- Rows, one after the other.
use Rattle.std.proofs.Common.{◌≡◌, ℕ, suc, ◌-◌, ◌<◌, ◌≤◌, inl, inr, List, ◌++◌, Result, Ok, Err, refl, sym, ap, ◌∙◌, arith}
use Rattle.rds_names.specs.declared.fault.Fault.{Fault}
use Rattle.rds_bytes.specs.Reading.{◌>>=◌, Reader}
use Rattle.rds_feeds.specs.Chained.{chain}
use Rattle.rds_names.specs.declared.fault.Fault.TheVariants.{Cut}
use Rattle.rds_feeds.specs.declared.unfinished.Progress.TheVariants.{More, Whole}
use Rattle.rds_feeds.specs.Pieces.{ReadsOn, RefusesAlready}
use Rattle.rds_feeds.specs.Rows.{times}

module _ {V : Type 0} (next : V → Reader V) where
  one_of : (n : ℕ) (rows : V) (bytes : List ℕ) → times next (suc n) rows bytes ≡ chain (next rows) (times next n) bytes
  unfolding times
  one_of n rows bytes = refl

  pub one_more : (left : ℕ) (rows : V) (bytes : List ℕ) → 0 < left → times next left rows bytes ≡ chain (next rows) (times next (left - 1)) bytes
  one_more left rows bytes more = let k : left ≡ suc (left - 1) = omega arith in ap (λ (n : ℕ). times next n rows bytes) k ∙ one_of (left - 1) rows bytes

  pub none_left : (left : ℕ) (rows : V) (bytes : List ℕ) → left ≤ 0 → times next left rows bytes ≡ Ok (rows, bytes)
  unfolding times
  none_left left rows bytes none = let k : left ≡ 0 = omega arith in rw k refl

-- a row is begun, where so many are left
module _ {U V : Type 0} (next : V → Reader V) (finish : U → Reader V) (total : Reader V) (left : ℕ) (rows : V) (rest : List ℕ) (u : U)
    (so_far : (more : List ℕ) → total more ≡ times next left rows (rest ++ more)) (some : 0 < left) (again : (more : List ℕ) → finish u more ≡ next rows more) where
  begun : (more : List ℕ) → total more ≡ chain (finish u) (times next (left - 1)) (rest ++ more)
  begun more = so_far more ∙ one_more next left rows (rest ++ more) some ∙ ap (λ (r : Result (V × List ℕ) Fault). r >>= λ x. times next (left - 1) x.0 x.1) (sym (again (rest ++ more)))

  pub row_waits : (later : U) (after : List ℕ) → ReadsOn finish (λ more. finish u (rest ++ more)) (More later) after
      → ((more : List ℕ) → total more ≡ chain (finish later) (times next (left - 1)) (after ++ more)) × (chain (finish later) (times next (left - 1)) after ≡ Err Cut)
  row_waits later after r =
      (λ more. begun more ∙ ap (λ (y : Result (V × List ℕ) Fault). y >>= λ x. times next (left - 1) x.0 x.1) (r.0 more), ap (λ (y : Result (V × List ℕ) Fault). y >>= λ x. times next (left - 1) x.0 x.1) r.1)

  pub row_whole : (v : V) (after : List ℕ) → ReadsOn finish (λ more. finish u (rest ++ more)) (Whole v) after → (more : List ℕ) → total more ≡ times next (left - 1) v (after ++ more)
  row_whole v after r more = begun more ∙ ap (λ (y : Result (V × List ℕ) Fault). y >>= λ x. times next (left - 1) x.0 x.1) (r more)

  pub row_refused : (e : Fault) → RefusesAlready (λ more. finish u (rest ++ more)) e → RefusesAlready total e
  row_refused e r = elim r [
    | inl memory ↦ inl memory
    | inr ever ↦ inr (ever.0, λ more. begun more ∙ ap (λ (y : Result (V × List ℕ) Fault). y >>= λ x. times next (left - 1) x.0 x.1) (ever.1 more))
  ]

-- Counters behind a text of which the length is known as far as a number can say it.
use Rattle.std.proofs.Common.{◌≡◌, ◌^◌, ℕ, ◌+◌, ◌<◌, ◌≤◌, inl, inr, cond, List, [], ◌∷◌, ◌++◌, length, ◌∙◌, ap, arith, length-append}
use Rattle.std.specs.List.{flat_map}
use Rattle.std.proofs.lemmas.Bool.{cases_lt, le-ltb, lt-ltb}
use Rattle.std.proofs.lemmas.List.Concat.{flat_map-cons}
use Rattle.rds_counts.specs.declared.row.CountRow.{CountRow}
use Rattle.rds_counts.specs.Counted.{Counted}
use Rattle.rds_counts.specs.RowsOf.{count_rows}
use Rattle.rds_bytes.specs.Spelling.{count_row_text, counters_text}
use Rattle.rds_codec.specs.declared.limits.TheConstants.{LIMIT}
use Rattle.rds_briefs.specs.Texts.{capped}

longer : (rows : List CountRow) → length rows ≤ length (flat_map count_row_text rows)
longer [] = omega arith
longer (r ∷ rows) =
    let e = ap length (flat_map-cons count_row_text r rows) ∙ length-append (count_row_text r) (flat_map count_row_text rows) in
    let again = longer rows in omega arith

pub counts_within : (m : Counted) → length (counters_text m) ≤ LIMIT → length (count_rows m) < 2 ^ 32
unfolding counters_text
counts_within m le = (let e = longer (count_rows m) in omega arith)

module _ (x c : ℕ) (t more : List ℕ) (len : x ≡ capped (length t)) (counted : c ≡ length more) where
  pub too_long : LIMIT < x + c → LIMIT < length (t ++ more)
  too_long gt =
      let all = length-append t more in
      elim (cases_lt (length t) 18446744073709551615) [
        | inl lt ↦ (let e = ap (λ b. cond b (length t) 18446744073709551615) (lt-ltb (length t) 18446744073709551615 lt) in omega (arith, e, len, all, gt, counted))
        | inr ge ↦ omega (arith, ge, all)
      ]

  pub not_long : x + c ≤ LIMIT → length (t ++ more) ≤ LIMIT
  not_long le =
      let all = length-append t more in
      elim (cases_lt (length t) 18446744073709551615) [
        | inl lt ↦ (let e = ap (λ b. cond b (length t) 18446744073709551615) (lt-ltb (length t) 18446744073709551615 lt) in omega (arith, e, len, all, le, counted))
        | inr ge ↦ (let e = ap (λ b. cond b (length t) 18446744073709551615) (le-ltb (length t) 18446744073709551615 ge) in absurd (omega (arith, e, len, le)))
      ]

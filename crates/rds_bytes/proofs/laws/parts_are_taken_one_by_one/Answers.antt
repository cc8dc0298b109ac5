use Rattle.std.proofs.Common.{ap, arith, ◌∙◌, ◌+◌, ◌++◌, ◌≡◌, ℕ, suc}
use Rattle.rds_bytes.specs.Reading.{rows_after}
use Rattle.rds_bytes.proofs.SteadyRows.{row_taken, rows_refused}
use Rattle.rds_bytes.proofs.laws.parts_are_taken_one_by_one.Goals as goal

pub returns : goal.returns
returns g c = record {
  taken = λ r before n part rest after e more. (
      let next : n + 1 ≡ suc n = omega arith in
      ap (λ (k : ℕ). rows_after (g.R.PartReader.reader r) before k (rest ++ more)) next
      ∙ row_taken (g.R.PartReader.reader r) (g.met.R.PartReader.steady r) before n part rest after e more);
  refused = λ r. rows_refused (g.R.PartReader.reader r) (g.met.R.PartReader.steady r);
}

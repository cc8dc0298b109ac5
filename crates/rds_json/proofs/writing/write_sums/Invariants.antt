use Rattle.std.proofs.Common.{◌≡◌, ◌++◌, drop}
use Rattle.serde_json.specs.Data.{number}
use Rattle.serde_json.specs.Find.{of_integer}
use Rattle.rds_json.specs.Show.{sums_data}
use Rattle.rds_json.specs.Written.{data_tokens}
use Rattle.rds_json.proofs.Tokens.{rows_tokens}
use Rattle.rds_json.proofs.writing.write_sums.Given as goal

-- the tokens so far, with those of the rows that are left
abbrev pub invariant-loop-row : goal.invariant-loop-row
invariant-loop-row l = record {
  before : l.out.before ≡ l.fn.out.before;
  told : l.out.tokens ++ rows_tokens (λ z. number (of_integer z)) (drop l.row-index l.rows) ≡ l.fn.out.tokens ++ data_tokens (sums_data l.rows);
}

use Rattle.std.proofs.Common.{◌≡◌, ◌++◌, drop}
use Rattle.rds_json.specs.Show.{scalars_data, values_data}
use Rattle.rds_json.specs.Written.{data_tokens}
use Rattle.rds_json.proofs.Tokens.{rows_tokens}
use Rattle.rds_json.proofs.writing.write_values.Given as goal

-- the tokens so far, with those of the rows that are left
abbrev pub invariant-loop-row : goal.invariant-loop-row
invariant-loop-row l = record {
  before : l.out.before ≡ l.fn.out.before;
  told : l.out.tokens ++ rows_tokens scalars_data (drop l.row-index l.rows) ≡ l.fn.out.tokens ++ data_tokens (values_data l.rows);
}

use Rattle.std.proofs.Common.{◌≡◌, ◌++◌, drop, map}
use Rattle.json.specs.Tree.{items_tokens}
use Rattle.serde_json.specs.View.{items_of}
use Rattle.serde_json.specs.Written.{items_outline}
use Rattle.rds_json.specs.Show.{scalar_data, scalars_data}
use Rattle.rds_json.specs.Written.{data_tokens}
use Rattle.rds_json.proofs.writing.write_scalars.Given as goal

-- the tokens so far, with those of the values that are left
abbrev pub invariant-loop-scalar : goal.invariant-loop-scalar
invariant-loop-scalar l = record {
  before : l.out.before ≡ l.fn.out.before;
  told : l.out.tokens ++ items_tokens (items_outline (items_of (map scalar_data (drop l.scalar-index l.scalars)))) ≡ l.fn.out.tokens ++ data_tokens (scalars_data l.scalars);
}

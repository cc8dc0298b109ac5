use Rattle.std.proofs.Common.{◌≡◌, ◌++◌, drop, map}
use Rattle.json.specs.Tree.{items_tokens}
use Rattle.serde_json.specs.Data.{string}
use Rattle.serde_json.specs.View.{items_of}
use Rattle.serde_json.specs.Written.{items_outline}
use Rattle.rds_json.specs.Texts.{texts_data}
use Rattle.rds_json.specs.Written.{data_tokens}
use Rattle.rds_json.proofs.texts.write_names.Given as goal

-- the tokens so far, with those of the names that are left
abbrev pub invariant-loop-name : goal.invariant-loop-name
invariant-loop-name l = record {
  before : l.out.before ≡ l.fn.out.before;
  told : l.out.tokens ++ items_tokens (items_outline (items_of (map string (drop l.name-index l.names)))) ≡ l.fn.out.tokens ++ data_tokens (texts_data l.names);
}

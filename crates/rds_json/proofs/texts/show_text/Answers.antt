use Rattle.std.proofs.Common.{rules}
use Rattle.std.proofs.lemmas.Result.{IfOk-weaker}
use Rattle.serde_json.specs.Data.{string}
use Rattle.rds_json.proofs.texts.show_text.Goals as goal

pub returns-clause-ok : goal.returns-clause-ok
returns-clause-ok c = IfOk-weaker c.text_of.result _ _ (λ text tells. tells (string c.args.text.now) (search rules)) c.text_of.ensures.ok

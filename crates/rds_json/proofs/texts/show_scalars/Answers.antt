use Rattle.std.proofs.Common.{rules}
use Rattle.std.proofs.lemmas.Result.{IfOk-weaker}
use Rattle.rds_json.specs.Show.{scalars_data}
use Rattle.rds_json.proofs.texts.show_scalars.Goals as goal

pub returns-clause-ok : goal.returns-clause-ok
returns-clause-ok c = IfOk-weaker c.text_of.result _ _ (λ text tells. tells (scalars_data c.args.scalars.now) (search rules)) c.text_of.ensures.ok

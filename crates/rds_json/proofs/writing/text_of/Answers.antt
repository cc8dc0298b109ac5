use Rattle.std.proofs.Common.{ℕ, Vec, ◌++◌, ap, ◌∙◌}
use Rattle.std.specs.Global.{Global}
use Rattle.json.specs.Print.{print}
use Rattle.serde_json.proofs.Texts.{print-outline}
use Rattle.rds_json.proofs.writing.text_of.Goals as goal

pub returns-clause-ok : goal.returns-clause-ok
returns-clause-ok c = λ d is.
    ap (λ (v : Vec ℕ Global). v.items) c.in-Ok.ensures.ok ∙ c.into_inner.ensures.items ∙ ap (λ bs. bs ++ print c.args.out.tokens) c.requires ∙ ap print is ∙ print-outline d

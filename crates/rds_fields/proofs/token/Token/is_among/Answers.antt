use Rattle.std.proofs.Common.{◌==◌, rules}
use Rattle.std.proofs.lemmas.Iterator.Search.{any_from_yields_List}
use Rattle.std.proofs.lemmas.Iterator.Splits.{YieldsList-from_slice_split}
use Rattle.rds_fields.proofs.token.Token.is_among.Goals as goal

pub returns : goal.returns
returns c =
    any_from_yields_List _ _ _ _ c.any.ensures.ran
    (YieldsList-from_slice_split _ (λ b. b == 59) c.args.cookies.now c.split.ensures.rest c.split.ensures.done c.split.ensures.closure (λ x b q k. search rules))
    (λ x b q k. search rules)

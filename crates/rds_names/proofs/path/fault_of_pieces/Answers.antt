use Rattle.std.proofs.Common.{◌≡◌, ◌∙◌, sym, ap, cond, lit<, rules}
use Rattle.std.specs.List.{list_all}
use Rattle.std.proofs.lemmas.Iterator.Splits.{YieldsList-from_str_split}
use Rattle.std.proofs.lemmas.Iterator.Search.{all_from_yields_List}
use Rattle.rds_names.specs.declared.fault.Fault.TheVariants.{Memory, BadKey}
use Rattle.rds_names.specs.Key.{is_key}
use Rattle.rds_names.specs.Path.{segments}
use Rattle.rds_names.proofs.path.fault_of_pieces.Goals.{After-all}
use Rattle.rds_names.proofs.path.fault_of_pieces.Goals as goal

tested : (c : After-all) → c.all.result ≡ list_all is_key (segments c.args.text.now)
tested c = all_from_yields_List is_key _ _ _ c.all.ensures.ran (YieldsList-from_str_split 47 c.args.text.now (lit< tt) c.split.ensures.text c.split.ensures.has_more c.split.ensures.pattern) (λ x b q called. search rules)

pub returns-then-all : goal.returns-then-all
returns-then-all c = ap (λ b. cond b Memory BadKey) (sym c.if-all.true ∙ tested (goal.at.returns-then-all c).After-all)

pub returns-else-all : goal.returns-else-all
returns-else-all c = ap (λ b. cond b Memory BadKey) (sym c.if-all.false ∙ tested (goal.at.returns-else-all c).After-all)

use Rattle.std.proofs.Common.{◌∙◌, rules}
use Rattle.std.proofs.lemmas.Fn.{always_returns_same}
use Rattle.rds_counts.specs.declared.row.CountRow.{CountRow}
use Rattle.rds_names.specs.Key.{key_cmp}
use Rattle.rds_tree.proofs.UnderKey.{searched}
use Rattle.rds_tree.proofs.one_key.has_key.Goals as goal

pub returns : goal.returns
returns c =
    c.is_ok.ensures.value
    ∙ searched c.args.key.now c.args.rows.now c.requires.rise c.binary_search_by.result c.binary_search_by.ensures.bound
    (c.binary_search_by.ensures.position (λ (r : CountRow). key_cmp r.key c.args.key.now) (always_returns_same _ _ _ (λ a r g called. search rules)))

use Rattle.std.proofs.Common.{◌∙◌, ◌++◌, [], ◌∷◌, ap, sym, codes, List, ℕ}
use Rattle.std.specs.Prelude.{string_bytes}
use Rattle.rds_listing.specs.Differences.{begins_with_leaf, only_line}
use Rattle.rds_listing.proofs.Merged.{one_told}
use Rattle.rds_listing.proofs.differing.push_second.Goals as goal

pub returns-clause-text : goal.returns-clause-text
returns-clause-text c =
    c.in_ok-push_line.ensures.text
    ∙ ap (λ (l : List ℕ). string_bytes c.args.text.now ++ (l ++ 10 ∷ [])) (c.as_str.ensures.value ∙ c.in_ok-only_line.ensures.text)
    ∙ sym (one_told (begins_with_leaf c.args.leaf.now c.args.rest.now) (only_line (codes "second") c.args.leaf.now) (string_bytes c.args.text.now) (sym c.is_met.ensures ∙ c.if-is_met.false))

use Rattle.std.proofs.Common.{◌≡◌, ◌∙◌, ◌++◌, List, ℕ, ap, drop, sym, take}
use Rattle.std.proofs.lemmas.List.{take-append-drop}
use Rattle.rds_fields.specs.Tags.{tag_text}
use Rattle.rds_fields.proofs.tags.split_tag.Goals as goal

pub returns : goal.returns
returns c =
    sym (take-append-drop 99 c.args.bytes.now)
    ∙ ap (λ front. front ++ drop 99 c.args.bytes.now) (sym c.in_ok-text.ensures.cases.1 ∙ c.in_ok-parse_tag.ensures.some)
    ∙ ap (λ rest. tag_text c.in_ok-parse_tag.field-0 ++ rest) (sym c.in_ok-text.ensures.cases.2)

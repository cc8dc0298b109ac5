use Rattle.std.proofs.Common.{◌≡◌, ◌∙◌, ◌++◌, ◌∷◌, [], ap, map, rules, List, ℕ}
use Rattle.std.specs.Prelude.{string_bytes}
use Rattle.rds_listing.specs.Differences.{first_line}
use Rattle.rds_listing.specs.Pieces.{lines_text}
use Rattle.rds_listing.proofs.Merged.{line_at}
use Rattle.rds_listing.proofs.sums.push_firsts.Goals as goal

pub loop-row-preserved : goal.loop-row-preserved
loop-row-preserved c =
    let said : string_bytes c.in_ok-first_line.field-0 ≡ first_line c.row-item.result = search rules in
    line_at first_line c.args.rows.now c.loop-row.row-index c.row-item.result (string_bytes c.loop-row.text) (string_bytes c.push_line.new.text)
    (string_bytes c.args.text.now ++ lines_text (map first_line c.args.rows.now)) c.loop-row-test.true c.row-item.is c.loop-row.invariant
    (c.in_ok-push_line.ensures.text ∙ ap (λ (l : List ℕ). string_bytes c.loop-row.text ++ (l ++ 10 ∷ [])) (c.as_str.ensures.value ∙ said))

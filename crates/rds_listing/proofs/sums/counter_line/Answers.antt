use Rattle.std.proofs.Common.{◌≡◌, ◌∙◌, ◌++◌, ap, codes, rules, List, ℕ}
use Rattle.std.specs.Prelude.{string_bytes}
use Rattle.serde_json.specs.Data.{string}
use Rattle.serde_json.specs.Written.{compact_text}
use Rattle.rds_listing.specs.Differences.{counter_sum_text}
use Rattle.rds_listing.proofs.sums.counter_line.Goals as goal

pub returns-clause-text : goal.returns-clause-text
returns-clause-text c =
    let key : string_bytes c.in_ok-key.key ≡ compact_text (string c.args.key.now) = c.in_ok-key.ensures.ok ∙ ap (λ (t : List ℕ). compact_text (string t)) c.as_str.ensures.text in
    let first : string_bytes c.in_ok-first.first ≡ counter_sum_text c.args.first = search rules in
    let second : string_bytes c.in_ok-second.second ≡ counter_sum_text c.args.second = search rules in
    c.in_ok-format.ensures.ok
    ∙ (λ i. codes "{\"path\":" ++ (key i ++ (codes ",\"kind\":\"counter\",\"first\":" ++ (first i ++ (codes ",\"second\":" ++ (second i ++ codes "}"))))))

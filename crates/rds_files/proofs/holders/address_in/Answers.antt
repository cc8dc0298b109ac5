use Rattle.std.proofs.Common.{◌≡◌, ◌++◌, ◌∙◌, Some, ap, codes, rules, sym}
use Rattle.std.proofs.lemmas.Bool.Decides.{Decides-eqb}
use Rattle.std.proofs.lemmas.Slice.Eq.{strip_prefix_is}
use Rattle.std.proofs.lemmas.Str.Pattern.{split_parts}
use Rattle.rds_files.proofs.holders.address_in.Goals as goal

pub returns-then-is_address : goal.returns-then-is_address
returns-then-is_address c =
    let note = c.args.note.now in
    let rest = c.in_ok-rest.rest in
    let text = c.in-Ok.text.now in
    let address = c.in_ok-address.address in
    let behind = c.in_ok-address.field-0-1 in
    let start : note ≡ codes "rds_node " ++ rest.now =
    strip_prefix_is Decides-eqb note (codes "rds_node ") (Some rest) c.in_ok-rest.ensures.cases in
    let same : rest.now ≡ text = sym c.in-Ok.ensures.cases.0 in
    let parts = split_parts 10 text (Some (address, behind)) c.in_ok-address.ensures.cases (search rules) in
    record {
      told = record {
        rest = behind.now;
        whole = search rules;
        spelled = start ∙ ap (λ r. codes "rds_node " ++ r) (same ∙ parts.0);
        shown = search rules;
      };
    }

use Rattle.std.proofs.Common.{◌≡◌, ◌∙◌, ℕ, List, ap, arith}
use Rattle.std.proofs.lemmas.List.{length-drop}
use Rattle.rds_packed.specs.FrontTexts.{shared}
use Rattle.rds_packed.proofs.FrontLaws.{shared_most}
use Rattle.rds_packed.proofs.fronts.front_length.Goals as goal

pub returns-clause-length : goal.returns-clause-length
returns-clause-length c =
    let before = c.args.before.now in
    let key = c.args.key.now in
    let n = shared before key in
    let is : c.shared-count.result ≡ n = c.shared-count.ensures.shared ∙ ap (λ (t : List ℕ). shared before t) c.as_bytes.ensures.bytes in
    omega (arith, is, length-drop n key, (shared_most before key).1, c.key_length.ensures.length)

use Rattle.std.proofs.Common.{◌++◌, ◌∙◌, ap, refl}
use Rattle.std.specs.Prelude.{string_bytes}
use Rattle.rds_listing.specs.Differences.{leaf_lines, only_first, only_second, behind, before, from}
use Rattle.rds_listing.specs.Pieces.{lines_text}
use Rattle.rds_listing.proofs.Merged.{step_at}
use Rattle.rds_listing.proofs.differing.push_differing.Goals as goal

pub loop-leaf-preserved : goal.loop-leaf-preserved
loop-leaf-preserved c =
    let leaf = c.leaf-item.result in
    let rest = c.loop-leaf.rest.now in
    rw (c.behind-rest.ensures, c.split_before.ensures.from) (step_at leaf_lines rest (behind leaf (from leaf rest)) c.args.seconds.now c.loop-leaf.leaf-index leaf
    (only_first (before leaf rest)) (only_second leaf (from leaf rest))
    (string_bytes c.loop-leaf.text) (string_bytes c.push_only.new.text) (string_bytes c.push_second.new.text)
    (string_bytes c.args.text.now ++ lines_text (leaf_lines c.args.firsts.now c.args.seconds.now))
    c.loop-leaf-test.true c.leaf-item.is (λ later. refl) c.loop-leaf.invariant
    (c.in_ok-push_only.ensures.text ∙ ap (λ ls. string_bytes c.loop-leaf.text ++ lines_text (only_first ls)) c.split_before.ensures.before)
    (c.in_ok-push_second.ensures.text ∙ ap (λ ls. string_bytes c.push_only.new.text ++ lines_text (only_second leaf ls)) c.split_before.ensures.from))

use Rattle.std.proofs.Common.{◌∙◌, ap, sym, refl}
use Rattle.rds_life.specs.Life.{lives_of, seen_of, live_rows}
use Rattle.rds_life.proofs.Views.{lived_of_parts}
use Rattle.rds_state.proofs.sameness.are_same_lives.Goals as goal

pub returns-then-same : goal.returns-then-same
returns-then-same g c =
    let a = c.args.left.now in
    let b = c.args.right.now in
    let seen = sym c.seen.ensures ∙ c.if-same.ensures.0 refl ∙ c.seen-2.ensures in
    let left = c.live.ensures.rows in
    let right = c.live-then-same.ensures.rows in (
      λ t. (let rows = sym left ∙ c.are_same_rows.ensures.0 t ∙ right in sym (lived_of_parts a) ∙ ap (λ s. lives_of s (live_rows a)) seen ∙ ap (lives_of (seen_of b)) rows ∙ lived_of_parts b),
      λ e. c.are_same_rows.ensures.1 (left ∙ ap live_rows e ∙ sym right),
    )

use Rattle.std.proofs.Common.{◌∙◌, rules}
use Rattle.std.proofs.lemmas.List.Sorted.{answers_always}
use Rattle.rds_dots.specs.Dots.{first_of}
use Rattle.rds_dots.specs.Lacking.{dot_of}
use Rattle.rds_delta.proofs.LineLemmas.{rise_behind, lives_behind}
use Rattle.rds_delta.proofs.killed.live_until.Goals as goal

pub in_line-requires-clause-rise : goal.in_line-requires-clause-rise
in_line-requires-clause-rise g c =
    let here = c.in-Ok.ensures.position (λ row. row.0) (answers_always _ _ _ (λ f a r g called. search rules)) in
    rise_behind c.args.lives.now c.in-Some-as_slice.rows.now (c.in-Some-as_slice.ensures ∙ c.live.ensures.rows) c.in-Ok.at (first_of c.args.run) c.in-Ok.ensures.bound here c.split_at.result.1.now c.split_at.ensures.back

pub returns-in-Ok-clause-live : goal.returns-in-Ok-clause-live
returns-in-Ok-clause-live g c = λ n a b.
    lives_behind c.args.lives.now c.in-Some-as_slice.rows.now (c.in-Some-as_slice.ensures ∙ c.live.ensures.rows) _ c.split_at.result.1.now c.split_at.ensures.back (dot_of c.args.run.replica n) (c.in_line.ensures.live n a b)

use Rattle.std.proofs.Common.{ℕ, length, ap, ◌∙◌}
use Rattle.std.specs.FinSet as set
use Rattle.rds_dots.specs.Dots.{Dots}
use Rattle.rds_life.specs.Life.{live_rows}
use Rattle.rds_bytes.specs.Packed.{packed_text}
use Rattle.rds_packed.proofs.NumbersSpelled.{live_dots_step, lives_measured}
use Rattle.rds_packed.proofs.rows.packed_lives_length.Goals as goal

pub rows_length-requires-clause-dots : goal.rows_length-requires-clause-dots
rows_length-requires-clause-dots g c =
    live_dots_step c.args.lives.now (λ d has. g.met.S.DotSet.within c.seen-seen.result.now d (ap (λ (s : Dots). set.contains s d) c.seen-seen.ensures ∙ has))

pub returns-clause-length : goal.returns-clause-length
returns-clause-length g c = λ table more are. (
    let count = c.count_length.ensures.length ∙ ap (λ (n : ℕ). length (packed_text n)) c.live_len.ensures in
    lives_measured table (live_rows c.args.lives.now) more c.args.numbers.now are c.count_length.result c.rows_length.result count c.rows_length.ensures.length)

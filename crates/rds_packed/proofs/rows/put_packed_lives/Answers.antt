use Rattle.std.proofs.Common.{ℕ, ◌++◌, ap, ◌∙◌}
use Rattle.std.specs.FinSet as set
use Rattle.rds_dots.specs.Dots.{Dots}
use Rattle.rds_life.specs.Life.{live_rows}
use Rattle.rds_bytes.specs.Packed.{packed_text}
use Rattle.rds_packed.proofs.NumbersSpelled.{live_dots_step, lives_added}
use Rattle.rds_packed.proofs.rows.put_packed_lives.Goals as goal

pub put_rows-requires-clause-dots : goal.put_rows-requires-clause-dots
put_rows-requires-clause-dots g c =
    live_dots_step c.args.lives.now (λ d has. g.met.S.DotSet.within c.seen-seen.result.now d (ap (λ (s : Dots). set.contains s d) c.seen-seen.ensures ∙ has))

pub returns-clause-text : goal.returns-clause-text
returns-clause-text g c = λ table more are. (
    let count = c.in_ok-put_packed.ensures ∙ ap (λ (n : ℕ). c.args.out.now.items ++ packed_text n) c.live_len.ensures in
    lives_added table (live_rows c.args.lives.now) more c.args.numbers.now are c.put_rows.result c.args.out.now.items c.put_packed.new.out.items c.put_rows.new.out.items count c.put_rows.ensures.text)

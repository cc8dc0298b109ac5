use Rattle.std.proofs.Common.{[], ◌∷◌, subst, sym, ◌∙◌, arith}
use Rattle.rds_briefs.specs.Lives.{lives_in}
use Rattle.rds_briefs.specs.BriefTexts.{lengths_text, bits_text}
use Rattle.rds_briefs.specs.Texts.{Extends}
use Rattle.rds_briefs.proofs.Putting.{extends_then}
use Rattle.rds_briefs.proofs.Shorter.{by_lengths, by_bits}
use Rattle.rds_briefs.proofs.writing.put_lives.Goals as goal

pub returns-then-length-count : goal.returns-then-length-count
returns-then-length-count g c =
    let f = lives_in (g.S.DotSet.contents c.args.live.now) c.args.first.replica in
    let seq = c.args.first.seq in
    let count = c.args.count in
    let counted = (c.put_lengths.ensures [] c.counted-lengths.ensures).length in
    let is = by_lengths f seq count c.length.result (c.length.ensures ∙ counted) c.if-length-count.true (omega (arith, c.ranges.count)) in
    let last = c.put_lengths-then-length-count.new.text in
    subst (Extends c.args.text.now last) (sym is) (extends_then c.args.text.now c.put_byte.new.self last (0 ∷ []) (lengths_text f seq count) c.put_byte.ensures c.put_lengths-then-length-count.ensures)

pub returns : goal.returns
returns g c =
    let f = lives_in (g.S.DotSet.contents c.args.live.now) c.args.first.replica in
    let seq = c.args.first.seq in
    let count = c.args.count in
    let counted = (c.put_lengths.ensures [] c.counted-lengths.ensures).length in
    let is = by_bits f seq count c.length.result (c.length.ensures ∙ counted) (omega (arith, c.if-length-count.false)) in
    let last = c.put_bits.new.text in
    subst (Extends c.args.text.now last) (sym is) (extends_then c.args.text.now c.put_byte-else-length-count.new.self last (1 ∷ []) (bits_text f seq count) c.put_byte-else-length-count.ensures c.put_bits.ensures)

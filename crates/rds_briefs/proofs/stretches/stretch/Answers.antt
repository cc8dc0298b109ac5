use Rattle.std.proofs.Common.{◌≡◌, ◌+◌, ◌-◌, not, ap, sym, ◌∙◌, arith}
use Rattle.rds_briefs.specs.Lives.{lives_in}
use Rattle.rds_briefs.proofs.StretchLemmas.{stretch_is, stretch_none, differs, agrees}
use Rattle.rds_briefs.proofs.stretches.stretch.Goals as goal

pub returns-then-alike-is_live : goal.returns-then-alike-is_live
returns-then-alike-is_live g c =
    let f = lives_in (g.S.DotSet.contents c.args.live.now) c.args.first.replica in
    let alike = c.stretch_from-alike.ensures in
    let from = alike.from in
    sym (stretch_none f c.args.is_live c.args.first.seq c.args.count (alike.alike c.args.first.seq (omega arith) from ∙ differs _ _ c.if-alike-is_live.true))

pub returns-then-reach-count : goal.returns-then-reach-count
returns-then-reach-count g c =
    let f = lives_in (g.S.DotSet.contents c.args.live.now) c.args.first.replica in
    let first = c.args.first.seq in
    let count = c.args.count in
    let alike = c.stretch_from-alike.ensures in
    let until = c.stretch_from-alike.result.until in
    let from = alike.from in
    let most = c.requires.most in
    let lt = c.if-reach-count.true in
    let is = agrees _ _ c.if-alike-is_live.false in
    sym (stretch_is f c.args.is_live first count (until + 1 - first) (omega arith) (λ i p q. alike.alike i p (omega arith) ∙ is)
    (λ _. (let at : first + (until + 1 - first) ≡ until + 1 = omega arith in ap f at ∙ alike.ends (omega arith) ∙ ap not is)))

pub returns : goal.returns
returns g c =
    let f = lives_in (g.S.DotSet.contents c.args.live.now) c.args.first.replica in
    let first = c.args.first.seq in
    let count = c.args.count in
    let alike = c.stretch_from-alike.ensures in
    let until = c.stretch_from-alike.result.until in
    let from = alike.from in
    let le = c.if-reach-count.false in
    let is = agrees _ _ c.if-alike-is_live.false in
    sym (stretch_is f c.args.is_live first count count (omega arith) (λ i p q. alike.alike i p (omega arith) ∙ is) (λ lt. absurd (omega arith)))

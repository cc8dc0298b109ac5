use Rattle.std.proofs.Common.{◌∙◌, sym}
use Rattle.std.specs.FinSet as set
use Rattle.rds_life.proofs.LivedLemmas.{lived_empty}
use Rattle.rds_life.proofs.NothingSeen.{nothing_seen}
use Rattle.rds_life.proofs.lives.Lives.copy.Goals as goal

pub returns-then-count-eq0-clause-ok : goal.returns-then-count-eq0-clause-ok
returns-then-count-eq0-clause-ok g c =
    let t = g.S.DotSet.contents c.self.inside.seen in
    let none = set.empty_of_len t (sym c.count.ensures ∙ c.if-count-eq0.true) in
    c.empty.ensures ∙ sym (lived_empty t c.self.inside.rows none) ∙ c.self.view_is

pub returns-in_err-copy-clause-nothing : goal.returns-in_err-copy-clause-nothing
returns-in_err-copy-clause-nothing g c = λ none.
    absurd (c.if-count-eq0.false (c.count.ensures ∙ nothing_seen (g.S.DotSet.contents c.self.inside.seen) c.self.inside.rows c.args.self.now c.self.view_is none))

pub returns-in_err-copy-2-clause-nothing : goal.returns-in_err-copy-2-clause-nothing
returns-in_err-copy-2-clause-nothing g c = λ none.
    absurd (c.if-count-eq0.false (c.count.ensures ∙ nothing_seen (g.S.DotSet.contents c.self.inside.seen) c.self.inside.rows c.args.self.now c.self.view_is none))

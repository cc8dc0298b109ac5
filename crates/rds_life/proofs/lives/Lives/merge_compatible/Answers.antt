use Rattle.std.proofs.Common.{◌∙◌, sym, subst, rules}
use Rattle.std.specs.FinSet as set
use Rattle.rds_life.proofs.Bounds.{least_above}
use Rattle.rds_life.proofs.LivedLemmas.{find_unseen, is_joined, lived_empty, nothing_joined}
use Rattle.rds_life.proofs.NothingSeen.{nothing_seen}
use Rattle.std.specs.FinMap as map
use Rattle.rds_life.specs.KnownDead.{HasMore}
use Rattle.rds_life.specs.Life.{is_dead}
use Rattle.rds_life.proofs.DeadSets.{kept-join}
use Rattle.rds_life.proofs.lives.Lives.merge_compatible.Goals as goal

pub returns-then-count-eq0-clause-ok : goal.returns-then-count-eq0-clause-ok
returns-then-count-eq0-clause-ok g c =
    let t = g.S.DotSet.contents c.other.inside.seen in
    let none = set.empty_of_len t (sym c.count.ensures ∙ c.if-count-eq0.true) in
    nothing_joined c.args.self.now c.args.other.now (sym c.other.view_is ∙ lived_empty t c.other.inside.rows none)

pub returns-then-count-eq0-clause-least : goal.returns-then-count-eq0-clause-least
returns-then-count-eq0-clause-least g c = least_above _ _ _ (search rules) (returns-then-count-eq0-clause-ok g c)

pub join_in-requires-clause-seen : goal.join_in-requires-clause-seen
join_in-requires-clause-seen g c = find_unseen (g.S.DotSet.contents c.self.inside.seen) c.self.inside.rows c.self.invariant.rows

pub invariant_of-self-2 : goal.invariant_of-self-2
invariant_of-self-2 g c =
    let contents = g.S.DotSet.contents in
    kept-join (contents c.self.inside.seen) c.self.inside.rows c.self.inside.dead c.self.invariant (contents c.other.inside.seen) c.other.inside.rows c.other.invariant.rows c.args.other.now c.other.view_is _ _ c.in_ok-seen.ensures.ok c.in_ok-join_in.ensures.ok c.add_dead.result
    (subst (λ dead. HasMore (λ d. is_dead (map.get c.args.other.now d)) dead c.add_dead.result) c.take.ensures.value c.add_dead.ensures)

pub returns-clause-ok : goal.returns-clause-ok
returns-clause-ok g c = is_joined _ _ _ _ c.self.invariant.rows c.other.invariant.rows _ _ _ _ c.in_ok-seen.ensures.ok c.in_ok-join_in.ensures.ok c.self.view_is c.other.view_is

pub returns-clause-least : goal.returns-clause-least
returns-clause-least g c = least_above _ _ _ (search rules) (returns-clause-ok g c)

pub returns-in_err-seen-clause-nothing : goal.returns-in_err-seen-clause-nothing
returns-in_err-seen-clause-nothing g c = λ none.
    absurd (c.if-count-eq0.false (c.count.ensures ∙ nothing_seen (g.S.DotSet.contents c.other.inside.seen) c.other.inside.rows c.args.other.now c.other.view_is none))

pub returns-in_err-join_in-clause-nothing : goal.returns-in_err-join_in-clause-nothing
returns-in_err-join_in-clause-nothing g c = λ none.
    absurd (c.if-count-eq0.false (c.count.ensures ∙ nothing_seen (g.S.DotSet.contents c.other.inside.seen) c.other.inside.rows c.args.other.now c.other.view_is none))

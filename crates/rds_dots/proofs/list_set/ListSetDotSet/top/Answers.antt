use Rattle.std.proofs.Common.{◌∙◌, sym, ap}
use Rattle.rds_dots.specs.Ascending.{ascends}
use Rattle.rds_dots.proofs.Parts.{front_rises}
use Rattle.rds_dots.proofs.Tops.{no_top, last_top, other_top, ends_with, is_empty}
use Rattle.rds_dots.proofs.list_set.ListSetDotSet.top.Goals as goal

pub returns-then-last-replica : goal.returns-then-last-replica
returns-then-last-replica c =
    let s = c.args.self.now in
    let front = c.split_after.result.0.now in
    let back = c.split_after.result.1.now in
    let whole = c.split_after.ensures.whole ∙ c.deref.ensures.value in
    let end = ends_with front c.in-Some.last.now (sym c.in-Some.ensures.value) in
    last_top s.dots.items front back c.args.replica whole s.are_dots c.split_after.ensures.later c.in-Some.last.now end.0 end.1 (front_rises front back (ap ascends whole ∙ s.ascending)) c.if-last-replica.true

pub returns-else-last-replica : goal.returns-else-last-replica
returns-else-last-replica c =
    let s = c.args.self.now in
    let front = c.split_after.result.0.now in
    let back = c.split_after.result.1.now in
    let whole = c.split_after.ensures.whole ∙ c.deref.ensures.value in
    let end = ends_with front c.in-Some.last.now (sym c.in-Some.ensures.value) in
    other_top s.dots.items front back c.args.replica whole s.are_dots c.split_after.ensures.later c.in-Some.last.now end.0 end.1 (front_rises front back (ap ascends whole ∙ s.ascending)) c.split_after.ensures.upto c.if-last-replica.false

pub returns-in_default : goal.returns-in_default
returns-in_default c =
    let s = c.args.self.now in
    no_top s.dots.items c.split_after.result.0.now c.split_after.result.1.now c.args.replica (c.split_after.ensures.whole ∙ c.deref.ensures.value) s.are_dots c.split_after.ensures.later (is_empty c.split_after.result.0.now (sym c.in_default.ensures.value))

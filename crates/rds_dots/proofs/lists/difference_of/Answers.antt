use Rattle.std.proofs.Common.{sym, arith}
use Rattle.std.proofs.lemmas.Grind.{common_steps}
use Rattle.rds_dots.proofs.Takes.{without_none, take_less, take_equal, take_greater, rest_rises}
use Rattle.rds_dots.proofs.lists.difference_of.Goals as goal

-- nothing is left on the right
pub returns-in_default-split_first : goal.returns-in_default-split_first
returns-in_default-split_first c =
    let e = without_none c.taking.left.now c.taking.right.now c.in_default-split_first.ensures.cases in
    cc (e, c.in_ok-extend_from_slice.ensures.items, c.taking.invariant.whole)

pub taking-preserved-in-Less : goal.taking-preserved-in-Less
taking-preserved-in-Less c =
    let i = c.taking.invariant in
    let l = c.in-Some.ensures.cases.0 in
    let r = c.in-Some-split_first.ensures.cases.0 in
    let e = take_less _ _ _ _ _ _ l r i.left i.right (sym c.in-Less.ensures) in
    record { whole = grind (arith, common_steps, e, i.whole); left = rest_rises _ _ _ l i.left; right = i.right }

pub taking-preserved-in-Equal : goal.taking-preserved-in-Equal
taking-preserved-in-Equal c =
    let i = c.taking.invariant in
    let l = c.in-Some.ensures.cases.0 in
    let r = c.in-Some-split_first.ensures.cases.0 in
    let e = take_equal _ _ _ _ _ _ l r i.left i.right (sym c.in-Equal.ensures) in
    record { whole = cc; left = rest_rises _ _ _ l i.left; right = rest_rises _ _ _ r i.right }

pub taking-preserved : goal.taking-preserved
taking-preserved c =
    let i = c.taking.invariant in
    let l = c.in-Some.ensures.cases.0 in
    let r = c.in-Some-split_first.ensures.cases.0 in
    let e = take_greater _ _ _ _ _ _ l r i.left i.right (sym c.in-Greater.ensures) in
    record { whole = cc; left = i.left; right = rest_rises _ _ _ r i.right }

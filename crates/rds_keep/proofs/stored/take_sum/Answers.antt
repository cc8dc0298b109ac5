use Rattle.std.proofs.Common.{rules, ℕ, List, ◌++◌, subst}
use Rattle.std.proofs.lemmas.Result.{err_from_is_err_and}
use Rattle.rds_codec.specs.FormatTexts.{snapshot_text_in}
use Rattle.rds_keep.specs.Sums.{CutsSum, HasNoSum}
use Rattle.rds_keep.proofs.FirstParts.{cut_refused, no_cut_more, other_refused, summed_size}
use Rattle.rds_keep.proofs.stored.take_sum.Goals as goal

pub returns-in_err-rest-clause-refused : goal.returns-in_err-rest-clause-refused
returns-in_err-rest-clause-refused g c =
    let p = err_from_is_err_and c.from_residual.result c.from_residual.ensures.1 in
    let first = c.args.first in
    rw (p.1, p.2) (λ more end. other_refused first.format first.replica first.length first.sum c.args.behind.now more _ c.requires.first c.in_err-rest.ensures.other)

pub returns-in-Some-clause-size : goal.returns-in-Some-clause-size
returns-in-Some-clause-size g c =
    let first = c.args.first in
    summed_size first.format first.replica first.sum c.args.behind.now c.in-Some.rest.now c.requires.first.hash (rw c.in-Some.is at c.in_ok-rest.ensures.some)

pub returns-then-branch-clause-refused : goal.returns-then-branch-clause-refused
returns-then-branch-clause-refused g c = λ more end.
    let first = c.args.first in
    let cuts : CutsSum (snapshot_text_in first.format first.replica) c.args.behind.now = search rules in
    cut_refused first.format first.replica first.length first.sum c.args.behind.now more c.requires.first cuts end

pub returns-clause-alone : goal.returns-clause-alone
returns-clause-alone g c = λ more end unsummed.
    let first = c.args.first in
    let text = snapshot_text_in first.format first.replica in
    let behind = c.args.behind.now in
    let none : HasNoSum first.sum (behind ++ more) = search rules in
    let apart : CutsSum text behind → ⊥ = search rules in
    rw (c.into_front-2.ensures.format, c.into_front-2.ensures.replica) (subst (λ (t : List ℕ). HasNoSum t (behind ++ more)) c.requires.first.hash none, no_cut_more text behind more end apart)

use Rattle.std.proofs.Common.{◌≡◌, ◌<◌, ◌+◌, Err, subst, sym, arith, rules}
use Rattle.rds_names.specs.declared.fault.Fault.TheVariants.{Memory, CounterFull}
use Rattle.rds_counts.specs.declared.row.TheConstants.{MAX_COUNT}
use Rattle.rds_counts.specs.Counted.{AreCountRows}
use Rattle.rds_counts.proofs.Found.{pair_read}
use Rattle.rds_counts.proofs.Raises.{number_found, none_there, sum_within, new_are, raised-number, others-number}
use Rattle.rds_counts.proofs.counts.Counts.raise.Goals as goal

pub returns-in_err-pair-clause-full : goal.returns-in_err-pair-clause-full
returns-in_err-pair-clause-full c =
    let found = pair_read c.deref.ensures.value c.deref-2.ensures.value c.find_row-found.ensures c.pair_at.ensures.found in
    let number_is = number_found c.self.invariant c.self.view_is _ _ found c.args.which in
    let is : c.from_residual.result ≡ Err CounterFull = search rules in
    ((λ _. subst (λ n. MAX_COUNT < n + c.args.by) number_is c.in_err-pair.ensures.full.1), (λ _. is))

pub returns-then-by-eq0-clause-full : goal.returns-then-by-eq0-clause-full
returns-then-by-eq0-clause-full c =
    let found = pair_read c.deref.ensures.value c.deref-2.ensures.value c.find_row-found.ensures c.pair_at.ensures.found in
    let within = sum_within c.self.invariant c.self.view_is _ _ found _ _ c.in_ok-pair.ensures.ok c.in_ok-pair.ensures.within in
    ((λ h. absurd (cc)), (λ more. absurd (omega arith)))

pub returns-in_err-put_row-clause-full : goal.returns-in_err-put_row-clause-full
returns-in_err-put_row-clause-full c =
    let found = pair_read c.deref.ensures.value c.deref-2.ensures.value c.find_row-found.ensures c.pair_at.ensures.found in
    let within = sum_within c.self.invariant c.self.view_is _ _ found _ _ c.in_ok-pair.ensures.ok c.in_ok-pair.ensures.within in
    let is : c.from_residual-in_err-put_row.result ≡ Err Memory = search rules in
    ((λ h. absurd (cc)), (λ more. absurd (omega arith)))

pub returns-in_err-put_row-clause-there : goal.returns-in_err-put_row-clause-there
returns-in_err-put_row-clause-there c = λ some above is.
    let found = pair_read c.deref.ensures.value c.deref-2.ensures.value c.find_row-found.ensures c.pair_at.ensures.found in
    let none = none_there c.self.invariant c.self.view_is _ _ found c.find_row-found.result c.in_err-put_row.ensures.there c.pair_at.ensures.nowhere some in
    absurd (omega arith)

pub returns-clause-full : goal.returns-clause-full
returns-clause-full c =
    let found = pair_read c.deref.ensures.value c.deref-2.ensures.value c.find_row-found.ensures c.pair_at.ensures.found in
    let within = sum_within c.self.invariant c.self.view_is _ _ found _ _ c.in_ok-pair.ensures.ok c.in_ok-pair.ensures.within in
    ((λ h. absurd (cc)), (λ more. absurd (omega arith)))

pub invariant_of-self : goal.invariant_of-self
invariant_of-self c = subst AreCountRows (sym c.in_err-put_row.ensures.err) c.self.invariant

pub invariant_of-self-2 : goal.invariant_of-self-2
invariant_of-self-2 c =
    let found = pair_read c.deref.ensures.value c.deref-2.ensures.value c.find_row-found.ensures c.pair_at.ensures.found in
    new_are c.self.invariant c.self.view_is _ _ found _ _ c.in_ok-pair.ensures.ok c.in_ok-pair.ensures.within c.if-by-eq0.false c.ranges.replica.fits c.in_ok-put_row.ensures.ok

pub returns-clause-raised : goal.returns-clause-raised
returns-clause-raised c =
    let found = pair_read c.deref.ensures.value c.deref-2.ensures.value c.find_row-found.ensures c.pair_at.ensures.found in
    raised-number c.self.invariant c.self.view_is _ _ found _ _ c.in_ok-pair.ensures.ok c.in_ok-pair.ensures.within c.if-by-eq0.false c.ranges.replica.fits c.in_ok-put_row.ensures.ok

pub returns-clause-others : goal.returns-clause-others
returns-clause-others c =
    let found = pair_read c.deref.ensures.value c.deref-2.ensures.value c.find_row-found.ensures c.pair_at.ensures.found in
    others-number c.self.invariant c.self.view_is _ _ found _ _ c.in_ok-pair.ensures.ok c.in_ok-pair.ensures.within c.if-by-eq0.false c.ranges.replica.fits c.in_ok-put_row.ensures.ok

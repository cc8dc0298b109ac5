use Rattle.std.proofs.Common.{List, ℕ, [], refl, sym, subst, append-nil}
use Rattle.rds_keep.specs.Kept.{RefusesBytes}
use Rattle.rds_keep.specs.Stored.{IsAllOf, first_and}
use Rattle.rds_keep.proofs.BehindParts.{err_then, ok_then}
use Rattle.rds_keep.proofs.stored.decode_front.Goals as goal

pub returns-clause-alone : goal.returns-clause-alone
returns-clause-alone g c =
    ok_then c.take_sum.result c.take_sum.ensures.alone
    (λ x all. subst (λ (t : List ℕ). IsAllOf x.0.format x.0.is_summed x.0.replica t) (append-nil x.1.now) (all [] (λ few. refl)))

pub returns-clause-refused : goal.returns-clause-refused
returns-clause-refused g c =
    let first = c.in_ok-first.first in
    let behind = c.in_ok-first.behind.now in
    err_then c.take_sum.result c.take_sum.ensures.refused
    (λ e why. subst (λ (t : List ℕ). RefusesBytes t e) (sym c.in_ok-first.ensures.parts)
    (subst (λ (t : List ℕ). RefusesBytes (first_and first.format first.replica t) e) (append-nil behind) (why [] (λ few. refl))))

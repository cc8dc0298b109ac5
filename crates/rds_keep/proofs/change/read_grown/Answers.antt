use Rattle.std.proofs.Common.{inr, arith}
use Rattle.std.proofs.lemmas.Result.{err_from_is_err_and}
use Rattle.rds_keep.proofs.ChangeTexts.{delta_grown, delta_refused, member_refused, other_member}
use Rattle.rds_keep.proofs.change.read_grown.Goals.{then-number-own-via-then-number-own, then-number-own-via-else-number-own+then-not-begins}
use Rattle.rds_keep.proofs.change.read_grown.Goals as goal

pub returns-in_err-roster-clause-none : goal.returns-in_err-roster-clause-none
returns-in_err-roster-clause-none g c =
    let p = err_from_is_err_and c.from_residual.result c.from_residual.ensures.1 in
    rw (p.1, p.2) (member_refused c.args.old.now c.args.own c.args.bytes.now c.in_err-roster.field-0.0 c.in_err-roster.ensures)

pub returns-then-number-own-clause-none : goal.returns-then-number-own-clause-none
returns-then-number-own-clause-none g c =
    let none = other_member c.args.old.now c.args.own c.args.bytes.now c.in_ok-roster.rest.now c.in_ok-roster.roster c.in_ok-roster.number c.in_ok-roster.ensures in
    elim c.then-number-own.branch [
      | then-number-own-via-then-number-own w ↦ inr (none (λ same begins. w.if-number-own.true same))
      | then-number-own-via-else-number-own+then-not-begins w ↦ inr (none (λ same begins. absurd (let yes = w.begins.ensures.1 begins in let not = w.if-not-begins.true in cc)))
    ]

pub returns-in_err-delta-clause-none : goal.returns-in_err-delta-clause-none
returns-in_err-delta-clause-none g c =
    let p = err_from_is_err_and c.from_residual-in_err-delta.result c.from_residual-in_err-delta.ensures.1 in
    let reads = rw c.len.ensures.names at c.in_err-delta.ensures.read in
    rw (p.1, p.2) (delta_refused c.args.old.now c.args.own c.args.bytes.now c.in_ok-roster.rest.now c.in_ok-roster.roster c.in_ok-roster.number c.in_err-delta.field-0.0 (λ i. omega (arith, c.type_inv.bytes i)) c.in_ok-roster.ensures c.requires.within reads)

pub returns-clause-text : goal.returns-clause-text
returns-clause-text g c =
    let text = rw c.len.ensures.names at c.in_ok-delta.ensures.text.value.1 in
    let begins = c.begins.ensures.0 c.if-not-begins.false in
    delta_grown c.args.old.now c.args.own c.args.bytes.now c.in_ok-roster.rest.now c.in_ok-roster.roster c.in_ok-roster.number c.in_ok-delta.delta (λ i. omega (arith, c.type_inv.bytes i)) c.in_ok-roster.ensures c.if-number-own.false begins text

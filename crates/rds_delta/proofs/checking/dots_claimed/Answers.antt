use Rattle.std.proofs.Common.{◌≡◌, ◌<◌, ◌∙◌, sym, ap, subst, ◌∷◌, length, Some, true, arith}
use mathlib.Core.Bool.{false≢true}
use Rattle.rds_dots.specs.declared.dot.Dot.{Dot}
use Rattle.rds_delta.specs.declared.row.Row.{Row}
use Rattle.rds_delta.specs.Digested.{rank_in}
use Rattle.rds_delta.specs.Rest.{certified_row, after_of}
use Rattle.rds_delta.specs.Claimed.{row_above, IsClaimedTo}
use Rattle.rds_delta.proofs.ClaimedLemmas.{claim_step, claim_other, claim_end, fewer_left}
use Rattle.rds_delta.proofs.checking.dots_claimed.Goals as goal

pub returns-in-None : goal.returns-in-None
returns-in-None g c = claim_end (rank_in c.args.digest.now) c.args.lives.now c.args.rows.now c.claiming.after c.claiming.rest.now c.in-None.ensures.next c.claiming.invariant

pub returns-in_err-row-in-Some : goal.returns-in_err-row-in-Some
returns-in_err-row-in-Some g c =
    rw c.from_residual.ensures (claim_other (rank_in c.args.digest.now) c.args.lives.now c.args.rows.now c.claiming.after c.in-Some.next c.claiming.rest.now c.in-Some.ensures.next c.claiming.invariant (λ later h.
    let n = c.in_err-row-in-Some.ensures.cases in let e = ap length h in omega (arith, n, e)))

pub returns-then-not-is_row : goal.returns-then-not-is_row
returns-then-not-is_row g c = claim_other (rank_in c.args.digest.now) c.args.lives.now c.args.rows.now c.claiming.after c.in-Some.next c.claiming.rest.now c.in-Some.ensures.next c.claiming.invariant (λ later h.
    let a = c.in_ok-row-in-Some.ensures.cases.0 in
    let same : c.in_ok-row-in-Some.row.now ≡ certified_row c.in-Some.next = cc (a, h) in
    false≢true (sym c.if-not-is_row.true ∙ c.is_row.ensures.1 same))

pub claiming-smaller : goal.claiming-smaller
claiming-smaller g c =
    let v = c.args.lives.now in
    subst (λ (d : Dot). length (after_of (Some d) v) < length (after_of c.claiming.after v)) (sym c.last.ensures) (fewer_left (rank_in c.args.digest.now) v c.claiming.after c.in-Some.next c.in-Some.ensures.next)

pub claiming-preserved : goal.claiming-preserved
claiming-preserved g c =
    let peer = rank_in c.args.digest.now in
    let v = c.args.lives.now in
    let later = c.in_ok-row-in-Some.later.now in
    let same : c.in_ok-row-in-Some.row.now ≡ certified_row c.in-Some.next = c.is_row.ensures.0 c.if-not-is_row.false in
    let is = c.in_ok-row-in-Some.ensures.cases.0 ∙ ap (λ (r : Row). r ∷ later) same in
    let high : row_above c.in-Some.next ≡ true = sym c.is_above.ensures ∙ c.if-not-is_above.false in
    subst (λ (d : Dot). IsClaimedTo peer v c.args.rows.now (Some d) later) (sym c.last.ensures)
    (claim_step peer v c.args.rows.now c.claiming.after c.in-Some.next later c.in-Some.ensures.next high (subst (IsClaimedTo peer v c.args.rows.now c.claiming.after) is c.claiming.invariant))

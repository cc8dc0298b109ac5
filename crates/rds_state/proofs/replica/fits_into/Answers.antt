use Rattle.std.proofs.Common.{◌∙◌, ◌<◌, ap, sym, subst, refl, length}
use mathlib.Core.Bool.{false≢true}
use Rattle.rds_life.specs.Life.{seen_of}
use Rattle.rds_counts.specs.Below.{rows_below}
use Rattle.rds_state.proofs.FitsLemmas.{fits_by, rows_fit, fits_dots}
use Rattle.rds_state.proofs.replica.fits_into.Goals as goal

pub returns-then-not-are_below : goal.returns-then-not-are_below
returns-then-not-are_below g c = (
  λ f. absurd (false≢true f),
  λ fits. c.if-not-are_below.ensures.1 (λ d h. subst (λ n. d.replica < n) (sym c.len-replicas.ensures.names)
      (fits_dots (length c.args.roster.now.names) c.args.state.now (g.S.DotSet.contents c.seen.result.now) (c.seen.ensures ∙ ap seen_of c.lives.ensures) fits d h)),
)

pub returns : goal.returns
returns g c =
    let n = length c.args.roster.now.names in
    let v = c.args.state.now in
    let dots = g.S.DotSet.contents c.seen.result.now in
    let rows = c.rows.result.now in
    let seen = c.seen.ensures ∙ ap seen_of c.lives.ensures in
    let value = sym c.rows.ensures.value ∙ c.counts.ensures in
    let is = c.are_rows_below.ensures ∙ ap (λ m. rows_below m rows) c.len-replicas.ensures.names in (
      λ t. fits_by n v dots seen rows c.rows.ensures.are_rows value (λ d h. subst (λ m. d.replica < m) c.len-replicas.ensures.names (c.if-not-are_below.ensures.0 refl d h)) (sym is ∙ t),
      λ fits. is ∙ rows_fit n v dots seen rows c.rows.ensures.are_rows value fits,
    )

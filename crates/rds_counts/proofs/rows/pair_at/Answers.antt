use Rattle.std.proofs.Common.{◌∙◌, ap, sym, subst}
use Rattle.rds_counts.specs.Search.{IsSpot}
use Rattle.rds_counts.proofs.Found.{pair_found, pair_lacking}
use Rattle.rds_counts.proofs.rows.pair_at.Goals as goal

pub returns-in-Ok-clause-found : goal.returns-in-Ok-clause-found
returns-in-Ok-clause-found c = λ key replica spot.
    ap (λ r. (r.p, r.n)) c.index-rows-at.is
    ∙ sym (pair_found key replica c.args.rows.now c.requires.rows.rise c.in-Ok.at (subst (IsSpot key replica c.args.rows.now) c.in-Ok.is spot) c.index-rows-at.result)

pub returns-in-Err-clause-found : goal.returns-in-Err-clause-found
returns-in-Err-clause-found c = λ key replica spot.
    sym (pair_lacking key replica c.args.rows.now c.requires.rows.rise c.in-Err.field-0 (subst (IsSpot key replica c.args.rows.now) c.in-Err.is spot))

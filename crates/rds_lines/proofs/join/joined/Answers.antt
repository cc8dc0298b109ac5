use Rattle.std.proofs.Common.{◌∙◌, ap₂}
use Rattle.rds_names.specs.declared.fault.Fault.TheVariants.{BadRoster}
use Rattle.rds_names.specs.Roster.{longer}
use Rattle.rds_lines.proofs.Joining.{joined_is_replica, not_refused}
use Rattle.rds_lines.proofs.join.joined.Goals as goal

pub returns-clause-err : goal.returns-clause-err
returns-clause-err g c =
    let own = c.into_parts-roster in
    let other = c.into_parts-other in
    not_refused _ c.from_parts.result BadRoster c.from_parts.ensures.exact
    (joined_is_replica c.args.first c.args.second c.longer.result own.result.1 own.result.2 other.result.2 c.merge.new.self own.ensures.fits other.ensures.fits
    (c.longer.ensures ∙ ap₂ longer own.ensures.roster other.ensures.roster) own.ensures.own own.ensures.state other.ensures.state c.in_ok-merge.ensures.ok)

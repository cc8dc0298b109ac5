use Rattle.std.proofs.Common.{◌∙◌, ap, length, rules, ◌≡◌, Err}
use Rattle.rds_names.specs.Roster.{RosterValue}
use Rattle.rds_world.proofs.Sendings.{fault_is, holds_ask, short_ask}
use Rattle.rds_world.proofs.messages.ask.Goals as goal

pub returns-in_err-bytes-clause-fault : goal.returns-in_err-bytes-clause-fault
returns-in_err-bytes-clause-fault g c =
    let f = c.in_err-bytes.field-0.0 in
    let is : c.from_residual.result ≡ Err f = search rules in
    fault_is _ _ f is (rw c.state.ensures.state at c.in_err-bytes.ensures.fault)

pub returns-clause-ok : goal.returns-clause-ok
returns-clause-ok g c =
    holds_ask c.args.kept.now.own (length c.args.kept.now.roster.names) c.own.result c.len.result c.args.kept.now.state c.state.result.now c.in_ok-bytes.bytes.items c.state.ensures.state c.state.ensures.fits c.in_ok-bytes.ensures.ok
    c.own.ensures.own (c.len.ensures.names ∙ ap (λ (r : RosterValue). length r.names) c.roster.ensures)

pub returns-clause-short : goal.returns-clause-short
returns-clause-short g c = short_ask c.args.kept.now.state c.state.result.now c.in_ok-bytes.bytes.items c.state.ensures.state c.in_ok-bytes.ensures.ok

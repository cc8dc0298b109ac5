use Rattle.std.proofs.Common.{◌∙◌, rules}
use Rattle.rds_names.specs.Entry.{HasParts}
use Rattle.rds_state.specs.Chosen.{CommandParts}
use Rattle.rds_tree.proofs.EffectMade.{next_is_dot, put_is}
use Rattle.rds_tree.proofs.edit_delta.put.Goals as goal

pub put_live-requires-clause-dot : goal.put_live-requires-clause-dot
put_live-requires-clause-dot g c = next_is_dot c.in_ok-dot.dot c.args.replica.now.own _ c.args.path.now (search rules) c.in_ok-dot.ensures.exact.0 c.in_ok-dot.ensures.exact.1

pub returns-clause-ok : goal.returns-clause-ok
returns-clause-ok g c =
    let p : CommandParts = record { path = c.args.path.now; kind = c.args.kind; value = c.args.value.now } in
    let has = c.in_ok-entry.ensures in
    let parts : HasParts c.args.path.now c.args.kind c.args.value.now c.in_ok-entry.entry = record { at = has.at ∙ c.in_ok-copy.ensures.ok; stands = has.stands; holds = has.holds ∙ c.in_ok-copy-2.ensures.ok } in
    put_is c.args.replica.now.state c.from_lives.result c.args.replica.now.own c.args.command.now p c.requires.parts c.in_ok-entry.entry parts c.in_ok-dot.dot c.in_ok-dot.ensures.exact.1 c.in_ok-lives.lives c.in_ok-lives.ensures.ok
    (c.from_lives.ensures.lives ∙ c.in_ok-put_live.ensures.ok) c.from_lives.ensures.counts

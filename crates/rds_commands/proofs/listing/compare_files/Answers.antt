use Rattle.std.proofs.Common.{◌∙◌}
use Rattle.rds_commands.proofs.Values.{compares_files}
use Rattle.rds_commands.proofs.listing.compare_files.Goals as goal

pub returns-clause-told : goal.returns-clause-told
returns-clause-told g c =
    compares_files c.args.path.now c.args.other.now c.in_ok-first.first c.in_ok-second.second _ c.state.result.now c.state-2.result.now c.in_ok-root.root c.view_of.result.now c.view_of-2.result.now
    c.in_ok-first.ensures.read c.in_ok-second.ensures.read c.state.ensures.state (c.view_of.ensures.replica ∙ c.kept.ensures) c.state-2.ensures.state (c.view_of-2.ensures.replica ∙ c.kept-2.ensures)
    c.in_ok-root.ensures.root c.in_ok-lines.ensures.text

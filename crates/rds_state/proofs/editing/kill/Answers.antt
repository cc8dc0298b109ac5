use Rattle.std.proofs.Common.{◌∙◌, None}
use Rattle.std.specs.FinMap as map
use Rattle.rds_life.specs.Killed.{but_for}
use Rattle.rds_state.specs.Chosen.{is_chosen}
use Rattle.rds_state.proofs.FoundLemmas.{count_alike, killed_alike}
use Rattle.rds_state.proofs.editing.kill.Goals as goal

pub returns-clause-lives : goal.returns-clause-lives
returns-clause-lives g c = λ d.
    let found = g.F.Found.found c.args.found.now in
    c.kill_found-killed.ensures.lives d
    ∙ killed_alike (but_for None found) (is_chosen c.args.command.now None) d (map.get c.args.state.now.lives d) (λ e live. c.requires.found d e live)

pub returns-clause-killed : goal.returns-clause-killed
returns-clause-killed g c =
    let found = g.F.Found.found c.args.found.now in
    c.kill_found-killed.ensures.killed
    ∙ count_alike (but_for None found) (is_chosen c.args.command.now None) c.args.state.now.lives (λ d e live. c.requires.found d e live)

use Rattle.std.proofs.Common.{◌∙◌, ap, Some}
use Rattle.std.specs.Prelude.{count_by}
use Rattle.std.specs.FinMap as map
use Rattle.rds_life.specs.Killed.{but_for, killed_by}
use Rattle.rds_life.specs.Life.{Live, live_rows}
use Rattle.rds_names.specs.declared.entry.Entry.{Entry}
use Rattle.rds_dots.specs.declared.dot.Dot.{Dot}
use Rattle.rds_state.specs.Chosen.{is_chosen}
use Rattle.rds_state.proofs.CountLemmas.{count_chosen}
use Rattle.rds_state.proofs.FoundLemmas.{count_alike, found_but, killed_alike}
use Rattle.rds_state.proofs.editing.replace.Goals as goal

pub returns-clause-lives : goal.returns-clause-lives
returns-clause-lives g c = λ d.
    let mid = map.insert c.args.state.now.lives c.args.dot (Live c.args.entry) in
    let found = g.F.Found.found c.args.found.now in
    c.kill_found.ensures.lives d
    ∙ ap (λ l. killed_by (but_for (Some c.args.dot) found) d (map.get l d)) c.in_ok-put_live.ensures.lives
    ∙ killed_alike (but_for (Some c.args.dot) found) (is_chosen c.args.command.now (Some c.args.dot)) d (map.get mid d) (λ e live. found_but found c.args.command.now c.args.state.now.lives c.args.dot c.args.entry c.requires.found d e live)

pub returns-clause-killed : goal.returns-clause-killed
returns-clause-killed g c =
    let mid = map.insert c.args.state.now.lives c.args.dot (Live c.args.entry) in
    let found = g.F.Found.found c.args.found.now in
    c.kill_found.ensures.killed
    ∙ ap (λ l. count_by (λ (r : Dot × Entry). but_for (Some c.args.dot) found r.0 r.1) (live_rows l)) c.in_ok-put_live.ensures.lives
    ∙ count_alike (but_for (Some c.args.dot) found) (is_chosen c.args.command.now (Some c.args.dot)) mid (found_but found c.args.command.now c.args.state.now.lives c.args.dot c.args.entry c.requires.found)
    ∙ count_chosen c.args.command.now c.args.dot c.args.state.now.lives c.args.entry c.requires.unseen

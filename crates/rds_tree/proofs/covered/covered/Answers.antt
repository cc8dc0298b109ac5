use Rattle.std.proofs.Common.{[], subst}
use Rattle.std.specs.Prelude.{IfSome}
use Rattle.rds_life.specs.Life.{live_rows}
use Rattle.rds_state.proofs.EditLemmas.{if_ok}
use Rattle.rds_tree.specs.Cuts.{covered_leaf, found_at, is_deep}
use Rattle.rds_tree.specs.Growing.{Holds}
use Rattle.rds_tree.specs.Held.{is_covered}
use Rattle.rds_tree.proofs.FoundLives.{covered_gathered, found_covered}
use Rattle.rds_tree.proofs.Gathering.{gathers_same}
use Rattle.rds_tree.proofs.covered.covered.Goals as goal

pub returns-in-Some-clause-ok : goal.returns-in-Some-clause-ok
returns-in-Some-clause-ok g c =
    let command = c.args.command.now in
    let v = c.args.replica.now.state.lives in
    let holds : Holds (live_rows v) c.in-Some.tree.now = subst (λ o. IfSome o (λ t. Holds (live_rows v) t.now)) c.in-Some.is c.requires.holds in
    if_ok c.gathered.result (λ dots are. gathers_same (found_at (covered_leaf command) (is_deep command) c.args.path.now c.in-Some.tree.now) (is_covered command v) [] dots.items
    (found_covered command c.args.path.now v c.in-Some.tree.now c.requires.path holds) are) c.gathered.ensures.ok

pub returns-in-None-clause-ok : goal.returns-in-None-clause-ok
returns-in-None-clause-ok g c =
    if_ok c.covered.result (λ dots are. covered_gathered c.args.command.now c.args.replica.now.state.lives dots.items are) c.covered.ensures.ok

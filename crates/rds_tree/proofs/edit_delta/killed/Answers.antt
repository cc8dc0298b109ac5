use Rattle.std.proofs.Common.{◌∙◌, List, ap}
use Rattle.std.specs.List.{list_all}
use Rattle.std.specs.FinSet as set
use Rattle.rds_dots.specs.declared.dot.Dot.{Dot}
use Rattle.rds_dots.specs.Dots.{is_dot}
use Rattle.rds_life.specs.Life.{seen_of}
use Rattle.rds_life.proofs.Views.{contains-seen_of}
use Rattle.rds_state.proofs.EditLemmas.{if_ok}
use Rattle.rds_state.specs.Value.{StateValue}
use Rattle.rds_tree.specs.Held.{killed_in}
use Rattle.rds_tree.proofs.FoundLives.{all_dots, gathered_killed, gathered_seen}
use Rattle.rds_tree.proofs.edit_delta.killed.Goals as goal

pub dead-requires : goal.dead-requires
dead-requires g c =
    let v = c.args.replica.now.state.lives in
    ap (list_all is_dot) c.deref.ensures.value
    ∙ all_dots c.in_ok-dots.dots.items (λ q h.
    g.met.S.DotSet.within c.seen-dots_alone.result.now q
    (ap (λ s. set.contains s q) (c.seen-dots_alone.ensures ∙ ap seen_of (c.lives.ensures ∙ ap (λ (s : StateValue). s.lives) c.state.ensures.state))
    ∙ contains-seen_of v q
    ∙ gathered_seen c.args.command.now v c.in_ok-dots.dots.items c.in_ok-dots.ensures.ok q h))

pub returns-clause-ok : goal.returns-clause-ok
returns-clause-ok g c =
    if_ok c.dead.result (λ lives dead d. dead d ∙ ap (λ (ds : List Dot). killed_in ds d) c.deref.ensures.value ∙ gathered_killed c.args.command.now c.args.replica.now.state.lives c.in_ok-dots.dots.items c.in_ok-dots.ensures.ok d) c.dead.ensures.ok

use Rattle.std.proofs.Common.{◌≡◌, refl, sym, ◌∙◌, ap, subst}
use Rattle.std.specs.Prelude.{Some}
use Rattle.std.specs.FinMap as map
use Rattle.rds_dots.specs.declared.dot.Dot.{Dot}
use Rattle.rds_life.specs.Killed.{killed_by}
use Rattle.rds_life.specs.Life.{Live}
use Rattle.rds_state.specs.Chosen.{is_chosen}
use Rattle.rds_state.specs.Edit.{own_top}
use Rattle.rds_state.specs.Value.{coordinates}
use Rattle.rds_state.proofs.EditLemmas.{put_joins}
use Rattle.rds_state.proofs.editing.put.Goals as goal

pub returns-clause-joined : goal.returns-clause-joined
returns-clause-joined g c =
    let v = c.args.state.now in
    let new = c.replace.new.state in
    let command = c.args.command.now in
    let entry = c.in_ok-entry.entry in
    let is = c.in_ok-dot.ensures.exact.1 in
    put_joins v new c.args.own command (record { path = c.args.path.now; kind = c.args.kind; value = c.args.value.now }) c.requires.parts (own_top (coordinates v) c.args.own) refl entry (ap (map.get v.lives) (sym is) ∙ c.in_ok-dot.ensures.unseen) c.in_ok-entry.ensures.ok c.replace.ensures.counts
    (subst (λ (dot : Dot). (d : Dot) → map.get new.lives d ≡ killed_by (is_chosen command (Some dot)) d (map.get (map.insert v.lives dot (Live entry)) d)) is c.in_ok-killed.ensures.lives)

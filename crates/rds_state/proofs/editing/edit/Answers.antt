use Rattle.std.proofs.Common.{◌∙◌, sym, refl}
use Rattle.rds_names.specs.declared.entry.Entry.{Entry}
use Rattle.rds_dots.specs.declared.dot.Dot.{Dot}
use Rattle.rds_life.specs.Life.{live_rows}
use Rattle.rds_state.specs.Edit.{covers}
use Rattle.rds_state.specs.declared.command.Command.TheVariants.{Inc, Dec}
use Rattle.rds_state.proofs.CountLemmas.{count_none}
use Rattle.rds_state.proofs.EditLemmas.{inc_joins, dec_joins, if_ok}
use Rattle.rds_state.proofs.editing.edit.Goals as goal

pub returns-in-Inc-clause-joined : goal.returns-in-Inc-clause-joined
returns-in-Inc-clause-joined g c =
    rw c.in-Inc.is (if_ok c.raise.result (λ _ raised. inc_joins c.args.state.now c.raise.new.state c.args.own c.in-Inc.key c.in-Inc.by c.raise.ensures.lives raised) c.raise.ensures.numbers)

pub returns-in-Inc-clause-killed : goal.returns-in-Inc-clause-killed
returns-in-Inc-clause-killed g c =
    rw c.in-Inc.is (if_ok c.raise.result (λ edited none. none.1 ∙ sym (count_none (λ (r : Dot × Entry). covers (Inc c.in-Inc.key c.in-Inc.by) r.1) (λ r. refl) (live_rows c.args.state.now.lives))) c.raise.ensures.edited)

pub returns-in-Dec-clause-joined : goal.returns-in-Dec-clause-joined
returns-in-Dec-clause-joined g c =
    rw c.in-Dec.is (if_ok c.raise-in-Dec.result (λ _ raised. dec_joins c.args.state.now c.raise-in-Dec.new.state c.args.own c.in-Dec.key c.in-Dec.by c.raise-in-Dec.ensures.lives raised) c.raise-in-Dec.ensures.numbers)

pub returns-in-Dec-clause-killed : goal.returns-in-Dec-clause-killed
returns-in-Dec-clause-killed g c =
    rw c.in-Dec.is (if_ok c.raise-in-Dec.result (λ edited none. none.1 ∙ sym (count_none (λ (r : Dot × Entry). covers (Dec c.in-Dec.key c.in-Dec.by) r.1) (λ r. refl) (live_rows c.args.state.now.lives))) c.raise-in-Dec.ensures.edited)

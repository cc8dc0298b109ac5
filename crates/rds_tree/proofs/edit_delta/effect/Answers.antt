use Rattle.std.proofs.Common.{◌∙◌, ap}
use Rattle.std.specs.FinMap as map
use Rattle.rds_state.specs.Chosen.{command_parts}
use Rattle.rds_state.specs.Edit.{effect_number}
use Rattle.rds_state.specs.Value.{coordinates}
use Rattle.rds_tree.proofs.EffectMade.{dec_is, del_is, if_both, inc_is}
use Rattle.rds_tree.proofs.edit_delta.effect.Goals as goal

pub returns-in_ok-lives-in-Del-clause-ok : goal.returns-in_ok-lives-in-Del-clause-ok
returns-in_ok-lives-in-Del-clause-ok g c =
    let old = c.args.replica.now in
    del_is old.state c.from_lives.result old.own c.args.command.now (ap command_parts c.in-Del.is) (λ q. ap (λ m. effect_number (coordinates old.state) old.own m q) c.in-Del.is)
    (λ d. ap (λ l. map.get l d) c.from_lives.ensures.lives ∙ c.in_ok-lives-in-Del.ensures.ok d) c.from_lives.ensures.counts

pub returns-in_ok-lives-in-Clear-clause-ok : goal.returns-in_ok-lives-in-Clear-clause-ok
returns-in_ok-lives-in-Clear-clause-ok g c =
    let old = c.args.replica.now in
    del_is old.state c.from_lives-in-Clear.result old.own c.args.command.now (ap command_parts c.in-Clear.is) (λ q. ap (λ m. effect_number (coordinates old.state) old.own m q) c.in-Clear.is)
    (λ d. ap (λ l. map.get l d) c.from_lives-in-Clear.ensures.lives ∙ c.in_ok-lives-in-Clear.ensures.ok d) c.from_lives-in-Clear.ensures.counts

pub returns-in-Inc-clause-ok : goal.returns-in-Inc-clause-ok
returns-in-Inc-clause-ok g c =
    let old = c.args.replica.now in
    rw c.in-Inc.is (if_both c.raise.result (λ delta lives numbers. inc_is old.state delta old.own c.in-Inc.key c.in-Inc.by lives numbers) c.raise.ensures.lives c.raise.ensures.numbers)

pub returns-in-Dec-clause-ok : goal.returns-in-Dec-clause-ok
returns-in-Dec-clause-ok g c =
    let old = c.args.replica.now in
    rw c.in-Dec.is (if_both c.raise-in-Dec.result (λ delta lives numbers. dec_is old.state delta old.own c.in-Dec.key c.in-Dec.by lives numbers) c.raise-in-Dec.ensures.lives c.raise-in-Dec.ensures.numbers)

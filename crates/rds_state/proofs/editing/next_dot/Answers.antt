use Rattle.std.proofs.Common.{◌∙◌, ◌+◌, sym, ap, refl, rules}
use Rattle.rds_dots.specs.Lacking.{dot_of}
use Rattle.rds_life.specs.Life.{seen_of}
use Rattle.rds_names.specs.declared.entry.Kind.TheVariants.{Reg}
use Rattle.rds_names.specs.declared.scalar.Scalar.TheVariants.{Null}
use Rattle.rds_state.specs.Value.{coordinates}
use Rattle.rds_state.specs.declared.command.Command.TheVariants.{Set}
use Rattle.rds_state.proofs.EditLemmas.{top_is, full_is_due, next_unseen, none_is_due}
use Rattle.rds_state.proofs.editing.next_dot.Goals as goal

pub returns-then-top-ge-MAX_SEQ-clause-exact : goal.returns-then-top-ge-MAX_SEQ-clause-exact
returns-then-top-ge-MAX_SEQ-clause-exact g c =
    let v = c.args.state.now in
    let top = top_is v c.args.own c.top-top.result (g.S.DotSet.contents c.seen.result.now) (c.seen.ensures ∙ ap seen_of c.lives.ensures) (g.met.S.DotSet.within c.seen.result.now) c.top-top.ensures in
    full_is_due (coordinates v) c.args.own (Set c.args.path.now Null) (record { path = c.args.path.now; kind = Reg; value = Null }) refl c.top-top.result top (search rules) c.if-top-ge-MAX_SEQ.true

pub returns-clause-exact : goal.returns-clause-exact
returns-clause-exact g c =
    let v = c.args.state.now in
    let top = top_is v c.args.own c.top-top.result (g.S.DotSet.contents c.seen.result.now) (c.seen.ensures ∙ ap seen_of c.lives.ensures) (g.met.S.DotSet.within c.seen.result.now) c.top-top.ensures in
    (none_is_due (coordinates v) c.args.own (Set c.args.path.now Null) (record { path = c.args.path.now; kind = Reg; value = Null }) refl c.top-top.result top (search rules) c.if-top-ge-MAX_SEQ.false, ap (λ n. dot_of c.args.own (n + 1)) (sym top))

pub returns-clause-unseen : goal.returns-clause-unseen
returns-clause-unseen g c =
    next_unseen c.args.state.now c.args.own c.top-top.result (g.S.DotSet.contents c.seen.result.now) (c.seen.ensures ∙ ap seen_of c.lives.ensures) (g.met.S.DotSet.within c.seen.result.now) c.top-top.ensures

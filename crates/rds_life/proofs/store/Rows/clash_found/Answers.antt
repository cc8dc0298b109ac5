use Rattle.std.proofs.Common.{◌∙◌, sym}
use mathlib.Core.Bool.{false≢true}
use Rattle.rds_life.proofs.Lookups.{look_end, look_found, look_on}
use Rattle.rds_life.proofs.store.Rows.clash_found.Goals as goal

pub returns-in-None : goal.returns-in-None
returns-in-None c = look_end c.args.self.now c.args.other c.looking.rest c.in-None.ensures.steps.0 c.looking.invariant

pub returns-then-not-agrees : goal.returns-then-not-agrees
returns-then-not-agrees c = look_found c.args.self.now c.args.other c.looking.rest (c.in-Some.row.0, c.in-Some.row.1.now) c.next.new.self c.in-Some.ensures.steps c.looking.invariant (λ same. false≢true (sym c.if-not-agrees.true ∙ c.agrees.ensures.1 same))

pub looking-preserved : goal.looking-preserved
looking-preserved c = look_on c.args.self.now c.args.other c.looking.rest (c.in-Some.row.0, c.in-Some.row.1.now) c.next.new.self c.in-Some.ensures.steps c.looking.invariant (c.agrees.ensures.0 c.if-not-agrees.false)

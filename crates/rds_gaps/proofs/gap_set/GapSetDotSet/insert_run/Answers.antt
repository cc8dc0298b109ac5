use Rattle.std.proofs.Common.{[], ◌∷◌, subst, sym, arith}
use Rattle.rds_gaps.specs.Operations.{IsUnion}
use Rattle.rds_gaps.proofs.Inserts.{inserted_union, either_inserted}
use Rattle.rds_gaps.proofs.Sets.{set_of-insert, one_run, run_bounds}
use Rattle.rds_gaps.proofs.gap_set.GapSetDotSet.insert_run.Goals as goal

pub invariant_of-self : goal.invariant_of-self
invariant_of-self c =
    let old = c.args.self.now in
    record { maximal = either_inserted c.insert_run.result old.runs.items c.insert_run.new.runs.items c.args.run c.insert_run.ensures.ok c.insert_run.ensures.err old.maximal (run_bounds c.args.run c.requires (omega arith)) }

pub returns-clause-ok : goal.returns-clause-ok
returns-clause-ok c =
    let old = c.args.self.now in
    let union = subst (IsUnion old.runs.items (c.args.run ∷ [])) (sym c.in_ok-insert_run.ensures.ok) (inserted_union old.runs.items c.args.run old.maximal (run_bounds c.args.run c.requires (omega arith))) in
    set_of-insert old.runs.items c.args.run c.insert_run.new.runs.items old.maximal (one_run c.args.run c.requires (omega arith)) union

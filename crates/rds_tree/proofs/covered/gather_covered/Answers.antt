use Rattle.std.proofs.Common.{List, [], subst, sym}
use Rattle.rds_dots.specs.declared.dot.Dot.{Dot}
use Rattle.rds_tree.specs.Held.{is_covered, IsGathered}
use Rattle.rds_tree.proofs.Gathering.{gathers_more}
use Rattle.rds_tree.proofs.covered.gather_covered.Goals as goal

pub returns-in_ok-extend_from_slice-clause-gathered : goal.returns-in_ok-extend_from_slice-clause-gathered
returns-in_ok-extend_from_slice-clause-gathered g c =
    let covers = is_covered c.args.command.now c.args.replica.now.state.lives in
    gathers_more covers c.args.dots.now.items c.deref.result.now c.extend_from_slice.new.self.items c.in_ok-extend_from_slice.ensures.items
    (subst (λ (ds : List Dot). IsGathered covers [] ds) (sym c.deref.ensures.value) c.in_ok-found.ensures.ok)

use Rattle.std.proofs.Common.{ℕ, List, [], subst}
use Rattle.rds_dots.specs.declared.dot.Dot.{Dot}
use Rattle.rds_tree.specs.Cuts.{covered_leaf, found_at, is_deep}
use Rattle.rds_tree.specs.Held.{IsGathered}
use Rattle.rds_tree.proofs.Gathering.{gathers_sorted}
use Rattle.rds_tree.proofs.covered.gathered.Goals as goal

pub returns-clause-ok : goal.returns-clause-ok
returns-clause-ok c =
    let command = c.args.command.now in
    let found = found_at (covered_leaf command) (is_deep command) c.keys.result.now c.args.tree.now in
    let begun : IsGathered found [] c.gather.new.dots.items = subst (λ (ds : List Dot). IsGathered found ds c.gather.new.dots.items) c.new-dots.ensures.items c.in_ok-gather.ensures.ok in
    subst (λ (p : List (List ℕ)). IsGathered (found_at (covered_leaf command) (is_deep command) p c.args.tree.now) [] c.sort_unstable.new.self.items) c.keys.ensures.keys
    (gathers_sorted found [] c.gather.new.dots.items c.sort_unstable.new.self.items c.sort_unstable.ensures.permutation begun)

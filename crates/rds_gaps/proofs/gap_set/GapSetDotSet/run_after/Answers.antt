use Rattle.std.proofs.Common.{Some, None, slice_get, ap, sym, ◌∙◌}
use Rattle.rds_dots.specs.Runs.{first_after, runs_of}
use Rattle.rds_gaps.specs.RunSets.{set_of}
use Rattle.rds_gaps.proofs.Sets.{first_of-set_of, front_of}
use Rattle.rds_gaps.proofs.gap_set.GapSetDotSet.run_after.Goals as goal

pub returns-in-Some : goal.returns-in-Some
returns-in-Some c =
    let rs = c.args.self.now.runs.items in
    c.run_after.ensures ∙ ap (first_after (Some c.in-Some.dot)) c.deref.ensures.value ∙ first_of-set_of rs c.args.self.now.maximal (Some c.in-Some.dot) ∙ ap (λ a. first_after a (runs_of (set_of rs))) (sym c.in-Some.is)

pub returns-in-None : goal.returns-in-None
returns-in-None c =
    let rs = c.args.self.now.runs.items in
    c.copied.ensures ∙ c.first.ensures.value ∙ ap (λ l. slice_get l 0) c.as_slice.ensures.value ∙ front_of rs ∙ first_of-set_of rs c.args.self.now.maximal None ∙ ap (λ a. first_after a (runs_of (set_of rs))) (sym c.in-None.is)

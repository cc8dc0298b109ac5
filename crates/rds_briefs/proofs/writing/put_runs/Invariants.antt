use Rattle.std.proofs.Common.{◌≡◌, true}
use Rattle.rds_dots.specs.Runs.{are_maximal, runs_of}
use Rattle.rds_briefs.specs.BriefTexts.{runs_text}
use Rattle.rds_briefs.proofs.Putting.{IsPutting}
use Rattle.rds_briefs.proofs.writing.put_runs.Given as goal

abbrev pub invariant-telling : goal.invariant-telling
invariant-telling g l =
    let live = g.S.DotSet.contents l.live in
    record {
      put : IsPutting l.initial.text l.text (runs_text live l.run-iterator) (runs_text live (runs_of (g.S.DotSet.contents l.seen)));
      maximal : are_maximal l.run-iterator ≡ true;
    }

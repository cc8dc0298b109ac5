use Rattle.std.proofs.Common.{◌≡◌, ◌<◌, ◌≤◌, ◌-◌, ◌*◌, true, List, ℕ, ◌++◌}
use Rattle.std.specs.FinSet as set
use Rattle.rds_dots.specs.declared.dot.Dot.{Dot}
use Rattle.rds_dots.specs.declared.dot.Run.{Run}
use Rattle.rds_dots.specs.declared.dot.TheConstants.{MAX_SEQ}
use Rattle.rds_dots.specs.Dots.{Dots}
use Rattle.rds_dots.specs.Runs.{are_maximal, dot_place}
use Rattle.rds_briefs.specs.BriefTexts.{runs_text}
use Rattle.rds_briefs.proofs.RunSteps.{AreOf, AreRunsRead}
use Rattle.rds_briefs.proofs.runs.read_runs.Given as goal

abbrev pub invariant-reading : goal.invariant-reading
invariant-reading g l =
    record {
      below : (d : Dot) → set.contains (g.S.DotSet.contents l.seen) d ≡ true → d.replica < l.replicas;
      within : l.end.seq ≤ MAX_SEQ;
      small : l.end.replica ≤ 255;
      text : (rs : List Run) (lives : Dots) (end : List ℕ) → are_maximal rs ≡ true → AreOf l.replicas rs → l.bytes ≡ runs_text lives rs ++ end
          → AreRunsRead l.replicas rs lives (g.S.DotSet.contents l.seen) (g.S.DotSet.contents l.live) l.rest end l.end;
    }

abbrev pub decreases-reading : goal.decreases-reading
decreases-reading g l = 256 * 281474976710656 - dot_place l.end.replica l.end.seq

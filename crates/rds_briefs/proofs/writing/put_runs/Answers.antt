use Rattle.std.proofs.Common.{◌≡◌, true, List, ℕ, [], ◌∷◌, subst, ap, ◌∙◌}
use Rattle.rds_dots.specs.declared.dot.Run.{Run}
use Rattle.rds_dots.specs.RunFacts.{run_parts}
use Rattle.rds_dots.specs.Runs.{are_maximal, runs_of}
use Rattle.rds_briefs.specs.BriefTexts.{brief_run_text, runs_text}
use Rattle.rds_briefs.proofs.Putting.{IsPutting, put_more, put_ends}
use Rattle.rds_briefs.proofs.Shorter.{next_run_text, no_run_text}
use Rattle.rds_briefs.proofs.writing.put_runs.Goals as goal

pub telling-preserved : goal.telling-preserved
telling-preserved g c =
    let live = g.S.DotSet.contents c.args.live.now in
    let old = c.args.text.now in
    let now = c.telling.text in
    let r = c.in-Some.run' in
    let rs = c.next.new.self in
    let whole = runs_text live (runs_of (g.S.DotSet.contents c.args.seen.now)) in
    let next = ap (runs_text live) c.in-Some.ensures.steps ∙ next_run_text live r rs in
    record {
      put = put_more old now c.put_run.new.text (brief_run_text live r) (runs_text live rs) whole (subst (λ (l : List ℕ). IsPutting old now l whole) next c.telling.invariant.put) c.put_run.ensures;
      maximal = (run_parts r rs (subst (λ (l : List Run). are_maximal l ≡ true) c.in-Some.ensures.steps c.telling.invariant.maximal)).rest;
    }

pub returns : goal.returns
returns g c =
    let live = g.S.DotSet.contents c.args.live.now in
    let old = c.args.text.now in
    let now = c.telling.text in
    let whole = runs_text live (runs_of (g.S.DotSet.contents c.args.seen.now)) in
    let last = ap (runs_text live) c.in-None.ensures.steps.0 ∙ no_run_text live in
    put_ends old c.put_byte.new.self whole (put_more old now c.put_byte.new.self (0 ∷ []) [] whole (subst (λ (l : List ℕ). IsPutting old now l whole) last c.telling.invariant.put) c.put_byte.ensures)

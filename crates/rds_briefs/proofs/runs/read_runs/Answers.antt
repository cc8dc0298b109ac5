use Rattle.std.proofs.Common.{◌+◌, ◌-◌, ◌++◌, ℕ, sym, ap, ◌∙◌, arith}
use Rattle.std.proofs.lemmas.Result.{err_from_is_err_and}
use Rattle.rds_dots.specs.declared.dot.Dot.{Dot}
use Rattle.rds_briefs.specs.Lives.{lives_in}
use Rattle.rds_briefs.specs.BriefTexts.{lives_text, runs_text}
use Rattle.rds_briefs.proofs.RunSteps.{head, behind, none_seen, still_below, after_is, run_fits, runs_begin, first_packed, runs_text_front, runs_end, one_more, runs_go_on, goes_up}
use Rattle.rds_briefs.proofs.runs.read_runs.Goals as goal

pub reading-init : goal.reading-init
reading-init g c = record {
  below = λ d h. absurd (none_seen (g.S.DotSet.contents c.empty-seen.result) c.empty-seen.ensures d h);
  within = omega arith;
  small = omega arith;
  text = λ rs lives end max each is. runs_begin c.args.replicas rs lives (g.S.DotSet.contents c.empty-seen.result) (g.S.DotSet.contents c.empty-live.result) c.args.bytes.now end c.empty-seen.ensures c.empty-live.ensures max each is;
}

pub returns-in_err-lo-clause-text : goal.returns-in_err-lo-clause-text
returns-in_err-lo-clause-text g c =
    let p = err_from_is_err_and c.from_residual.result c.from_residual.ensures.1 in
    rw (p.1, p.2) (λ rs lives end max each is.
    let seen = g.S.DotSet.contents c.reading.seen in
    let live = g.S.DotSet.contents c.reading.live in
    let r = c.reading.invariant.text rs lives end max each is in
    c.in_err-lo.ensures.text (head r.left) (behind lives r.left end) (first_packed c.args.replicas rs lives seen live c.reading.rest.now end c.reading.end r) (runs_text_front c.args.replicas rs lives seen live c.reading.rest.now end c.reading.end r))

pub returns-then-lo-eq0-clause-below : goal.returns-then-lo-eq0-clause-below
returns-then-lo-eq0-clause-below g c = c.reading.invariant.below

pub returns-then-lo-eq0-clause-text : goal.returns-then-lo-eq0-clause-text
returns-then-lo-eq0-clause-text g c = λ rs lives end max each is.
    let seen = g.S.DotSet.contents c.reading.seen in
    let live = g.S.DotSet.contents c.reading.live in
    let r = c.reading.invariant.text rs lives end max each is in
    let got = c.in_ok-lo.ensures.text (head r.left) (behind lives r.left end) (first_packed c.args.replicas rs lives seen live c.reading.rest.now end c.reading.end r) (runs_text_front c.args.replicas rs lives seen live c.reading.rest.now end c.reading.end r) in
    runs_end c.args.replicas rs lives seen live c.reading.rest.now end c.reading.end r c.in_ok-lo.after.now (sym c.if-lo-eq0.true ∙ got.0) got.1

pub returns-in_err-replica-clause-text : goal.returns-in_err-replica-clause-text
returns-in_err-replica-clause-text g c =
    let p = err_from_is_err_and c.from_residual-in_err-replica.result c.from_residual-in_err-replica.ensures.1 in
    rw (p.1, p.2) (λ rs lives end max each is.
    let seen = g.S.DotSet.contents c.reading.seen in
    let live = g.S.DotSet.contents c.reading.live in
    let r = c.reading.invariant.text rs lives end max each is in
    let got = c.in_ok-lo.ensures.text (head r.left) (behind lives r.left end) (first_packed c.args.replicas rs lives seen live c.reading.rest.now end c.reading.end r) (runs_text_front c.args.replicas rs lives seen live c.reading.rest.now end c.reading.end r) in
    let next = one_more c.args.replicas rs lives seen live c.reading.rest.now end c.reading.end r c.in_ok-lo.lo c.in_ok-lo.after.now c.if-lo-eq0.false got.0 got.1 in
    let fits = run_fits next.run next.bounds c.in_ok-lo.lo next.begins in
    c.in_err-replica.ensures.text next.run.replica next.run.hi _ next.below fits.0 fits.1 next.bytes)

pub returns-then-not-is_after-clause-text : goal.returns-then-not-is_after-clause-text
returns-then-not-is_after-clause-text g c = λ rs lives end max each is.
    let seen = g.S.DotSet.contents c.reading.seen in
    let live = g.S.DotSet.contents c.reading.live in
    let r = c.reading.invariant.text rs lives end max each is in
    let got = c.in_ok-lo.ensures.text (head r.left) (behind lives r.left end) (first_packed c.args.replicas rs lives seen live c.reading.rest.now end c.reading.end r) (runs_text_front c.args.replicas rs lives seen live c.reading.rest.now end c.reading.end r) in
    let next = one_more c.args.replicas rs lives seen live c.reading.rest.now end c.reading.end r c.in_ok-lo.lo c.in_ok-lo.after.now c.if-lo-eq0.false got.0 got.1 in
    let fits = run_fits next.run next.bounds c.in_ok-lo.lo next.begins in
    let place = c.in_ok-replica.ensures.text next.run.replica next.run.hi _ next.below fits.0 fits.1 next.bytes in
    absurd (after_is c.reading.end c.in_ok-replica.replica next.run.replica c.in_ok-lo.lo c.is_after.result place.0 next.comes c.is_after.ensures c.if-not-is_after.true)

pub returns-in_err-rest-clause-text : goal.returns-in_err-rest-clause-text
returns-in_err-rest-clause-text g c =
    let p = err_from_is_err_and c.from_residual-in_err-rest.result c.from_residual-in_err-rest.ensures.1 in
    rw (p.1, p.2) (λ rs lives end max each is.
    let seen = g.S.DotSet.contents c.reading.seen in
    let live = g.S.DotSet.contents c.reading.live in
    let r = c.reading.invariant.text rs lives end max each is in
    let got = c.in_ok-lo.ensures.text (head r.left) (behind lives r.left end) (first_packed c.args.replicas rs lives seen live c.reading.rest.now end c.reading.end r) (runs_text_front c.args.replicas rs lives seen live c.reading.rest.now end c.reading.end r) in
    let next = one_more c.args.replicas rs lives seen live c.reading.rest.now end c.reading.end r c.in_ok-lo.lo c.in_ok-lo.after.now c.if-lo-eq0.false got.0 got.1 in
    let fits = run_fits next.run next.bounds c.in_ok-lo.lo next.begins in
    let place = c.in_ok-replica.ensures.text next.run.replica next.run.hi _ next.below fits.0 fits.1 next.bytes in
    let f = lives_in lives next.run.replica in
    let more = runs_text lives next.rs ++ end in
    c.in_err-rest.ensures f more (place.1.1 ∙ ap (λ (h : ℕ). lives_text f c.in_ok-lo.lo (h + 1 - c.in_ok-lo.lo) ++ more) (sym place.1.0)))

pub reading-preserved : goal.reading-preserved
reading-preserved g c = record {
  below = λ d h. still_below c.args.replicas c.in_ok-replica.replica c.in_ok-lo.lo c.in_ok-replica.hi (g.S.DotSet.contents c.reading.seen) (g.S.DotSet.contents c.insert_run.new.self) c.reading.invariant.below c.in_ok-replica.ensures.below c.in_ok-insert_run.ensures.ok d h;
  within = c.in_ok-replica.ensures.most;
  small = omega (arith, c.in_ok-replica.ensures.byte);
  text = λ rs lives end max each is. (
      let seen = g.S.DotSet.contents c.reading.seen in
      let live = g.S.DotSet.contents c.reading.live in
      let r = c.reading.invariant.text rs lives end max each is in
      let got = c.in_ok-lo.ensures.text (head r.left) (behind lives r.left end) (first_packed c.args.replicas rs lives seen live c.reading.rest.now end c.reading.end r) (runs_text_front c.args.replicas rs lives seen live c.reading.rest.now end c.reading.end r) in
      let next = one_more c.args.replicas rs lives seen live c.reading.rest.now end c.reading.end r c.in_ok-lo.lo c.in_ok-lo.after.now c.if-lo-eq0.false got.0 got.1 in
      let fits = run_fits next.run next.bounds c.in_ok-lo.lo next.begins in
      let place = c.in_ok-replica.ensures.text next.run.replica next.run.hi _ next.below fits.0 fits.1 next.bytes in
      let f = lives_in lives next.run.replica in
      let more = runs_text lives next.rs ++ end in
      let were = c.in_ok-rest.ensures f more (place.1.1 ∙ ap (λ (h : ℕ). lives_text f c.in_ok-lo.lo (h + 1 - c.in_ok-lo.lo) ++ more) (sym place.1.0)) in
      runs_go_on c.args.replicas rs lives seen live (g.S.DotSet.contents c.insert_run.new.self) (g.S.DotSet.contents c.read_lives.new.live) c.in_ok-lo.after.now c.in_ok-rest.rest.now end c.reading.end c.in_ok-lo.lo c.in_ok-replica.replica c.in_ok-replica.hi next r.each_live place.0 place.1.0 c.in_ok-insert_run.ensures.ok were.1 were.0);
}

pub reading-smaller : goal.reading-smaller
reading-smaller g c =
    let first : Dot = record { replica = c.in_ok-replica.replica; seq = c.in_ok-lo.lo } in
    goes_up c.reading.end first c.in_ok-replica.hi c.reading.invariant.within (omega (arith, c.in_ok-replica.ensures.byte)) c.in_ok-replica.ensures.rises c.in_ok-replica.ensures.most (sym c.is_after.ensures ∙ c.if-not-is_after.false)

use Rattle.std.proofs.Common.{◌≡◌, ◌+◌, ◌-◌, ◌/◌, ◌<◌, true, length, get_or, drop, sym, ◌∙◌, ap, arith}
use Rattle.rds_dots.specs.declared.dot.Dot.{Dot}
use Rattle.rds_dots.specs.declared.dot.Run.{Run}
use Rattle.rds_dots.specs.Dots.{last_of}
use Rattle.rds_dots.specs.Drawn.{put_run, leads_by}
use Rattle.rds_dots.specs.Runs.{runs_of_dots}
use Rattle.rds_dots.proofs.Lines.{draw_to, drawn_whole}
use Rattle.rds_dots.proofs.lists.drawn_on.Goals as goal

pub searching-preserved-then-is_ahead : goal.searching-preserved-then-is_ahead
searching-preserved-then-is_ahead c =
    let i = c.searching.invariant in
    let run = c.args.run in
    let rest = c.args.rest.now in
    let at = c.searching.low + (c.searching.high - c.searching.low) / 2 in
    let default : Dot = record { replica = 0; seq = 0 } in
    let lt : at < length rest = omega (arith, i.within, c.searching-test.true) in
    let ahead : leads_by (at + 1) (last_of run) (get_or rest at default) ≡ true = ap (λ last. leads_by (at + 1) last (get_or rest at default)) (sym c.last-last.ensures) ∙ sym c.is_ahead.ensures ∙ c.if-is_ahead.true in
    let to = draw_to run rest at default c.requires lt ahead in
    let from : Dot → Run = λ d. record { replica = d.replica; lo = d.seq; hi = (get_or rest at default).seq } in
    record {
      order = omega (arith, c.searching-test.true);
      within = i.within;
      first = i.first;
      last = to.0;
      whole = ap (λ d. put_run (from d) (runs_of_dots (drop (at + 1) rest))) i.first ∙ to.1;
      apart = i.apart;
    }

pub returns-clause-whole : goal.returns-clause-whole
returns-clause-whole c =
    let i = c.searching.invariant in
    drawn_whole c.args.run c.searching.run c.args.rest.now c.searching.low c.searching.high i.first i.last i.whole i.order c.searching-test.false i.within i.apart

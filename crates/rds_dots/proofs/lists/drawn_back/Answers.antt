use Rattle.std.proofs.Common.{◌≡◌, ◌+◌, ◌-◌, ◌/◌, ◌<◌, true, length, get_or, take, ◌∷◌, sym, ◌∙◌, ap, arith}
use Rattle.rds_dots.specs.declared.dot.Dot.{Dot}
use Rattle.rds_dots.specs.declared.dot.Run.{Run}
use Rattle.rds_dots.specs.Dots.{first_of}
use Rattle.rds_dots.specs.Drawn.{leads_by, put_dots}
use Rattle.rds_dots.proofs.LinesBack.{put_to, drawn_first}
use Rattle.rds_dots.proofs.lists.drawn_back.Goals as goal

pub searching-preserved-then-is_ahead : goal.searching-preserved-then-is_ahead
searching-preserved-then-is_ahead c =
    let i = c.searching.invariant in
    let run = c.args.run in
    let before = c.args.before.now in
    let at = c.searching.low + (c.searching.high - c.searching.low) / 2 in
    let default : Dot = record { replica = 0; seq = 0 } in
    let lt : at < length before = omega (arith, i.within, c.searching-test.true) in
    let ahead : leads_by (length before - at) (get_or before at default) (first_of run) ≡ true = ap (leads_by (length before - at) (get_or before at default)) (sym c.first-first.ensures) ∙ sym c.is_ahead.ensures ∙ c.if-is_ahead.true in
    let to = put_to run before at default c.requires lt ahead in
    let upto : Dot → Run = λ d. record { replica = d.replica; lo = (get_or before at default).seq; hi = d.seq } in
    record {
      order = omega arith;
      within = omega (arith, lt);
      last = i.last;
      far = to.0;
      whole = λ rs. ap (λ d. put_dots (take at before) (upto d ∷ rs)) i.last ∙ to.1 rs;
      apart = i.apart;
    }

pub returns : goal.returns
returns c = λ after rs early ends.
    let i = c.searching.invariant in
    drawn_first after c.args.run c.searching.run c.args.before.now c.searching.low c.searching.high rs i.last i.far (i.whole rs) i.order c.searching-test.false i.within i.apart early ends

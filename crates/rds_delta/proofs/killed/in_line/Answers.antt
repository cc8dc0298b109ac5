use Rattle.std.proofs.Common.{◌≡◌, ◌+◌, ◌-◌, ◌/◌, ◌<◌, length, get_or, sym, ◌∙◌, arith, true}
use Rattle.rds_dots.specs.Dots.{first_of}
use Rattle.rds_dots.specs.Drawn.{leads_by}
use Rattle.rds_delta.proofs.LineLemmas.{line_listed}
use Rattle.rds_delta.proofs.killed.in_line.Goals as goal

pub searching-preserved-then-is_ahead : goal.searching-preserved-then-is_ahead
searching-preserved-then-is_ahead c =
    let i = c.searching.invariant in
    let run = c.args.run in
    let rows = c.args.rows.now in
    let at = c.searching.low + (c.searching.high - c.searching.low) / 2 in
    let row = c.index-rows-middle.result in
    let lt : at < length rows = omega (arith, i.within, c.searching-test.true) in
    let ahead : leads_by (at + 1) (first_of run) (get_or rows at row).0 ≡ true = sym c.is_ahead.ensures ∙ c.if-is_ahead.true in
    record {
      order = omega (arith, c.searching-test.true);
      within = i.within;
      most = i.most;
      live = λ n a b. line_listed run.replica run.lo rows at row c.requires.rise lt ahead n a (omega (arith, b));
    }

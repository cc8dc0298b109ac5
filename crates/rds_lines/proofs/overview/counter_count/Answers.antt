use Rattle.std.proofs.Common.{◌≡◌, [], drop, length, map as each, ap, arith}
use Rattle.std.specs.Option.{option_copied}
use Rattle.std.proofs.lemmas.List.{drop_all}
use Rattle.rds_tree.specs.Distinct.{distinct}
use Rattle.rds_names.specs.Key.{key_cmp}
use Rattle.rds_lines.proofs.Overviews.{counted_by_rows}
use Rattle.rds_lines.proofs.overview.counter_count.Goals as goal

pub returns : goal.returns
returns c =
    let l = c.loop-row in
    let rows = c.rows-rows.result.now in
    let over : drop l.row-index rows ≡ [] = drop_all l.row-index rows c.loop-row-test.false in
    let none : length (distinct key_cmp (option_copied l.last) (each (λ r. r.key) (drop l.row-index rows))) ≡ 0 =
    ap (λ rs. length (distinct key_cmp (option_copied l.last) (each (λ r. r.key) rs))) over in
    let counted = l.invariant.counted in
    let all = counted_by_rows c.args.counts.now rows c.rows-rows.ensures.are_rows c.rows-rows.ensures.value in
    omega (arith, none, counted, all)

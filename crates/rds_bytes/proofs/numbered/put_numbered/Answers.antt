use Rattle.std.proofs.Common.{◌≡◌, ◌++◌, ◌∙◌, ap, Result, Ok, Err, List, length}
use Rattle.std.specs.Prelude.{OnOk}
use Rattle.std.specs.Int.{w32, to_be_bytes}
use Rattle.rds_life.specs.Life.{live_rows}
use Rattle.rds_counts.specs.declared.row.CountRow.{CountRow}
use Rattle.rds_counts.specs.RowsOf.{count_rows}
use Rattle.rds_bytes.specs.Numbers.{numbered_counts_text}
use Rattle.rds_bytes.specs.Spelling.{keyed_counters_text}
use Rattle.rds_bytes.proofs.NumberedTexts.{own_enough, left_enough, all_added}
use Rattle.rds_bytes.proofs.numbered.put_numbered.Goals as goal

on_ok : {T E : Type 0} {P Q : Type 0} (r : Result T E) → (P → Q) → OnOk r P → OnOk r Q
on_ok (Ok x) f p = f p
on_ok (Err e) f p = tt

pub put_rows-requires : goal.put_rows-requires
put_rows-requires g c = own_enough (live_rows c.args.lives.now) (count_rows c.args.counts.now) c.args.numbers.now c.requires.numbers

pub put_count_rows-requires : goal.put_count_rows-requires
put_count_rows-requires g c =
    rw c.rows-rows.ensures.only (left_enough (live_rows c.args.lives.now) (count_rows c.args.counts.now) c.args.numbers.now c.requires.numbers c.in_ok-left.left.now c.in_ok-left.ensures.left)

pub returns : goal.returns
unfolding keyed_counters_text
returns g c =
    let rows = live_rows c.args.lives.now in
    let counts = count_rows c.args.counts.now in
    let left = c.in_ok-left.left.now in
    let before = c.args.out.now.items in
    let third = c.put_u32-2.new.out.items in
    let first : c.put_u32.new.out.items ≡ before ++ to_be_bytes w32 (length rows) = rw c.live_len.ensures at c.in_ok-put_u32.ensures in
    let count : third ≡ c.put_rows.new.out.items ++ to_be_bytes w32 (length counts) = rw c.rows-rows.ensures.only at c.in_ok-put_u32-2.ensures in
    on_ok c.put_count_rows.result
    (λ last. all_added rows counts c.args.numbers.now c.requires.numbers before c.put_u32.new.out.items c.put_rows.new.out.items third c.put_count_rows.new.out.items left c.in_ok-left.ensures.left first c.in_ok-left.ensures.text count
    (last ∙ ap (λ (r : List CountRow). third ++ numbered_counts_text r left) c.rows-rows.ensures.only))
    c.put_count_rows.ensures

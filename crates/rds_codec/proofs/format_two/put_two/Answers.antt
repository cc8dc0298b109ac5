use Rattle.std.proofs.Common.{◌≡◌, ◌<◌, ◌^◌, ℕ, List, ◌++◌, length, ap, sym, subst, ◌∙◌}
use Rattle.rds_counts.specs.Counted.{Counted}
use Rattle.rds_counts.specs.RowsOf.{count_rows}
use Rattle.rds_dots.specs.Dots.{Dots}
use Rattle.rds_dots.specs.Runs.{runs_of}
use Rattle.rds_life.specs.Life.{Lived, seen_of, live_rows}
use Rattle.rds_bytes.specs.DotRows.{rows_from, CanCountAll}
use Rattle.rds_bytes.specs.Spelling.{dots_text, keyed_live_rows_text, keyed_counters_text}
use Rattle.rds_bytes.specs.Table.{table_of, used_keys}
use Rattle.rds_bytes.specs.TableTexts.{table_text, number_text}
use Rattle.rds_codec.proofs.StateFormats.{two_within}
use Rattle.rds_codec.proofs.Texts.{two_parts, OnOk-map}
use Rattle.rds_codec.proofs.format_two.put_two.Goals as goal

abbrev used : Lived → Counted → List (List ℕ)
used l m = used_keys (live_rows l) (count_rows m)

pub put_table-requires : goal.put_table-requires
put_table-requires g c = subst (λ (keys : List (List ℕ)). length keys < 2 ^ 32) (sym (c.deref.ensures.value ∙ c.requires.keys)) (two_within c.args.state.now c.requires.within).keys

pub put_dots-requires-clause-few : goal.put_dots-requires-clause-few
put_dots-requires-clause-few g c =
    let seen = c.seen.ensures ∙ ap seen_of c.lives-lives.ensures in
    subst (λ (s : Dots). CanCountAll (rows_from 0 (runs_of s))) (sym seen) (two_within c.args.state.now c.requires.within).state.dots

pub put_numbered-requires-clause-rows : goal.put_numbered-requires-clause-rows
put_numbered-requires-clause-rows g c =
    subst (λ (l : Lived). length (live_rows l) < 2 ^ 32) (sym c.lives-lives.ensures) (two_within c.args.state.now c.requires.within).state.rows

pub put_numbered-requires-clause-counts : goal.put_numbered-requires-clause-counts
put_numbered-requires-clause-counts g c =
    subst (λ (m : Counted). length (count_rows m) < 2 ^ 32) (sym c.counts.ensures) (two_within c.args.state.now c.requires.within).state.counts

abbrev written : Lived → Counted → List ℕ
written l m = keyed_live_rows_text (number_text (table_of (used l m))) (live_rows l) ++ keyed_counters_text (number_text (table_of (used l m))) m

pub returns : goal.returns
returns g c =
    let v = c.args.state.now in
    let a = c.args.out.now.items in
    let b = c.put_table.new.out.items in
    let d = c.put_dots.new.out.items in
    let seen = c.seen.ensures ∙ ap seen_of c.lives-lives.ensures in
    let same : written c.lives-lives.result.now c.counts.result.now ≡ written v.lives v.counts = λ i. written (c.lives-lives.ensures i) (c.counts.ensures i) in
    OnOk-map c.put_numbered.result
    (λ last. two_parts v a b d c.put_numbered.new.out.items
    (c.in_ok-put_table.ensures ∙ ap (λ (keys : List (List ℕ)). a ++ table_text keys) (c.deref.ensures.value ∙ c.requires.keys))
    (c.in_ok-put_dots.ensures ∙ ap (λ (s : Dots). b ++ dots_text s) seen)
    (last ∙ ap (λ (t : List ℕ). d ++ t) same))
    c.put_numbered.ensures

use Rattle.std.proofs.Common.{◌≡◌, ◌<◌, ◌^◌, ap, sym, subst, ◌∙◌, ◌++◌, length, List}
use Rattle.rds_counts.specs.Counted.{Counted}
use Rattle.rds_counts.specs.RowsOf.{count_rows}
use Rattle.rds_names.specs.declared.entry.Entry.{Entry}
use Rattle.rds_dots.specs.declared.dot.Dot.{Dot}
use Rattle.rds_dots.specs.Dots.{Dots}
use Rattle.rds_dots.specs.Runs.{runs_of}
use Rattle.rds_life.specs.Life.{seen_of, live_rows}
use Rattle.rds_bytes.specs.DotRows.{rows_from, CanCountAll}
use Rattle.rds_bytes.specs.Spelling.{dots_text, live_rows_text, counters_text}
use Rattle.rds_codec.proofs.StateFormats.{one_within}
use Rattle.rds_codec.proofs.Texts.{one_parts, OnOk-map}
use Rattle.rds_codec.proofs.format_one.put_one.Goals as goal

pub put_dots-requires-clause-few : goal.put_dots-requires-clause-few
put_dots-requires-clause-few g c =
    let v = c.args.state.now in
    let seen : g.S.DotSet.contents c.seen.result.now ≡ seen_of v.lives = c.seen.ensures ∙ ap seen_of c.lives-lives.ensures in
    subst (λ (s : Dots). CanCountAll (rows_from 0 (runs_of s))) (sym seen) (one_within v c.requires.within).dots

pub put_live_rows-requires : goal.put_live_rows-requires
put_live_rows-requires g c =
    let v = c.args.state.now in
    let live : live_rows c.lives-lives.result.now ≡ live_rows v.lives = ap live_rows c.lives-lives.ensures in
    subst (λ (rows : List (Dot × Entry)). length rows < 2 ^ 32) (sym live) (one_within v c.requires.within).rows

pub put_counters-requires : goal.put_counters-requires
put_counters-requires g c =
    let v = c.args.state.now in
    subst (λ (m : Counted). length (count_rows m) < 2 ^ 32) (sym c.counts.ensures) (one_within v c.requires.within).counts

pub returns : goal.returns
returns g c =
    let v = c.args.state.now in
    let seen : g.S.DotSet.contents c.seen.result.now ≡ seen_of v.lives = c.seen.ensures ∙ ap seen_of c.lives-lives.ensures in
    let live : live_rows c.lives-lives.result.now ≡ live_rows v.lives = ap live_rows c.lives-lives.ensures in
    let a = c.args.out.now.items in
    let b = c.put_dots.new.out.items in
    let p = c.put_live_rows.new.out.items in
    OnOk-map c.put_counters.result
    (λ last. one_parts v a b p c.put_counters.new.out.items
    (c.in_ok-put_dots.ensures ∙ ap (λ (s : Dots). a ++ dots_text s) seen)
    (c.in_ok-put_live_rows.ensures ∙ ap (λ (rows : List (Dot × Entry)). b ++ live_rows_text rows) live)
    (last ∙ ap (λ (m : Counted). p ++ counters_text m) c.counts.ensures))
    c.put_counters.ensures

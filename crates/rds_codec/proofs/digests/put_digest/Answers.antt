use Rattle.std.proofs.Common.{◌<◌, ◌^◌, ap, sym, subst, ◌∙◌, ◌++◌, length}
use Rattle.rds_counts.specs.Counted.{Counted}
use Rattle.rds_counts.specs.RowsOf.{count_rows}
use Rattle.rds_dots.specs.Dots.{Dots}
use Rattle.rds_dots.specs.Runs.{runs_of}
use Rattle.rds_bytes.specs.DotRows.{rows_from, CanCountAll}
use Rattle.rds_bytes.specs.Spelling.{dots_text, counters_text}
use Rattle.rds_codec.proofs.DigestFormats.{digest_within, digest_parts}
use Rattle.rds_codec.proofs.Texts.{OnOk-map}
use Rattle.rds_codec.proofs.digests.put_digest.Goals as goal

pub put_dots-requires-clause-few : goal.put_dots-requires-clause-few
put_dots-requires-clause-few g c = subst (λ (s : Dots). CanCountAll (rows_from 0 (runs_of s))) (sym c.seen.ensures.dots) (digest_within c.args.digest.now c.requires.within).seen

pub put_dots-requires-2-clause-few : goal.put_dots-requires-2-clause-few
put_dots-requires-2-clause-few g c = subst (λ (s : Dots). CanCountAll (rows_from 0 (runs_of s))) (sym c.live.ensures) (digest_within c.args.digest.now c.requires.within).live

pub put_counters-requires : goal.put_counters-requires
put_counters-requires g c = subst (λ (m : Counted). length (count_rows m) < 2 ^ 32) (sym c.counts.ensures) (digest_within c.args.digest.now c.requires.within).counts

pub returns : goal.returns
returns g c =
    let v = c.args.digest.now in
    let a = c.args.out.now.items in
    let b = c.put_dots.new.out.items in
    let p = c.put_dots-2.new.out.items in
    OnOk-map c.put_counters.result
    (λ last. digest_parts v a b p c.put_counters.new.out.items
    (c.in_ok-put_dots.ensures ∙ ap (λ (s : Dots). a ++ dots_text s) c.seen.ensures.dots)
    (c.in_ok-put_dots-2.ensures ∙ ap (λ (s : Dots). b ++ dots_text s) c.live.ensures)
    (last ∙ ap (λ (m : Counted). p ++ counters_text m) c.counts.ensures))
    c.put_counters.ensures

use Rattle.std.proofs.Common.{◌++◌, sym, subst}
use Rattle.std.proofs.lemmas.Result.{err_from_is_err_and}
use Rattle.rds_dots.specs.Runs.{runs_of}
use Rattle.rds_delta.specs.Digested.{DigestValue}
use Rattle.rds_bytes.specs.Spelling.{counters_text}
use Rattle.rds_codec.specs.DigestTexts.{IsDigestOf}
use Rattle.rds_briefs.proofs.DigestsRead.{seen_maximal, seen_below, is_inside, digest_is, brief_front, few_counters}
use Rattle.rds_briefs.proofs.briefs.read_digest.Goals as goal

pub returns-in_err-sets-clause-text : goal.returns-in_err-sets-clause-text
returns-in_err-sets-clause-text g c =
    let p = err_from_is_err_and c.from_residual.result c.from_residual.ensures.1 in
    rw (p.1, p.2) (λ v rest is whole.
    c.in_err-sets.ensures.text (runs_of v.seen) v.live (counters_text v.counts ++ rest) (seen_maximal c.args.replicas v is) (seen_below c.args.replicas v is) (brief_front c.args.replicas v is c.args.bytes.now rest whole))

pub returns-in_err-counts-clause-text : goal.returns-in_err-counts-clause-text
returns-in_err-counts-clause-text g c =
    let p = err_from_is_err_and c.from_residual-in_err-counts.result c.from_residual-in_err-counts.ensures.1 in
    rw (p.1, p.2) (λ v rest is whole.
    let got = c.in_ok-sets.ensures.text (runs_of v.seen) v.live (counters_text v.counts ++ rest) (seen_maximal c.args.replicas v is) (seen_below c.args.replicas v is) (brief_front c.args.replicas v is c.args.bytes.now rest whole) in
    c.in_err-counts.ensures.text v.counts rest is.counts (few_counters c.args.replicas v is c.args.bytes.now rest whole c.requires.within) got.0)

pub returns-in-None-clause-text : goal.returns-in-None-clause-text
returns-in-None-clause-text g c = λ v rest is whole.
    let got = c.in_ok-sets.ensures.text (runs_of v.seen) v.live (counters_text v.counts ++ rest) (seen_maximal c.args.replicas v is) (seen_below c.args.replicas v is) (brief_front c.args.replicas v is c.args.bytes.now rest whole) in
    absurd (c.in-None.ensures.exact (is_inside c.args.replicas v is _ _ got.1))

pub returns-in-Some-clause-value : goal.returns-in-Some-clause-value
returns-in-Some-clause-value g c =
    let sets = c.in_ok-sets.sets in
    let parts : DigestValue = record { seen = g.S.DotSet.contents sets.0; live = g.S.DotSet.contents sets.1; counts = c.in_ok-counts.counts } in
    let is : IsDigestOf c.args.replicas parts = record {
      dots = λ d h. (g.met.S.DotSet.within sets.0 d h, c.in_ok-sets.ensures.below d h);
      inside = c.in-Some.ensures.exact;
      counts = c.in_ok-counts.ensures.are;
    } in
    subst (λ (v : DigestValue). IsDigestOf c.args.replicas v) (sym c.in-Some.ensures.value) is

pub returns-in-Some-clause-text : goal.returns-in-Some-clause-text
returns-in-Some-clause-text g c = λ v rest is whole.
    let got = c.in_ok-sets.ensures.text (runs_of v.seen) v.live (counters_text v.counts ++ rest) (seen_maximal c.args.replicas v is) (seen_below c.args.replicas v is) (brief_front c.args.replicas v is c.args.bytes.now rest whole) in
    let counts = c.in_ok-counts.ensures.text v.counts rest is.counts (few_counters c.args.replicas v is c.args.bytes.now rest whole c.requires.within) got.0 in
    digest_is c.args.replicas v is _ _ got.1 c.in_ok-counts.counts counts.0 c.in-Some.digest c.in-Some.ensures.value

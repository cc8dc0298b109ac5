use Rattle.std.proofs.Common.{◌<◌, ℕ, ap, sym, subst, ◌∙◌, ◌+◌, length}
use Rattle.std.specs.FinSet as set
use Rattle.rds_dots.specs.Dots.{Dots}
use Rattle.rds_counts.specs.Counted.{Counted, number}
use Rattle.rds_counts.specs.Place.{Place}
use Rattle.rds_bytes.specs.Spelling.{dots_text, counters_text}
use Rattle.rds_bytes.specs.Values.{AreCountsOf}
use Rattle.rds_codec.proofs.DigestFormats.{digest_length}
use Rattle.rds_codec.proofs.digests.measure.Goals as goal

pub returns-clause-length : goal.returns-clause-length
returns-clause-length g c =
    let seen = c.measure_dots-seen_rows.ensures.length ∙ ap (λ (s : Dots). length (dots_text s)) c.seen.ensures.dots in
    let live = c.measure_dots-live_rows.ensures.length ∙ ap (λ (s : Dots). length (dots_text s)) c.live.ensures in
    let counts = c.counters_length.ensures.length ∙ ap (λ (m : Counted). length (counters_text m)) c.counts.ensures in
    (λ i. seen i + live i + counts i) ∙ sym (digest_length c.args.digest.now)

pub returns-clause-dots : goal.returns-clause-dots
returns-clause-dots g c = λ replicas fits d h. (g.met.S.DotSet.within c.seen.result.now d (ap (λ (s : Dots). set.contains s d) c.seen.ensures.dots ∙ h), fits.dots d h)

pub returns-clause-value : goal.returns-clause-value
returns-clause-value g c = λ replicas fits.
    let v = c.args.digest.now in
    record {
      dots = λ d h. (g.met.S.DotSet.within c.seen.result.now d (ap (λ (s : Dots). set.contains s d) c.seen.ensures.dots ∙ h), fits.dots d h);
      inside = c.seen.ensures.inside;
      counts = subst (λ (m : Counted). (replicas : ℕ) → ((q : Place) → 0 < number m q → q.replica < replicas) → AreCountsOf replicas m) c.counts.ensures c.counters_length.ensures.are_counts replicas fits.numbers;
    }

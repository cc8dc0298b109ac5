-- A digest is a format.
use Rattle.std.proofs.Common.{◌≡◌, ℕ, ◌+◌, ◌^◌, ◌<◌, ◌≤◌, true, List, ◌++◌, length, refl, arith}
use Rattle.std.specs.FinSet as set
use Rattle.rds_dots.specs.Dots.{Dots}
use Rattle.rds_dots.specs.Order.{dots_total}
use Rattle.rds_counts.specs.Counted.{Counted}
use Rattle.rds_counts.specs.RowsOf.{count_rows}
use Rattle.rds_delta.specs.Digested.{DigestValue}
use Rattle.rds_codec.specs.declared.limits.TheConstants.{LIMIT}
use Rattle.rds_codec.specs.DigestTexts.{DigestParts, IsDigestOf, are_seen, digest_by, digest_text, live_dots_at, digest_at, digest_kind}
use Rattle.rds_bytes.specs.Reading as read
use Rattle.rds_bytes.specs.Reading.{then_at, pair_at, dots_at, counters_at}
use Rattle.rds_bytes.specs.Spelling.{dots_text, counters_text}
use Rattle.rds_bytes.proofs.Format.{IsFormat, then_format, pair_format, made_format, when_format}
use Rattle.rds_bytes.proofs.CounterFormats.{AreCounts, counters_format}
use Rattle.rds_bytes.proofs.DotFormats.{CanCountDots, AreDots, dots_format}
use Rattle.rds_bytes.proofs.Sequences.{three_lengths, three_added}
use Rattle.rds_codec.proofs.Whole.{IsReaderOf, reader_of}
use Rattle.rds_codec.proofs.Within.{dots_within, counts_within}

-- its rows can be counted in their fields
pub record CanCountDigest (g : DigestValue) : Type 0 where
  pub seen : CanCountDots g.seen
  pub live : CanCountDots g.live
  pub counts : length (count_rows g.counts) < 2 ^ 32

pub digest_within : (g : DigestValue) → length (digest_text g) ≤ LIMIT → CanCountDigest g
unfolding digest_text
digest_within g le =
    let all = three_lengths (dots_text g.seen) (dots_text g.live) (counters_text g.counts) in
    record { seen = dots_within g.seen (omega (arith, all)); live = dots_within g.live (omega (arith, all)); counts = counts_within g.counts (omega (arith, all)) }

module _ (replicas : ℕ) where
  abbrev IsLive : Dots → Dots → Type 0
  IsLive seen live = AreDots replicas live × (are_seen seen live ≡ true)

  live_format : (seen : Dots) → IsFormat (live_dots_at replicas seen) dots_text (IsLive seen)
  unfolding live_dots_at
  live_format seen = when_format (are_seen seen) _ _ _ (dots_format replicas)

  abbrev Tail : Type 0
  Tail = Dots × Counted

  abbrev tail_text : Tail → List ℕ
  tail_text p = dots_text p.0 ++ counters_text p.1

  abbrev IsTail : Dots → Tail → Type 0
  IsTail seen p = IsLive seen p.0 × AreCounts replicas p.1

  tail_format : (seen : Dots) → IsFormat (pair_at (live_dots_at replicas seen) (counters_at replicas)) tail_text (IsTail seen)
  tail_format seen =
      pair_format (live_dots_at replicas seen) (counters_at replicas) dots_text counters_text (IsLive seen) (AreCounts replicas) (live_format seen) (counters_format replicas)

  abbrev parts_text : DigestParts → List ℕ
  parts_text p = dots_text p.0 ++ tail_text p.1

  abbrev AreParts : DigestParts → Type 0
  AreParts p = AreDots replicas p.0 × IsTail p.0 p.1

  abbrev tail_at : Dots → read.Reader Tail
  tail_at seen = pair_at (live_dots_at replicas seen) (counters_at replicas)

  parts_format : IsFormat (then_at (dots_at replicas) tail_at) parts_text AreParts
  parts_format = then_format (dots_at replicas) tail_at dots_text (λ _. tail_text) (AreDots replicas) IsTail (dots_format replicas) (λ seen _. tail_format seen)

  abbrev parts_of : DigestValue → DigestParts
  parts_of g = (g.seen, (g.live, g.counts))

  abbrev FitsDigest : DigestValue → Type 0
  FitsDigest g = IsDigestOf replicas g × CanCountDigest g

  there : (g : DigestValue) → FitsDigest g → AreParts (parts_of g) × (digest_by (parts_of g) ≡ g)
  there g h =
      let is = h.0 in
      let can = h.1 in (
        (
          (is.dots, can.seen),
          (
            ((λ d in_live. is.dots d (is.inside.each_dot d in_live), can.live), set.contains-is_subset dots_total g.live g.seen is.inside.each_dot),
            (is.counts, can.counts),
          ),
        ),
        refl,
      )

  back : (p : DigestParts) → AreParts p → FitsDigest (digest_by p) × (parts_of (digest_by p) ≡ p)
  back p h =
      let seen = h.0 in
      let live = h.1.0 in
      let counts = h.1.1 in (
        (
          record { dots = seen.0; inside = record { each_dot = set.is_subset-contains dots_total p.1.0 p.0 live.1 }; counts = counts.0 },
          record { seen = seen.1; live = live.0.1; counts = counts.1 },
        ),
        refl,
      )

  digest_format : IsFormat (digest_at replicas) digest_text FitsDigest
  unfolding digest_at digest_text
  digest_format = made_format digest_by parts_of _ parts_text AreParts FitsDigest there back parts_format

  pub digest_reader : IsReaderOf (digest_kind replicas) (digest_at replicas)
  digest_reader = reader_of (digest_kind replicas) (digest_at replicas) FitsDigest digest_format (λ g h. h.0) (λ g is le. (is, digest_within g le))

-- ---- its text, part after part

pub digest_length : (g : DigestValue) → length (digest_text g) ≡ length (dots_text g.seen) + length (dots_text g.live) + length (counters_text g.counts)
unfolding digest_text
digest_length g = three_lengths (dots_text g.seen) (dots_text g.live) (counters_text g.counts)

pub digest_parts : (g : DigestValue) (a b c d : List ℕ) → b ≡ a ++ dots_text g.seen → c ≡ b ++ dots_text g.live → d ≡ c ++ counters_text g.counts → d ≡ a ++ digest_text g
unfolding digest_text
digest_parts g a b c d p q r = three_added a b c d (dots_text g.seen) (dots_text g.live) (counters_text g.counts) p q r

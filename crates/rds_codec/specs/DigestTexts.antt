-- The text of a digest, how it is read, and which digests have one.
use Rattle.std.specs.Prelude.{◌≡◌, ◌<◌, ℕ, Bool, true, List, ◌++◌}
use Rattle.std.specs.FinSet as set
use Rattle.rds_dots.specs.declared.dot.Dot.{Dot}
use Rattle.rds_dots.specs.Dots.{Dots}
use Rattle.rds_counts.specs.Counted.{Counted, number}
use Rattle.rds_counts.specs.Place.{Place}
use Rattle.rds_delta.specs.Digested.{DigestValue, IsInside}
use Rattle.rds_codec.specs.Kinds.{Kind}
use Rattle.rds_bytes.specs.Reading.{Reader, then_at, pair_at, made_at, when_at, dots_at, counters_at}
use Rattle.rds_bytes.specs.Spelling.{dots_text, counters_text}
use Rattle.rds_bytes.specs.Values.{AreDotsOf, AreCountsOf}

-- the seen dots, the live ones of them, and the counters
unfoldable pub digest_text : DigestValue → List ℕ
digest_text g = dots_text g.seen ++ (dots_text g.live ++ counters_text g.counts)

-- whether each live dot is seen
abbrev pub are_seen : Dots → Dots → Bool
are_seen seen live = set.is_subset live seen

-- the live dots, judged when their set is read to its end
unfoldable pub live_dots_at : ℕ → Dots → Reader Dots
live_dots_at replicas seen = when_at (are_seen seen) (dots_at replicas)

abbrev pub DigestParts : Type 0
DigestParts = Dots × (Dots × Counted)

abbrev pub digest_by : DigestParts → DigestValue
digest_by p = record { seen = p.0; live = p.1.0; counts = p.1.1 }

unfoldable pub digest_at : ℕ → Reader DigestValue
digest_at replicas =
    made_at digest_by (then_at (dots_at replicas) (λ seen. pair_at (live_dots_at replicas seen) (counters_at replicas)))

-- all replica numbers of the digest are below this one
pub record DigestFits (replicas : ℕ) (g : DigestValue) : Type 0 where
  pub dots : (d : Dot) → set.contains g.seen d ≡ true → d.replica < replicas
  pub numbers : (q : Place) → 0 < number g.counts q → q.replica < replicas

-- the parts are within their limits, and the live dots are seen
pub record IsDigestOf (replicas : ℕ) (g : DigestValue) : Type 0 where
  pub dots : AreDotsOf replicas g.seen
  pub inside : IsInside g.live g.seen
  pub counts : AreCountsOf replicas g.counts

-- a digest of so many replicas
abbrev pub digest_kind : ℕ → Kind DigestValue
digest_kind replicas = record { is_value = IsDigestOf replicas; text = digest_text }

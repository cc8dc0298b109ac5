-- The readers of texts are steady, and those of a certificate's parts.
use Rattle.std.proofs.Common.{ℕ, eqb}
use Rattle.std.specs.Int.{w32, w64}
use Rattle.rds_dots.specs.Dots.{Dots}
use Rattle.rds_bytes.specs.Steady.{IsSteady}
use Rattle.rds_bytes.specs.SteadyLaws.{agrees_bind, made_steady, then_steady, pair_steady, when_steady, chosen_steady, bad_steady, list_steady, byte_steady, number_steady}
use Rattle.rds_bytes.specs.SteadyParts.{key_steady, replica_steady, member_steady, dots_steady, counters_steady}
use Rattle.rds_codec.specs.CertificateTexts.{claimed_dot_at, ends_at, run_by, run_at, dead_at, which_by, which_at, amount_at, amounts_at, counter_at, number_claim_at, live_by, dead_by, count_by, tagged_row_at, certificate_row_at, certificate_at}
use Rattle.rds_codec.specs.DigestTexts.{live_dots_at, digest_by, digest_at}
use Rattle.rds_codec.specs.HelloTexts.{version_at, hello_by, hello_at}

-- ---- a certificate

claimed_dot_steady : (replicas : ℕ) → IsSteady (claimed_dot_at replicas)
unfolding claimed_dot_at
claimed_dot_steady replicas = made_steady _ _ (pair_steady _ _ (replica_steady replicas) (when_steady _ _ (number_steady w64)))

ends_steady : IsSteady ends_at
unfolding ends_at
ends_steady = then_steady _ _ (when_steady _ _ (number_steady w64)) (λ lo. when_steady _ _ (number_steady w64))

run_steady : (replicas : ℕ) → IsSteady (run_at replicas)
unfolding run_at
run_steady replicas = made_steady run_by _ (pair_steady _ _ (replica_steady replicas) ends_steady)

dead_steady : (replicas : ℕ) → IsSteady (dead_at replicas)
unfolding dead_at
dead_steady replicas = pair_steady _ _ (run_steady replicas) (when_steady _ _ byte_steady)

which_steady : IsSteady which_at
unfolding which_at
which_steady = made_steady which_by _ (when_steady _ _ byte_steady)

amount_steady : IsSteady amount_at
unfolding amount_at
amount_steady = when_steady _ _ (number_steady w64)

claim_steady : IsSteady amounts_at
unfolding amounts_at
claim_steady = pair_steady _ _ which_steady (pair_steady _ _ amount_steady amount_steady)

counter_steady : (replicas : ℕ) → IsSteady (counter_at replicas)
unfolding counter_at
counter_steady replicas = pair_steady _ _ key_steady (replica_steady replicas)

number_claim_steady : (replicas : ℕ) → IsSteady (number_claim_at replicas)
unfolding number_claim_at
number_claim_steady replicas = pair_steady _ _ (counter_steady replicas) claim_steady

tagged_row_steady : (replicas tag : ℕ) → IsSteady (tagged_row_at replicas tag)
tagged_row_steady replicas tag =
    chosen_steady (eqb tag 1) _ _ (made_steady live_by _ (claimed_dot_steady replicas))
    (chosen_steady (eqb tag 2) _ _ (made_steady dead_by _ (dead_steady replicas))
    (chosen_steady (eqb tag 3) _ _ (made_steady count_by _ (number_claim_steady replicas)) bad_steady))

pub row_steady : (replicas : ℕ) → IsSteady (certificate_row_at replicas)
unfolding certificate_row_at
row_steady replicas bytes more = agrees_bind more _ _ (λ tag. tagged_row_at replicas tag.0 tag.1) (byte_steady bytes more) (λ tag rest. tagged_row_steady replicas tag rest more)

pub certificate_steady : (replicas : ℕ) → IsSteady (certificate_at replicas)
unfolding certificate_at
certificate_steady replicas = list_steady _ _ (number_steady w32) (λ _. row_steady replicas)

-- ---- whole texts

pub live_dots_steady : (replicas : ℕ) (seen : Dots) → IsSteady (live_dots_at replicas seen)
unfolding live_dots_at
live_dots_steady replicas seen = when_steady _ _ (dots_steady replicas)

pub digest_steady : (replicas : ℕ) → IsSteady (digest_at replicas)
unfolding digest_at
digest_steady replicas = made_steady digest_by _ (then_steady _ _ (dots_steady replicas) (λ seen. pair_steady _ _ (live_dots_steady replicas seen) (counters_steady replicas)))

version_steady : IsSteady version_at
unfolding version_at
version_steady = when_steady _ _ byte_steady

pub hello_steady : IsSteady hello_at
unfolding hello_at
hello_steady = made_steady hello_by _ (pair_steady _ _ version_steady member_steady)

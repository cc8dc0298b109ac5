-- Steps of reading a key by its packed number.
use Rattle.std.proofs.Common.{◌≡◌, ℕ, ◌<◌, ◌^◌, ltb, List, [], Result, Ok, Err, Option, Some, None, refl, sym, ap, ◌∙◌}
use Rattle.std.specs.Prelude.{slice_get}
use Rattle.std.specs.Int.{w32, to_be_bytes}
use Rattle.std.proofs.lemmas.Bool.{ltb-true}
use Rattle.std.proofs.lemmas.List.{append-nil}
use Rattle.rds_names.specs.declared.fault.Fault.{Fault}
use Rattle.rds_bytes.specs.Reading.{◌>>=◌, Fails, or_bad, number_at}
use Rattle.rds_bytes.specs.Packed.{packed_at}
use Rattle.rds_bytes.specs.TableTexts.{numbered_at}
use Rattle.rds_bytes.proofs.Format.{number32, ok_is}
use Rattle.rds_feeds.specs.WasRead.{when_read}
use Rattle.rds_packed.specs.PackedReading.{packed_u32_at, packed_key_at}
use Rattle.rds_packed.proofs.Loops.{fails_on}

bad_again : {A : Type 0} (o : Option A) (first rest : List ℕ) (e : Fault) → or_bad o first ≡ Err e → or_bad o rest ≡ Err e
bad_again None first rest e h = cc
bad_again (Some a) first rest e h = absurd cc

got_again : {A : Type 0} (o : Option A) (first rest : List ℕ) (a : A) (left : List ℕ) → or_bad o first ≡ Ok (a, left) → or_bad o rest ≡ Ok (a, rest)
got_again None first rest a left h = absurd cc
got_again {A} (Some b) first rest a left h =
    let same : ◌≡◌ {A = A × List ℕ} (b, first) (a, left) = ok_is (b, first) (a, left) h in
    ap (λ (x : A × List ℕ). Ok (x.0, rest)) same

module _ (table : List (List ℕ)) (n : ℕ) (bytes rest : List ℕ) (read : packed_u32_at bytes ≡ Ok (n, rest)) where
  fits : n < 2 ^ 32
  fits = ltb-true n (2 ^ 32) (when_read (λ m. ltb m (2 ^ 32)) packed_at bytes n rest read).1

  by_number : numbered_at table (to_be_bytes w32 n) ≡ or_bad (slice_get table n) []
  unfolding numbered_at
  by_number =
      let number : number_at w32 (to_be_bytes w32 n) ≡ Ok (n, []) = ap (number_at w32) (sym (append-nil (to_be_bytes w32 n))) ∙ number32.again n [] fits in
      ap (λ (r : Result (ℕ × List ℕ) Fault). r >>= λ a. or_bad (slice_get table a.0) a.1) number

  by_packed : packed_key_at table bytes ≡ or_bad (slice_get table n) rest
  unfolding packed_key_at
  by_packed = rw read refl

  pub key_fails : (e : Fault) → Fails e (numbered_at table (to_be_bytes w32 n)) → Fails e (packed_key_at table bytes)
  key_fails e h =
      fails_on e (numbered_at table (to_be_bytes w32 n)) (packed_key_at table bytes) (λ is. by_packed ∙ bad_again (slice_get table n) [] rest e (sym by_number ∙ is)) h

  pub key_read : (key left : List ℕ) → numbered_at table (to_be_bytes w32 n) ≡ Ok (key, left) → packed_key_at table bytes ≡ Ok (key, rest)
  key_read key left h = by_packed ∙ got_again (slice_get table n) [] rest key left (sym by_number ∙ h)

pub no_number : (table : List (List ℕ)) (bytes : List ℕ) (e : Fault) → packed_u32_at bytes ≡ Err e → packed_key_at table bytes ≡ Err e
unfolding packed_key_at
no_number table bytes e h = rw h refl

-- A record is read as it is spelled.
use Rattle.std.proofs.Common.{◌≡◌, ℕ, ◌+◌, ◌^◌, ◌<◌, ◌≤◌, true, false, List, [], ◌++◌, length, Ok, Err, Result, IfSome, IsNone, refl, sym, ap, ◌∙◌, arith}
use Rattle.std.specs.Result.{result_ok}
use Rattle.std.specs.Int.{w32, to_be_bytes}
use Rattle.std.proofs.lemmas.List.{length-append}
use Rattle.std.proofs.lemmas.Bool.Decides.{nat_tests}
use Rattle.sha2.specs.Sha256.{sha256}
use Rattle.sha2.proofs.Facts256.{length-sha256}
use Rattle.rds_names.specs.declared.fault.Fault.{Fault}
use Rattle.rds_bytes.specs.Reading.{when_at, bytes_at, number_at, pair_at, ReadsExactly}
use Rattle.rds_bytes.proofs.Format.{IsBytes, IsFormat, number32, known_format, pair_format, then_format, when_format, made_format}
use Rattle.rds_bytes.proofs.TableLaws.{is_same, same_key}
use Rattle.rds_journal.specs.Records.{record_text, IsPayload, IsBegun, IsFirst, is_length, parts_at, is_summed, record_at}
use Rattle.rds_journal.specs.declared.records.TheConstants.{MOST, HEAD}

pub length_record : (r : List ℕ) → length (record_text r) ≡ length r + HEAD
length_record r = omega (arith, length-sha256 r, length-append (sha256 r) r, length-append (to_be_bytes w32 (length r)) (sha256 r ++ r))

abbrev IsLength : ℕ → Type 0
IsLength n = (n < 2 ^ 32) × (is_length n ≡ true)

abbrev Parts : ℕ × (List ℕ × List ℕ) → Type 0
Parts p = IsLength p.0 × ((length p.1.0 ≡ 32) × (length p.1.1 ≡ p.0))

parts_format : IsFormat parts_at (λ p. to_be_bytes w32 p.0 ++ (p.1.0 ++ p.1.1)) Parts
parts_format =
    then_format (when_at is_length (number_at w32)) (λ n. pair_at (bytes_at 32) (bytes_at n)) (to_be_bytes w32) (λ n p. p.0 ++ p.1) IsLength (λ n p. (length p.0 ≡ 32) × (length p.1 ≡ n))
    (when_format is_length (number_at w32) (to_be_bytes w32) (λ n. n < 2 ^ 32) number32)
    (λ n lt. pair_format (bytes_at 32) (bytes_at n) (λ t. t) (λ t. t) (λ t. length t ≡ 32) (λ t. length t ≡ n) (known_format 32) (known_format n))

short_length : (n : ℕ) → n ≤ MOST → is_length n ≡ true
short_length n short = grind (arith, nat_tests)

length_short : (n : ℕ) → is_length n ≡ true → n ≤ MOST
length_short n is = grind (arith, nat_tests)

there : (r : List ℕ) → IsPayload r → (Parts (length r, (sha256 r, r)) × (is_summed (length r, (sha256 r, r)) ≡ true)) × (r ≡ r)
there r short = ((((omega arith, short_length (length r) short), (length-sha256 r, refl)), is_same (sha256 r)), refl)

back : (p : ℕ × (List ℕ × List ℕ)) → Parts p × (is_summed p ≡ true) → IsPayload p.1.1 × ((length p.1.1, (sha256 p.1.1, p.1.1)) ≡ p)
back p h =
    let sum : p.1.0 ≡ sha256 p.1.1 = same_key p.1.0 (sha256 p.1.1) h.1 in
    let len : length p.1.1 ≡ p.0 = h.0.1.1 in
    let short : p.0 ≤ MOST = length_short p.0 h.0.0.1 in
    (rw len short, rw (len, ← sum) refl)

pub record_format : IsFormat record_at record_text IsPayload
record_format = made_format (λ p. p.1.1) (λ r. (length r, (sha256 r, r))) (when_at is_summed parts_at) (λ p. to_be_bytes w32 p.0 ++ (p.1.0 ++ p.1.1)) (λ p. Parts p × (is_summed p ≡ true)) IsPayload there back (when_format is_summed parts_at (λ p. to_be_bytes w32 p.0 ++ (p.1.0 ++ p.1.1)) Parts parts_format)

-- ---- what a record's reading answers

pub first_ok : (bytes : List ℕ) (x : List ℕ × List ℕ) → IsBytes bytes → record_at bytes ≡ Ok x → IsFirst bytes x.0 x.1
first_ok bytes x fits e =
    let read = record_format.takes bytes x fits e in
    record {
      parts = read.0.parts;
      short = read.1;
      less = rw (read.0.parts) (omega (arith, length_record x.0, length-append (record_text x.0) x.1));
    }

pub none_begun : (bytes : List ℕ) (d : Fault) → record_at bytes ≡ Err d → IsBegun bytes → ⊥
none_begun bytes d e begun =
    let again = record_format.again begun.0 begun.1 begun.2 in
    let is : record_at bytes ≡ Ok (begun.0, begun.1) = rw (begun.3) again in
    absurd (let both : ◌≡◌ {A = Result (List ℕ × List ℕ) Fault} (Err d) (Ok (begun.0, begun.1)) = sym e ∙ is in cc)

pub no_text : (r b : List ℕ) → [] ≡ record_text r ++ b → ⊥
no_text r b e = absurd (let n : 0 ≡ length (record_text r ++ b) = ap length e in omega (arith, length_record r, length-append (record_text r) b))

pub first_of : {X : Type 0} (view : X → List ℕ × List ℕ) (bytes : List ℕ) (read : Result X Fault) → IsBytes bytes → ReadsExactly view read (record_at bytes) → IfSome (result_ok read) (λ p. IsFirst bytes (view p).0 (view p).1)
first_of view bytes (Ok x) fits e = first_ok bytes (view x) fits e
first_of view bytes (Err d) fits e = tt

pub none_of : {X : Type 0} (view : X → List ℕ × List ℕ) (bytes : List ℕ) (read : Result X Fault) → ReadsExactly view read (record_at bytes) → IsNone (result_ok read) → IsBegun bytes → ⊥
none_of view bytes (Ok x) e none = absurd (let no : true ≡ false = none in cc)
none_of view bytes (Err d) e none = none_begun bytes d e

-- A certificate is a format.
use Rattle.std.proofs.Common.{◌≡◌, ℕ, ◌^◌, ◌<◌, ◌≤◌, inl, inr, Bool, true, false, cond, eqb, leb, List, [], ◌∷◌, ◌++◌, length, Result, Ok, Err, refl, sym, ap, subst, arith}
use Rattle.std.specs.Int.{w64, to_be_bytes}
use Rattle.std.proofs.lemmas.Bool.{eqb-true, leb-true, le-leb}
use Rattle.std.proofs.lemmas.Bool.Decides.{nat_tests}
use Rattle.rds_names.specs.declared.fault.Fault.{Fault}
use Rattle.rds_names.specs.declared.fault.Fault.TheVariants.{Bad}
use Rattle.rds_dots.specs.declared.dot.Dot.{Dot}
use Rattle.rds_dots.specs.declared.dot.Run.{Run}
use Rattle.rds_dots.specs.declared.dot.TheConstants.{MAX_SEQ}
use Rattle.rds_dots.specs.Dots.{is_dot, IsRun}
use Rattle.rds_dots.specs.Sets.{dot_limits}
use Rattle.rds_names.specs.Conditions.{and_true, and_left, and_right}
use Rattle.rds_counts.specs.declared.row.Which.{Which}
use Rattle.rds_counts.specs.declared.row.Which.TheVariants.{P, N}
use Rattle.rds_delta.specs.declared.row.Row.{Row}
use Rattle.rds_delta.specs.declared.row.Row.TheVariants.{Live, Dead, Count}
use Rattle.rds_codec.specs.declared.limits.TheConstants.{LIMIT}
use Rattle.rds_codec.specs.CertificateTexts as read
use Rattle.rds_codec.specs.CertificateTexts.{CountParts, IsReplicaOf, IsRowOf, IsCertificateOf, live_by, dead_by, count_by, run_by, which_by, which_byte, run_text, claim_text, row_text, certificate_text, certificate_at, certificate_kind, tagged_row_at}
use Rattle.rds_bytes.specs.Reading.{Reader, byte_at, made_at, is_between, is_count, dot_by}
use Rattle.rds_bytes.specs.Spelling.{byte_text, dot_text, place_text}
use Rattle.rds_bytes.specs.Values.{is_key_text}
use Rattle.rds_bytes.proofs.Format.{IsFormat, IsBytes, Takes, Takes-then, CutOrBad, bind_ok, bind_err, chosen, err_is, ok_is, done, failed, byte_format, number32, number64, then_format, pair_format, made_format, when_format, refit}
use Rattle.rds_bytes.proofs.Lists.{AllAfter, list_format}
use Rattle.rds_bytes.proofs.PartFormats.{key_format, replica_format}
use Rattle.rds_codec.proofs.Whole.{IsReaderOf, reader_of}
use Rattle.rds_codec.proofs.Within.{longer}

-- ---- numbers between two

pub between : (least most n : ℕ) → least ≤ n → n ≤ most → is_between least most n ≡ true
between least most n low high = and_true _ _ (le-leb least n low) (le-leb n most high)

pub between_low : (least most n : ℕ) → is_between least most n ≡ true → least ≤ n
between_low least most n h = leb-true least n (and_left (leb least n) _ h)

pub between_high : (least most n : ℕ) → is_between least most n ≡ true → n ≤ most
between_high least most n h = leb-true n most (and_right (leb least n) _ h)

-- ---- live dots

abbrev AreDotParts : ℕ → ℕ × ℕ → Type 0
AreDotParts replicas p = IsReplicaOf replicas p.0 × ((p.1 < 2 ^ 64) × (is_between 1 281474976710655 p.1 ≡ true))

abbrev IsDotOf : ℕ → Dot → Type 0
IsDotOf replicas d = (is_dot d ≡ true) × (d.replica < replicas)

dot_there : (replicas : ℕ) (d : Dot) → IsDotOf replicas d → AreDotParts replicas (d.replica, d.seq) × (d ≡ d)
dot_there replicas d h =
    let limits = dot_limits d h.0 in
    let small = limits.small in
    let within = limits.within in
    (((omega arith, h.1), (omega arith, between 1 MAX_SEQ d.seq limits.from_one within)), refl)

dot_back : (replicas : ℕ) (p : ℕ × ℕ) → AreDotParts replicas p → IsDotOf replicas (dot_by p) × (p ≡ p)
dot_back replicas p h =
    let small = h.0.0 in
    let some = and_left (leb 1 p.1) (leb p.1 281474976710655) h.1.1 in
    let few = and_right (leb 1 p.1) (leb p.1 281474976710655) h.1.1 in
    ((and_true _ _ (and_true _ _ (le-leb p.0 255 (omega arith)) some) few, h.0.1), refl)

dot_format : (replicas : ℕ) → IsFormat (read.claimed_dot_at replicas) dot_text (IsDotOf replicas)
unfolding read.claimed_dot_at
dot_format replicas =
    made_format dot_by (λ d. (d.replica, d.seq)) _ _ (AreDotParts replicas) (IsDotOf replicas) (dot_there replicas) (dot_back replicas)
    (pair_format _ _ _ _ _ _ (replica_format replicas) (when_format (is_between 1 281474976710655) _ _ _ number64))

-- ---- runs of dead dots

abbrev AreEnds : ℕ × ℕ → Type 0
AreEnds p = ((p.0 < 2 ^ 64) × (is_between 1 281474976710655 p.0 ≡ true)) × ((p.1 < 2 ^ 64) × (is_between p.0 281474976710655 p.1 ≡ true))

ends_format : IsFormat read.ends_at (λ p. to_be_bytes w64 p.0 ++ to_be_bytes w64 p.1) AreEnds
unfolding read.ends_at
ends_format =
    then_format _ _ _ (λ lo. to_be_bytes w64) _ (λ lo hi. (hi < 2 ^ 64) × (is_between lo 281474976710655 hi ≡ true)) (when_format (is_between 1 281474976710655) _ _ _ number64)
    (λ lo fits. when_format (is_between lo 281474976710655) _ _ _ number64)

abbrev AreRunParts : ℕ → ℕ × (ℕ × ℕ) → Type 0
AreRunParts replicas p = IsReplicaOf replicas p.0 × AreEnds p.1

abbrev IsRunOf : ℕ → Run → Type 0
IsRunOf replicas r = IsRun r × IsReplicaOf replicas r.replica

run_there : (replicas : ℕ) (r : Run) → IsRunOf replicas r → AreRunParts replicas (r.replica, (r.lo, r.hi)) × (r ≡ r)
run_there replicas r h =
    let one = h.0.from_one in
    let rises = h.0.rises in
    let most = h.0.within in
    ((h.1, ((omega arith, between 1 281474976710655 r.lo one (omega arith)), (omega arith, between r.lo 281474976710655 r.hi rises most))), refl)

run_back : (replicas : ℕ) (p : ℕ × (ℕ × ℕ)) → AreRunParts replicas p → IsRunOf replicas (run_by p) × (p ≡ p)
run_back replicas p h =
    let lo = h.1.0.1 in
    let hi = h.1.1.1 in
    ((record { from_one = between_low 1 281474976710655 p.1.0 lo; rises = between_low p.1.0 281474976710655 p.1.1 hi; within = between_high p.1.0 281474976710655 p.1.1 hi }, h.0), refl)

run_format : (replicas : ℕ) → IsFormat (read.run_at replicas) run_text (IsRunOf replicas)
unfolding read.run_at
run_format replicas =
    made_format run_by (λ r. (r.replica, (r.lo, r.hi))) _ _ (AreRunParts replicas) (IsRunOf replicas) (run_there replicas) (run_back replicas)
    (pair_format _ _ _ _ _ _ (replica_format replicas) ends_format)

abbrev IsDead : ℕ → Run × ℕ → Type 0
IsDead replicas p = IsRunOf replicas p.0 × ((p.1 < 256) × (is_between 0 1 p.1 ≡ true))

dead_format : (replicas : ℕ) → IsFormat (read.dead_at replicas) (λ p. run_text p.0 ++ byte_text p.1) (IsDead replicas)
unfolding read.dead_at
dead_format replicas = pair_format _ _ _ _ _ _ (run_format replicas) (when_format (is_between 0 1) _ _ _ byte_format)

-- ---- numbers of counters

which_there : (w : Which) → Unit {0} → ((which_byte w < 256) × (is_between 1 2 (which_byte w) ≡ true)) × (which_by (which_byte w) ≡ w)
which_there P h = ((omega arith, refl), refl)
which_there N h = ((omega arith, refl), refl)

which_is : (b : ℕ) (one : Bool) → eqb b 1 ≡ one → 1 ≤ b → b ≤ 2 → which_byte (cond one P N) ≡ b
which_is b true e low high = sym (eqb-true b 1 e)
which_is b false e low high = two b e low high
  where
    two : (b : ℕ) → eqb b 1 ≡ false → 1 ≤ b → b ≤ 2 → 2 ≡ b
    two b e low high = grind (arith, nat_tests)

which_back : (b : ℕ) → (b < 256) × (is_between 1 2 b ≡ true) → Unit {0} × (which_byte (which_by b) ≡ b)
which_back b h = (tt, which_is b (eqb b 1) refl (between_low 1 2 b h.1) (between_high 1 2 b h.1))

which_format : IsFormat read.which_at (λ w. byte_text (which_byte w)) (λ _. Unit {0})
unfolding read.which_at
which_format = made_format which_by which_byte _ _ _ _ which_there which_back (when_format (is_between 1 2) _ _ _ byte_format)

abbrev IsAmount : ℕ → Type 0
IsAmount n = (n < 2 ^ 64) × (is_count n ≡ true)

amount_format : IsFormat read.amount_at (to_be_bytes w64) IsAmount
unfolding read.amount_at
amount_format = when_format is_count _ _ _ number64

abbrev IsClaim : Which × (ℕ × ℕ) → Type 0
IsClaim c = Unit {0} × (IsAmount c.1.0 × IsAmount c.1.1)

claim_format : IsFormat read.amounts_at (λ c. claim_text c.0 c.1.0 c.1.1) IsClaim
unfolding read.amounts_at
claim_format = pair_format _ _ _ _ _ _ which_format (pair_format _ _ _ _ _ _ amount_format amount_format)

abbrev IsCounter : ℕ → List ℕ × ℕ → Type 0
IsCounter replicas p = (is_key_text p.0 ≡ true) × IsReplicaOf replicas p.1

counter_format : (replicas : ℕ) → IsFormat (read.counter_at replicas) (λ p. place_text p.0 p.1) (IsCounter replicas)
unfolding read.counter_at
counter_format replicas = pair_format _ _ _ _ _ _ key_format (replica_format replicas)

abbrev count_text : CountParts → List ℕ
count_text p = place_text p.0.0 p.0.1 ++ claim_text p.1.0 p.1.1.0 p.1.1.1

abbrev IsNumberClaim : ℕ → CountParts → Type 0
IsNumberClaim replicas p = IsCounter replicas p.0 × IsClaim p.1

number_claim_format : (replicas : ℕ) → IsFormat (read.number_claim_at replicas) count_text (IsNumberClaim replicas)
unfolding read.number_claim_at
number_claim_format replicas = pair_format _ _ _ _ _ _ (counter_format replicas) claim_format

-- ---- a tag, and what follows it

module _ {A : Type 0} (make : A → Row) (f : Reader A) (s : A → List ℕ) (F : A → Type 0) (p : IsFormat f s F) where
  -- what was read after a tag
  record Tagged (bytes : List ℕ) (k : ℕ) (x : Row × List ℕ) : Type 0 where
    value : A
    made : make value ≡ x.0
    fits : F value
    taken : Takes bytes (k ∷ s value) x.1

  tag_takes : (bytes rest : List ℕ) (t k : ℕ) (x : Row × List ℕ) → Takes bytes (t ∷ []) rest → eqb t k ≡ true → made_at make f rest ≡ Ok x → Tagged bytes k x
  tag_takes bytes rest t k x tag e is =
      let a = bind_ok (f rest) (λ a. Ok (make a.0, a.1)) x is in
      let got = p.takes rest a.0 tag.rest_fits a.1 in
      let same = ok_is (make a.0.0, a.0.1) x a.2 in
      let this : Takes bytes (k ∷ []) rest = subst (λ (n : ℕ). Takes bytes (n ∷ []) rest) (eqb-true t k e) tag in
      let all = Takes-then bytes (k ∷ []) rest (s a.0.0) a.0.1 this got.0 in
      record { value = a.0.0; made = ap (λ (y : Row × List ℕ). y.0) same; fits = got.1; taken = subst (λ (r : List ℕ). Takes bytes (k ∷ s a.0.0) r) (ap (λ (y : Row × List ℕ). y.1) same) all }

  tag_faults : (rest : List ℕ) (e : Fault) → IsBytes rest → made_at make f rest ≡ Err e → CutOrBad e
  tag_faults rest e fits h =
      elim (bind_err (f rest) (λ a. Ok (make a.0, a.1)) e h) [
        | inl first ↦ p.faults rest e fits first
        | inr a ↦ absurd (let bad : done (make a.0.0, a.0.1) ≡ Err e = a.2 in cc)
      ]

-- ---- rows

module _ (replicas : ℕ) where
  abbrev Spelled : List ℕ → Row × List ℕ → Type 0
  Spelled bytes x = Takes bytes (row_text x.0) x.1 × IsRowOf replicas x.0

  abbrev from_three : ℕ → List ℕ → Result (Row × List ℕ) Fault
  from_three t rest = cond (eqb t 3) (made_at count_by (read.number_claim_at replicas) rest) (Err Bad)

  abbrev from_two : ℕ → List ℕ → Result (Row × List ℕ) Fault
  from_two t rest = cond (eqb t 2) (made_at dead_by (read.dead_at replicas) rest) (from_three t rest)

  dead_is : (p : Run × ℕ) → IsDead replicas p → IsRowOf replicas (dead_by p)
  dead_is p h = (h.0.1.0, (h.0.0, (h.0.1.1, between_high 0 1 p.1 h.1.1)))

  count_is : (p : CountParts) → IsNumberClaim replicas p → IsRowOf replicas (count_by p)
  count_is p h = ((h.0.0, h.0.1.0), (h.0.1.1, (leb-true p.1.1.0 281474976710655 h.1.1.0.1, leb-true p.1.1.1 281474976710655 h.1.1.1.1)))

  row_takes : (bytes : List ℕ) (x : Row × List ℕ) → IsBytes bytes → read.certificate_row_at replicas bytes ≡ Ok x → Spelled bytes x
  unfolding read.certificate_row_at
  row_takes bytes x fits e =
      let a = bind_ok (byte_at bytes) (λ t. tagged_row_at replicas t.0 t.1) x e in
      let t = a.0.0 in
      let rest = a.0.1 in
      let tag = (byte_format.takes bytes a.0 fits a.1).0 in
      elim (chosen (eqb t 1) (made_at live_by (read.claimed_dot_at replicas) rest) (from_two t rest) (Ok x) a.2) [
        | inl h ↦ (let got = tag_takes live_by _ _ _ (dot_format replicas) bytes rest t 1 x tag h.0 h.1 in subst (λ (r : Row). Takes bytes (row_text r) x.1 × IsRowOf replicas r) got.made (got.taken, (tt, got.fits)))
        | inr n1 ↦ elim (chosen (eqb t 2) (made_at dead_by (read.dead_at replicas) rest) (from_three t rest) (Ok x) n1.1) [
          | inl h ↦ (let got = tag_takes dead_by _ _ _ (dead_format replicas) bytes rest t 2 x tag h.0 h.1 in subst (λ (r : Row). Takes bytes (row_text r) x.1 × IsRowOf replicas r) got.made (got.taken, dead_is got.value got.fits))
          | inr n2 ↦ elim (chosen (eqb t 3) (made_at count_by (read.number_claim_at replicas) rest) (Err Bad) (Ok x) n2.1) [
            | inl h ↦ (let got = tag_takes count_by _ _ _ (number_claim_format replicas) bytes rest t 3 x tag h.0 h.1 in subst (λ (r : Row). Takes bytes (row_text r) x.1 × IsRowOf replicas r) got.made (got.taken, count_is got.value got.fits))
            | inr n3 ↦ absurd (let bad : failed Bad ≡ Ok x = n3.1 in cc)
          ]
        ]
      ]

  dead_fits : (r : Run) (peer : ℕ) → IsRowOf replicas (Dead r peer) → IsDead replicas (r, peer)
  dead_fits r peer h = let one = h.1.1.1 in ((h.1.0, (h.0, h.1.1.0)), (omega arith, between 0 1 peer (omega arith) one))

  amount : (n : ℕ) → n ≤ 281474976710655 → IsAmount n
  amount n le = (omega arith, le-leb n 281474976710655 le)

  count_fits : (key : List ℕ) (replica : ℕ) (which : Which) (sent peer : ℕ) → IsRowOf replicas (Count key replica which sent peer) → IsNumberClaim replicas ((key, replica), (which, (sent, peer)))
  count_fits key replica which sent peer h = ((h.0.0, (h.0.1, h.1.0)), (tt, (amount sent h.1.1.0, amount peer h.1.1.1)))

  row_again : (r : Row) (rest : List ℕ) → IsRowOf replicas r → read.certificate_row_at replicas (row_text r ++ rest) ≡ Ok (r, rest)
  unfolding read.certificate_row_at
  row_again (Live d) rest h = rw ((dot_format replicas).again d rest h.1) refl
  row_again (Dead r peer) rest h = rw ((dead_format replicas).again (r, peer) rest (dead_fits r peer h)) refl
  row_again (Count key replica which sent peer) rest h = rw ((number_claim_format replicas).again ((key, replica), (which, (sent, peer))) rest (count_fits key replica which sent peer h)) refl

  row_faults : (bytes : List ℕ) (e : Fault) → IsBytes bytes → read.certificate_row_at replicas bytes ≡ Err e → CutOrBad e
  unfolding read.certificate_row_at
  row_faults bytes e fits h =
      elim (bind_err (byte_at bytes) (λ t. tagged_row_at replicas t.0 t.1) e h) [
        | inl first ↦ byte_format.faults bytes e fits first
        | inr a ↦
            let t = a.0.0 in
            let rest = a.0.1 in
            let rest_fits = (byte_format.takes bytes a.0 fits a.1).0.rest_fits in
            elim (chosen (eqb t 1) (made_at live_by (read.claimed_dot_at replicas) rest) (from_two t rest) (Err e) a.2) [
              | inl h1 ↦ tag_faults live_by _ _ _ (dot_format replicas) rest e rest_fits h1.1
              | inr n1 ↦ elim (chosen (eqb t 2) (made_at dead_by (read.dead_at replicas) rest) (from_three t rest) (Err e) n1.1) [
                | inl h2 ↦ tag_faults dead_by _ _ _ (dead_format replicas) rest e rest_fits h2.1
                | inr n2 ↦ elim (chosen (eqb t 3) (made_at count_by (read.number_claim_at replicas) rest) (Err Bad) (Err e) n2.1) [
                  | inl h3 ↦ tag_faults count_by _ _ _ (number_claim_format replicas) rest e rest_fits h3.1
                  | inr n3 ↦ inr (sym (err_is {A = Row × List ℕ} Bad e n3.1))
                ]
              ]
            ]
      ]

  row_format : IsFormat (read.certificate_row_at replicas) row_text (IsRowOf replicas)
  row_format = record { takes = row_takes; again = row_again; faults = row_faults }

  -- ---- certificates

  abbrev IsRowAfter : List Row → Row → Type 0
  IsRowAfter before r = IsRowOf replicas r

  rows_of : (rows before : List Row) → AllAfter IsRowAfter before rows → IsCertificateOf replicas rows
  rows_of [] before h = tt
  rows_of (r ∷ rows) before h = (h.0, rows_of rows (before ++ r ∷ []) h.1)

  of_rows : (rows before : List Row) → IsCertificateOf replicas rows → AllAfter IsRowAfter before rows
  of_rows [] before h = tt
  of_rows (r ∷ rows) before h = (h.0, of_rows rows (before ++ r ∷ []) h.1)

  abbrev pub FitsCertificate : List Row → Type 0
  FitsCertificate rows = (length rows < 2 ^ 32) × IsCertificateOf replicas rows

  pub certificate_format : IsFormat (certificate_at replicas) certificate_text FitsCertificate
  unfolding certificate_at certificate_text
  certificate_format =
      refit _ _ _ FitsCertificate (λ rows h. (h.0, rows_of rows [] h.1)) (λ rows h. (h.0, of_rows rows [] h.1))
      (list_format _ _ IsRowAfter (λ _. row_format) _ _ _ number32)

some_bytes : (r : Row) → 1 ≤ length (row_text r)
some_bytes (Live d) = omega arith
some_bytes (Dead r peer) = omega arith
some_bytes (Count key replica which sent peer) = omega arith

pub certificate_within : (rows : List Row) → length (certificate_text rows) ≤ LIMIT → length rows < 2 ^ 32
unfolding certificate_text
certificate_within rows le = let e = longer row_text some_bytes rows in omega arith

pub certificate_reader : (replicas : ℕ) → IsReaderOf (certificate_kind replicas) (certificate_at replicas)
certificate_reader replicas =
    reader_of (certificate_kind replicas) (certificate_at replicas) (FitsCertificate replicas) (certificate_format replicas) (λ rows h. h.1) (λ rows is le. (certificate_within rows le, is))

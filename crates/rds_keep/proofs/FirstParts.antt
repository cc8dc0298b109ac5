-- The snapshot at the front of a file: how it is read, and why not.
use Rattle.std.proofs.Common.{◌≡◌, ℕ, ◌+◌, ◌-◌, ◌<◌, ◌≤◌, ◌⊎◌, inl, inr, Bool, true, false, cond, List, [], ◌++◌, length, take, drop, Option, Some, None, Result, Ok, Err, refl, sym, ap, ◌∙◌, subst, arith, append_assoc, append-nil, take-append-drop}
use Rattle.std.specs.Prelude.{IfSome}
use Rattle.std.specs.Io.KnownBytes.{Consumes, IsAtEnd}
use Rattle.std.proofs.KnownBytes.{Consumes-trans}
use Rattle.std.proofs.lemmas.Bool.{cases_lt}
use Rattle.std.proofs.lemmas.List.{length-append, length-take, take-append-le, take_at}
use Rattle.sha2.specs.Sha256.{sha256}
use Rattle.sha2.specs.declared.Sha256.{Sha256}
use Rattle.rds_names.specs.declared.fault.Fault.{Fault}
use Rattle.rds_names.specs.declared.fault.Fault.TheVariants.{Memory, Cut, Bad, TooLong, Device}
use Rattle.rds_bytes.specs.Reading.{Reader}
use Rattle.rds_codec.specs.Decoding.{IsOtherFault}
use Rattle.rds_codec.specs.FormatTexts.{Snapshot, snapshot_in_at, snapshot_text_in}
use Rattle.rds_codec.specs.StateTexts.{IsSnapshot}
use Rattle.rds_codec.specs.declared.formats.Format.{Format}
use Rattle.rds_codec.specs.declared.limits.TheConstants.{LIMIT}
use Rattle.rds_state.specs.Fits.{ReplicaValue}
use Rattle.rds_journal.specs.Records.{record_text}
use Rattle.rds_journal.specs.declared.records.TheConstants.{MOST, HEAD}
use Rattle.rds_keep.specs.Counted.{most_read}
use Rattle.rds_keep.specs.Feeding.{EachIsByte}
use Rattle.rds_keep.specs.Kept.{AreWhole, RefusesBytes}
use Rattle.rds_keep.specs.Leading.{Leads, RefusesFront}
use Rattle.rds_keep.specs.Parts.{ConsumesAtMost}
use Rattle.rds_keep.specs.Replay.{HoldsMore}
use Rattle.rds_keep.specs.Snapshots.{IsForeign, IsMagic, IsShort}
use Rattle.rds_keep.specs.Stored.{IsAllOf, IsSummedSnapshot, IsFront, LosesFirst, LosesFront, first_and, front_and}
use Rattle.rds_keep.specs.Sums.{CutsSum, HasNoSum, HasOtherSum, sum_payload, sum_text, summed_text}
use Rattle.rds_keep.proofs.Files.{front_is, none_cut, none_stored, none_summed, read_again}
use Rattle.rds_keep.proofs.SumTexts.{cut_short, other_more, sum_length}
use Rattle.rds_keep.proofs.Foreign.{front_bad, front_cut, no_text}
use Rattle.rds_keep.proofs.Fronts.{magic_is_four}

-- ---- why there is none

-- the first four bytes
pub magic_refuses : (known : Option (List ℕ)) (budget : ℕ) (e : Fault) → (e ≡ Bad → IfSome known IsForeign) → (e ≡ Cut → IfSome known (IsShort budget)) → (e ≡ Bad) ⊎ ((e ≡ Cut) ⊎ ((e ≡ Memory) ⊎ (e ≡ Device)))
    → IfSome known (λ input. RefusesBytes input e)
magic_refuses None budget e foreign short why = tt
magic_refuses (Some input) budget e foreign short (inl bad) = rw bad (none_stored input Bad (front_bad input (foreign bad)))
magic_refuses (Some input) budget e foreign short (inr (inl cut)) = rw cut (let is = short cut in front_cut input is.0)
magic_refuses (Some input) budget e foreign short (inr (inr (inl memory))) = rw memory tt
magic_refuses (Some input) budget e foreign short (inr (inr (inr device))) = rw device tt

-- those behind them
front_refuses : (read : Reader Snapshot) (bytes : List ℕ) (e : Fault) → read bytes ≡ snapshot_in_at bytes → (e ≡ Device) ⊎ IsOtherFault e → RefusesFront read bytes e → RefusesBytes bytes e
front_refuses read bytes e same (inl device) why = rw device tt
front_refuses read bytes e same (inr (inl memory)) why = rw memory tt
front_refuses read bytes e same (inr (inr (inl long))) why = rw long (subst (RefusesFront read bytes) long why)
front_refuses read bytes e same (inr (inr (inr (inl extra)))) why = absurd (subst (RefusesFront read bytes) extra why)
front_refuses read bytes e same (inr (inr (inr (inr (inl cut))))) why = rw cut (sym same ∙ subst (RefusesFront read bytes) cut why)
front_refuses read bytes e same (inr (inr (inr (inr (inr bad))))) why = rw bad (let is = subst (RefusesFront read bytes) bad why in none_stored bytes is.0 (sym same ∙ is.1))

pub leading_refuses : (read : Reader Snapshot) (first mid : Option (List ℕ)) (front : List ℕ) (e : Fault) → ((bytes : List ℕ) → read bytes ≡ snapshot_in_at bytes) → Consumes first mid front
    → (e ≡ Device) ⊎ IsOtherFault e → IfSome mid (λ input. RefusesFront read (front ++ input) e) → IfSome first (λ input. RefusesBytes input e)
leading_refuses read None mid front e same consumed fault why = tt
leading_refuses read (Some xs) None front e same consumed fault why = absurd consumed
leading_refuses read (Some xs) (Some ys) front e same consumed fault why =
    subst (λ (t : List ℕ). RefusesBytes t e) (sym consumed) (front_refuses read (front ++ ys) e (same (front ++ ys)) fault why)

-- a call failed, or memory ran out
pub unread_refuses : (known : Option (List ℕ)) (e : Fault) → (e ≡ Memory) ⊎ (e ≡ Device) → IfSome known (λ input. RefusesBytes input e)
unread_refuses None e why = tt
unread_refuses (Some input) e (inl memory) = rw memory tt
unread_refuses (Some input) e (inr device) = rw device tt

-- so many bytes were read that they are above the limit
pub long_refuses : (first last : Option (List ℕ)) (given : List ℕ) (count : ℕ) (e : Fault) → Consumes first last given → count ≤ length given → (e ≡ Memory) ⊎ ((e ≡ TooLong) × (LIMIT < count)) → IfSome first (λ input. RefusesBytes input e)
long_refuses None last given count e consumed size why = tt
long_refuses (Some xs) None given count e consumed size why = absurd consumed
long_refuses (Some xs) (Some ys) given count e consumed size (inl memory) = rw memory tt
long_refuses (Some xs) (Some ys) given count e consumed size (inr long) = rw (long.0) (let many = long.1 in omega (arith, many, size, ap length consumed, length-append given ys))

-- ---- there is one

abbrev read_as : Snapshot → List ℕ → Result (Snapshot × List ℕ) Fault
read_as s rest = Ok (s, rest)

-- a list that begins with another
front_of : (xs ys cs bs : List ℕ) → xs ++ ys ≡ cs ++ bs → length cs ≤ length xs → xs ≡ cs ++ drop (length cs) xs
front_of xs ys cs bs e le =
    let front : take (length cs) xs ≡ cs = sym (take-append-le (length cs) xs ys le) ∙ ap (take (length cs)) e ∙ take_at cs bs (length cs) refl in
    sym (take-append-drop (length cs) xs) ∙ ap (λ (t : List ℕ). t ++ drop (length cs) xs) front

-- one that goes on
split_at : (xs ys cs bs : List ℕ) → xs ++ ys ≡ cs ++ bs → length xs ≤ length cs → xs ++ take (length ys - length bs) ys ≡ cs
split_at xs ys cs bs e le =
    let k = length ys - length bs in
    let lengths : length xs + length ys ≡ length cs + length bs = sym (length-append xs ys) ∙ ap length e ∙ length-append cs bs in
    let size : length (xs ++ take k ys) ≡ length cs = omega (arith, lengths, le, length-append xs (take k ys), length-take k ys) in
    let parts : (xs ++ take k ys) ++ drop k ys ≡ cs ++ bs = append_assoc xs (take k ys) (drop k ys) ∙ ap (λ (t : List ℕ). xs ++ t) (take-append-drop k ys) ∙ e in
    sym (take_at (xs ++ take k ys) (drop k ys) (length cs) size) ∙ ap (take (length cs)) parts ∙ take_at cs bs (length cs) refl

-- what was read up to it, and the bytes behind it
pub leading_is : (read : Reader Snapshot) (front : List ℕ) (before after : Option (List ℕ)) (s : Snapshot) (count : ℕ) (behind : List ℕ) (hasher : Sha256) (last : List ℕ) → ((bytes : List ℕ) → read bytes ≡ snapshot_in_at bytes)
    → (leads : Leads read front before after s count behind hasher last) → (front ++ leads.given ≡ first_and s.0 s.1 behind) × IsSnapshot s.1
leading_is read front before after s count behind hasher last same leads =
    let whole = leads.whole [] in
    let found : snapshot_in_at (front ++ leads.given) ≡ Ok (s, behind) =
    sym (same (front ++ leads.given)) ∙ ap (λ (t : List ℕ). read (front ++ t)) (sym (append-nil leads.given)) ∙ whole ∙ ap (read_as s) (append-nil behind) in
    front_is (front ++ leads.given) behind s leads.bytes found

-- and more behind it
module _ (read : Reader Snapshot) (same : (bytes : List ℕ) → read bytes ≡ snapshot_in_at bytes) (front : List ℕ) (first mid now last : Option (List ℕ)) (s : Snapshot) (count : ℕ) (behind : List ℕ) (hasher : Sha256) (latest held : List ℕ)
    (consumed : Consumes first mid front) (leads : Leads read front mid now s count behind hasher latest) (more : HoldsMore now last behind held) where
  abbrev pub all_given : List ℕ
  all_given = front ++ (leads.given ++ more.given)

  pub all_consumed : Consumes first last all_given
  all_consumed = Consumes-trans first mid last front (leads.given ++ more.given) consumed (Consumes-trans mid now last leads.given more.given leads.consumed more.consumed)

  all_parts : all_given ≡ first_and s.0 s.1 held
  all_parts =
      let is = leading_is read front mid now s count behind hasher latest same leads in
      sym (append_assoc front leads.given more.given) ∙ ap (λ (t : List ℕ). t ++ more.given) is.0 ∙ append_assoc (snapshot_text_in s.0 s.1) behind more.given ∙ ap (λ (t : List ℕ). snapshot_text_in s.0 s.1 ++ t) (sym more.held)

  pub loses_first : LosesFirst first last s.0 s.1 held
  loses_first = record { given = all_given; consumed = all_consumed; parts = all_parts }

  pub text_size : count ≡ length (snapshot_text_in s.0 s.1) + length behind
  text_size =
      let is = leading_is read front mid now s count behind hasher latest same leads in
      omega (arith, leads.size, ap length (is.0), length-append front leads.given, length-append (snapshot_text_in s.0 s.1) behind)

  pub first_value : IsSnapshot s.1
  first_value = (leading_is read front mid now s count behind hasher latest same leads).1

  -- the hash of the snapshot, where that is within the limit
  pub text_hashed : length (snapshot_text_in s.0 s.1) ≤ LIMIT → leads.hashed ++ take (length latest - length behind) latest ≡ snapshot_text_in s.0 s.1
  text_hashed within = split_at leads.hashed latest text behind whole fewer
    where
      text : List ℕ
      text = snapshot_text_in s.0 s.1

      whole : leads.hashed ++ latest ≡ text ++ behind
      whole = sym leads.parts ∙ (leading_is read front mid now s count behind hasher latest same leads).0

      not_cut : snapshot_in_at leads.hashed ≡ Err Cut → leads.hashed ≡ text ++ drop (length text) leads.hashed → ⊥
      not_cut cut is =
          let found = ap snapshot_in_at is ∙ read_again s.0 s.1 (drop (length text) leads.hashed) first_value within in
          absurd (let both : ◌≡◌ {A = Result (Snapshot × List ℕ) Fault} (Err Cut) (Ok ((s.0, s.1), drop (length text) leads.hashed)) = sym cut ∙ found in cc)

      fewer : length leads.hashed ≤ length text
      fewer = elim leads.short [
        | inl none ↦ omega (arith, ap length none)
        | inr cut ↦ elim (cases_lt (length text) (length leads.hashed)) [
          | inl long ↦ absurd (not_cut (sym (same leads.hashed) ∙ cut) (front_of leads.hashed latest text behind whole (omega (arith, long))))
          | inr short ↦ short
        ]
      ]

  pub too_long_refuses : (size : ℕ) (e : Fault) → size ≡ length (snapshot_text_in s.0 s.1) → (e ≡ Memory) ⊎ ((e ≡ TooLong) × (LIMIT < size)) → IfSome first (λ input. RefusesBytes input e)
  too_long_refuses size e is why =
      long_refuses first last all_given size e all_consumed (omega (arith, is, ap length all_parts, length-append (snapshot_text_in s.0 s.1) held)) why

  pub first_bound : (budget left left2 left3 : ℕ) → IsMagic front → 4 ≤ most_read (budget - left) → count ≤ length front + most_read (left - left2) → length held ≤ length behind + most_read (left2 - left3)
      → left ≤ budget → left2 ≤ left → left3 ≤ left2 → ConsumesAtMost first last (most_read (budget - left3))
  first_bound budget left left2 left3 magic one two three le le2 le3 = (
    all_given,
    (let four = magic_is_four front magic in
        omega (arith, four, one, two, three, le, le2, le3, leads.size, ap length more.held, length-append behind more.given, length-append leads.given more.given, length-append front (leads.given ++ more.given))),
    all_consumed,
  )

-- ---- what is behind it

-- ---- the record of its checksum

-- a front has so many bytes
pub is_front : (format : Format) (b : Bool) (v : ReplicaValue) (count : ℕ) (sum : List ℕ) (total : ℕ) → IsSummedSnapshot format v count sum → total ≡ count + cond b 69 0 → IsFront format b v total
is_front format b v count sum total is same = record {
  value = is.value;
  size = (let size = is.size in omega (arith, size, same, sum_size b, length-append (snapshot_text_in format v) (sum_text b (snapshot_text_in format v))));
  within = is.within;
}
  where
    sum_size : (c : Bool) → length (sum_text c (snapshot_text_in format v)) ≡ cond c 69 0
    sum_size true = sum_length (snapshot_text_in format v)
    sum_size false = refl

-- it stands first
pub summed_parts : (format : Format) (v : ReplicaValue) (sum behind rest : List ℕ) → sum ≡ sha256 (snapshot_text_in format v) → behind ≡ record_text (sum_payload sum) ++ rest → first_and format v behind ≡ front_and format true v rest
summed_parts format v sum behind rest is parts =
    let text = snapshot_text_in format v in
    let here : behind ≡ sum_text true text ++ rest = parts ∙ ap (λ (t : List ℕ). record_text (sum_payload t) ++ rest) is in
    ap (λ (t : List ℕ). text ++ t) here ∙ sym (append_assoc text (sum_text true text) rest)

pub summed_size : (format : Format) (v : ReplicaValue) (sum behind rest : List ℕ) → sum ≡ sha256 (snapshot_text_in format v) → behind ≡ record_text (sum_payload sum) ++ rest → length behind ≤ length rest + 69
summed_size format v sum behind rest is parts =
    let text = snapshot_text_in format v in
    let here : behind ≡ sum_text true text ++ rest = parts ∙ ap (λ (t : List ℕ). record_text (sum_payload t) ++ rest) is in
    omega (arith, ap length here, sum_length text, length-append (sum_text true text) rest)

-- it doesn't
pub unsummed_parts : (format : Format) (v : ReplicaValue) (behind : List ℕ) → first_and format v behind ≡ front_and format false v behind
unsummed_parts format v behind = sym (append_assoc (snapshot_text_in format v) [] behind)

-- nor the rest of one, where more stands behind it
pub no_cut_more : (bytes behind more : List ℕ) → (length behind ≤ MOST + HEAD → more ≡ []) → (CutsSum bytes behind → ⊥) → CutsSum bytes (behind ++ more) → ⊥
no_cut_more bytes behind more end none cuts =
    let few : length behind ≤ MOST + HEAD = omega (arith, cut_short bytes (behind ++ more) cuts, length-append behind more) in
    none (subst (CutsSum bytes) (ap (λ (t : List ℕ). behind ++ t) (end few) ∙ append-nil behind) cuts)

-- that of another does
pub other_refused : (format : Format) (v : ReplicaValue) (count : ℕ) (sum behind more : List ℕ) (e : Fault) → IsSummedSnapshot format v count sum → (e ≡ Bad) × HasOtherSum sum behind → RefusesBytes (first_and format v (behind ++ more)) e
other_refused format v count sum behind more e is other =
    rw (other.0) (λ w layout s. none_summed format v count sum (behind ++ more) w layout is (other_more sum behind more other.1) s)

-- the rest of one does
pub cut_refused : (format : Format) (v : ReplicaValue) (count : ℕ) (sum behind more : List ℕ) → IsSummedSnapshot format v count sum → CutsSum (snapshot_text_in format v) behind → (length behind ≤ MOST + HEAD → more ≡ [])
    → RefusesBytes (first_and format v (behind ++ more)) Bad
cut_refused format v count sum behind more is cuts end =
    let few : length behind ≤ MOST + HEAD = omega (arith, cut_short (snapshot_text_in format v) behind cuts) in
    let same : behind ++ more ≡ behind = ap (λ (t : List ℕ). behind ++ t) (end few) ∙ append-nil behind in
    subst (λ (t : List ℕ). RefusesBytes (first_and format v t) Bad) (sym same) (λ w layout s. none_cut format v count sum behind w layout is cuts s)

-- what holds where no more is behind few bytes holds of all that a reader gives
pub known_end : {P : List ℕ → Type 0} (known : Option (List ℕ)) (count : ℕ) → (count ≤ MOST + HEAD + 69 → IsAtEnd known) → ((input : List ℕ) → (count ≤ MOST + HEAD → input ≡ []) → P input) → IfSome known P
known_end None count end each = tt
known_end (Some input) count end each = each input (λ few. end (omega (arith, few)))

-- a front is a snapshot, and its checksum is behind it
front_parts : (format : Format) (b : Bool) (v : ReplicaValue) (behind : List ℕ) → front_and format b v behind ≡ first_and format v (sum_text b (snapshot_text_in format v) ++ behind)
front_parts format b v behind = append_assoc (snapshot_text_in format v) (sum_text b (snapshot_text_in format v)) behind

-- what was taken of what is behind the snapshot
pub loses_front : (first mid : Option (List ℕ)) (format : Format) (v : ReplicaValue) (held : List ℕ) (other : Format) (b : Bool) (w : ReplicaValue) (behind : List ℕ) → LosesFirst first mid format v held
    → first_and format v held ≡ front_and other b w behind → LosesFront first mid other b w behind
loses_front first mid format v held other b w behind loses same = record { given = loses.given; consumed = loses.consumed; parts = loses.parts ∙ same }

-- what holds of the front and all behind it holds of the input
pub lost_front : (P : List ℕ → Type 0) (first mid : Option (List ℕ)) (format : Format) (b : Bool) (v : ReplicaValue) (behind : List ℕ) → LosesFront first mid format b v behind → IfSome mid (λ input. P (front_and format b v (behind ++ input)))
    → IfSome first P
lost_front P None mid format b v behind loses has = tt
lost_front P (Some xs) None format b v behind loses has = absurd loses.consumed
lost_front P (Some xs) (Some ys) format b v behind loses has =
    subst P (sym (loses.consumed ∙ ap (λ (t : List ℕ). t ++ ys) loses.parts ∙ append_assoc (summed_text format b v) behind ys)) has

-- it isn't foreign
pub front_own : (Q : Type 0) (first mid : Option (List ℕ)) (format : Format) (b : Bool) (v : ReplicaValue) (behind : List ℕ) → LosesFront first mid format b v behind → IfSome first (λ input. IsForeign input → Q)
front_own Q None mid format b v behind loses = tt
front_own Q (Some xs) None format b v behind loses = absurd loses.consumed
front_own Q (Some xs) (Some ys) format b v behind loses = λ foreign.
    absurd (no_text xs (format, v) (sum_text b (snapshot_text_in format v) ++ (behind ++ ys)) foreign
    (loses.consumed ∙ ap (λ (t : List ℕ). t ++ ys) loses.parts ∙ append_assoc (summed_text format b v) behind ys ∙ front_parts format b v (behind ++ ys)))

-- what holds of the snapshot and all behind it holds of the input
pub lost_first : (P : List ℕ → Type 0) (first mid : Option (List ℕ)) (format : Format) (v : ReplicaValue) (behind : List ℕ) → LosesFirst first mid format v behind → IfSome mid (λ input. P (first_and format v (behind ++ input)))
    → IfSome first P
lost_first P None mid format v behind loses has = tt
lost_first P (Some xs) None format v behind loses has = absurd loses.consumed
lost_first P (Some xs) (Some ys) format v behind loses has =
    subst P (sym (loses.consumed ∙ ap (λ (t : List ℕ). t ++ ys) loses.parts ∙ append_assoc (snapshot_text_in format v) behind ys)) has

-- it isn't foreign
pub first_own : (Q : Type 0) (first mid : Option (List ℕ)) (format : Format) (v : ReplicaValue) (behind : List ℕ) → LosesFirst first mid format v behind → IfSome first (λ input. IsForeign input → Q)
first_own Q None mid format v behind loses = tt
first_own Q (Some xs) None format v behind loses = absurd loses.consumed
first_own Q (Some xs) (Some ys) format v behind loses = λ foreign.
    absurd (no_text xs (format, v) (behind ++ ys) foreign (loses.consumed ∙ ap (λ (t : List ℕ). t ++ ys) loses.parts ∙ append_assoc (snapshot_text_in format v) behind ys))

pub both_consumed : (first mid last : Option (List ℕ)) (one two most : ℕ) → ConsumesAtMost first mid one → ConsumesAtMost mid last two → one + two ≤ most → ConsumesAtMost first last most
both_consumed first mid last one two most p q le =
    let few = p.1 in
    let more = q.1 in
    (p.0 ++ q.0, omega (arith, few, more, le, length-append p.0 q.0), Consumes-trans first mid last p.0 q.0 p.2 q.2)

pub none_whole : (known : Option (List ℕ)) → IfSome known (λ input. AreWhole input 0)
none_whole None = tt
none_whole (Some input) = λ some. absurd (omega (arith, some))

-- ---- bytes that are there

-- the snapshot that they begin with
module _ (read : Reader Snapshot) (same : (t : List ℕ) → read t ≡ snapshot_in_at t) (bytes rest : List ℕ) (s : Snapshot) (fits : EachIsByte bytes) (reads : (more : List ℕ) → read (bytes ++ more) ≡ Ok (s, rest ++ more)) where
  pub step_is : (bytes ≡ first_and s.0 s.1 rest) × IsSnapshot s.1
  step_is =
      let found : snapshot_in_at bytes ≡ Ok (s, rest) = sym (same bytes) ∙ ap read (sym (append-nil bytes)) ∙ reads [] ∙ ap (read_as s) (append-nil rest) in
      front_is bytes rest s fits found

  pub step_size : length bytes ≡ length (snapshot_text_in s.0 s.1) + length rest
  step_size = omega (arith, ap length (step_is.0), length-append (snapshot_text_in s.0 s.1) rest)

  pub step_long : (size : ℕ) (e : Fault) → size ≡ length (snapshot_text_in s.0 s.1) → (e ≡ Memory) ⊎ ((e ≡ TooLong) × (LIMIT < size)) → RefusesBytes bytes e
  step_long size e total (inl memory) = rw memory tt
  step_long size e total (inr long) = rw (long.0) (let many = long.1 in omega (arith, many, total, step_size))

pub bytes_refused : (read : Reader Snapshot) (bytes : List ℕ) (e : Fault) → ((t : List ℕ) → read t ≡ snapshot_in_at t) → IsOtherFault e → RefusesFront read bytes e → RefusesBytes bytes e
bytes_refused read bytes e same fault why = front_refuses read bytes e (same bytes) (inr fault) why

-- What a file holds, from its front to its end.
use Rattle.std.proofs.Common.{◌≡◌, ℕ, zero, suc, ◌+◌, ◌<◌, ◌≤◌, ◌⊎◌, inl, inr, Bool, true, false, List, [], ◌++◌, length, take, drop, Result, Ok, Err, refl, sym, ap, ◌∙◌, subst, arith, append_assoc, append-nil, take-append-drop}
use Rattle.std.proofs.lemmas.List.{length-append, take-append-le, take_at}
use Rattle.std.proofs.lemmas.Bool.{cases_lt}
use Rattle.sha2.specs.Sha256.{sha256}
use Rattle.rds_names.specs.declared.fault.Fault.{Fault}
use Rattle.rds_bytes.proofs.Format.{IsBytes, ok_is}
use Rattle.rds_codec.specs.FormatTexts.{Snapshot, snapshot_in_at, snapshot_text_in}
use Rattle.rds_codec.specs.StateTexts.{IsSnapshot, snapshot_text}
use Rattle.rds_codec.specs.declared.formats.Format.{Format}
use Rattle.rds_codec.specs.declared.formats.Format.TheVariants.{Two}
use Rattle.rds_codec.specs.declared.limits.TheConstants.{LIMIT}
use Rattle.rds_codec.proofs.BothSnapshots.{snapshot_in_reader}
use Rattle.rds_codec.proofs.Replicas.{state_fits}
use Rattle.rds_state.specs.Fits.{IsReplica, ReplicaValue}
use Rattle.rds_journal.specs.Records.{IsBegun, IsPayload, IsTorn, record_text}
use Rattle.rds_journal.specs.declared.records.TheConstants.{MOST, HEAD}
use Rattle.rds_journal.proofs.Format.{length_record, no_text}
use Rattle.rds_keep.specs.Changes.{ChangeValue}
use Rattle.rds_keep.specs.Kept.{AreWhole, EndsAs, IsApart, IsFile, IsKept, IsStored, RefusesBytes, new_layout, records_text}
use Rattle.rds_keep.specs.Replay.{RefusesRest, ReplayValue, TakesRecords}
use Rattle.rds_keep.specs.Stored.{IsAllOf, IsSummedSnapshot, IsFront, RefusesEnd, first_and, front_and}
use Rattle.rds_keep.specs.Sums.{CutsSum, HasOtherSum, file_text, sum_payload, sum_text, summed_text}
use Rattle.rds_keep.specs.declared.layout.Layout.{Layout}
use Rattle.rds_keep.proofs.Chains.{ends_after, ends_torn}
use Rattle.rds_keep.proofs.SumTexts.{cut_behind, no_sum_behind, other_behind, same_behind, sum_is_payload}

-- ---- the snapshot at the front

pub read_again : (format : Format) (v : ReplicaValue) (behind : List ℕ) → IsSnapshot v → length (snapshot_text_in format v) ≤ LIMIT → snapshot_in_at (snapshot_text_in format v ++ behind) ≡ Ok ((format, v), behind)
read_again format v behind is within = snapshot_in_reader.again (format, v) behind is within

abbrev found : Format → ReplicaValue → List ℕ → Result (Snapshot × List ℕ) Fault
found format v rest = Ok ((format, v), rest)

-- what stands behind the snapshot of what is stored, and then behind its checksum
abbrev pub stored_rest : {bytes : List ℕ} {v : ReplicaValue} {layout : Layout} → IsStored bytes v layout → List ℕ
stored_rest s = records_text s.file.first.own s.file.changes ++ s.torn

abbrev pub stored_behind : {bytes : List ℕ} {v : ReplicaValue} {layout : Layout} → IsStored bytes v layout → List ℕ
stored_behind {layout = layout} s = sum_text s.file.is_summed (snapshot_text_in layout.format s.file.first) ++ stored_rest s

-- what is stored is read from its front
pub stored_front : (bytes : List ℕ) (v : ReplicaValue) (layout : Layout) → (s : IsStored bytes v layout) → snapshot_in_at bytes ≡ Ok ((layout.format, s.file.first), stored_behind s)
stored_front bytes v layout s =
    let text = snapshot_text_in layout.format s.file.first in
    let sum = sum_text s.file.is_summed text in
    let parts : bytes ≡ text ++ stored_behind s =
    s.parts ∙ ap (λ (t : List ℕ). t ++ s.torn) s.file.parts ∙ append_assoc (text ++ sum) (records_text s.file.first.own s.file.changes) s.torn ∙ append_assoc text sum (stored_rest s) in
    ap snapshot_in_at parts ∙ read_again layout.format s.file.first (stored_behind s) s.file.value s.file.within

-- no record of a checksum stands behind its own
pub no_sum_stored : (bytes : List ℕ) (v : ReplicaValue) (layout : Layout) → (s : IsStored bytes v layout) → (sum rest : List ℕ) → IsPayload (sum_payload sum) → stored_rest s ≡ record_text (sum_payload sum) ++ rest → ⊥
no_sum_stored bytes v layout s sum rest short e = no_sum_behind s.file.first.own s.file.first s.file.changes v s.torn sum rest refl s.file.made s.end short e

-- bytes that no snapshot begins hold nothing
pub none_stored : (bytes : List ℕ) (e : Fault) → snapshot_in_at bytes ≡ Err e → (v : ReplicaValue) (layout : Layout) → IsStored bytes v layout → ⊥
none_stored bytes e is v layout s = let read = stored_front bytes v layout s in absurd (let both = sym is ∙ read in cc)

-- what is read at the front
pub front_is : (came behind : List ℕ) (s : Snapshot) → IsBytes came → snapshot_in_at came ≡ Ok (s, behind) → (came ≡ first_and s.0 s.1 behind) × IsSnapshot s.1
front_is came behind s fits is = (let read = snapshot_in_reader.takes came (s, behind) fits is in (read.0.parts, read.1))

-- ---- behind it

-- two snapshots are one
abbrev pub IsSameSnapshot : Format → ReplicaValue → Format → ReplicaValue → Type 0
IsSameSnapshot f v g w = ◌≡◌ {A = Snapshot} (f, v) (g, w)

-- which replica's snapshot stored bytes begin with, and what stands behind it
pub stored_parts : (format : Format) (first : ReplicaValue) (rest bytes : List ℕ) (w : ReplicaValue) (layout : Layout) → IsSnapshot first → length (snapshot_text_in format first) ≤ LIMIT → bytes ≡ first_and format first rest → (s : IsStored bytes w layout)
    → IsSameSnapshot format first layout.format s.file.first × (rest ≡ sum_text s.file.is_summed (snapshot_text_in format first) ++ stored_rest s)
stored_parts format first rest bytes w layout is within parts s =
    let one : snapshot_in_at bytes ≡ found format first rest = ap snapshot_in_at parts ∙ read_again format first rest is within in
    let both = ok_is ((format, first), rest) ((layout.format, s.file.first), stored_behind s) (sym one ∙ stored_front bytes w layout s) in
    let which : IsSameSnapshot format first layout.format s.file.first = ap (λ (p : Snapshot × List ℕ). p.0) both in
    let same : rest ≡ stored_behind s = ap (λ (p : Snapshot × List ℕ). p.1) both in
    (which, same ∙ ap (λ (p : Snapshot). sum_text s.file.is_summed (snapshot_text_in p.0 p.1) ++ stored_rest s) (sym which))

-- a snapshot, and its checksum behind it
front_parts : (format : Format) (b : Bool) (first : ReplicaValue) (behind : List ℕ) → front_and format b first behind ≡ first_and format first (sum_text b (snapshot_text_in format first) ++ behind)
front_parts format b first behind = append_assoc (snapshot_text_in format first) (sum_text b (snapshot_text_in format first)) behind

-- what stands behind a front is the same, or the record of its checksum stands first there
pub stored_either : (format : Format) (b : Bool) (first : ReplicaValue) (behind bytes : List ℕ) (w : ReplicaValue) (layout : Layout) → IsSnapshot first → length (snapshot_text_in format first) ≤ LIMIT → bytes ≡ front_and format b first behind
    → (s : IsStored bytes w layout)
    → ((b ≡ s.file.is_summed) × (behind ≡ stored_rest s)) ⊎ ((b ≡ false) × (s.file.is_summed ≡ true) × (behind ≡ record_text (sum_payload (sha256 (snapshot_text_in format first))) ++ stored_rest s))
stored_either format b first behind bytes w layout is within parts s =
    let text = snapshot_text_in format first in
    let both = stored_parts format first (sum_text b text ++ behind) bytes w layout is within (parts ∙ front_parts format b first behind) s in
    same_behind b s.file.is_summed text behind (stored_rest s) (λ more e. no_sum_stored bytes w layout s (sha256 text) more (sum_is_payload text) e) both.1

pub stored_first : (format : Format) (b : Bool) (first : ReplicaValue) (behind bytes : List ℕ) (w : ReplicaValue) (layout : Layout) → IsSnapshot first → length (snapshot_text_in format first) ≤ LIMIT → bytes ≡ front_and format b first behind
    → (s : IsStored bytes w layout) → IsSameSnapshot format first layout.format s.file.first
stored_first format b first behind bytes w layout is within parts s =
    (stored_parts format first (sum_text b (snapshot_text_in format first) ++ behind) bytes w layout is within (parts ∙ front_parts format b first behind) s).0

-- a file's end, from its first replica on
pub ends_from : (format : Format) (first : ReplicaValue) (behind bytes : List ℕ) (w : ReplicaValue) (layout : Layout) → (s : IsStored bytes w layout) → IsSameSnapshot format first layout.format s.file.first → behind ≡ stored_rest s → EndsAs first behind w
ends_from format first behind bytes w layout s which parts =
    let replica : first ≡ s.file.first = ap (λ (p : Snapshot). p.1) which in
    subst (λ (v : ReplicaValue). EndsAs v behind w) (sym replica) (record { changes = s.file.changes; torn = s.torn; parts = parts; made = s.file.made; end = s.end })

-- what is stored behind a front ends as a file does
pub stored_ends : (format : Format) (b : Bool) (first : ReplicaValue) (count : ℕ) (behind : List ℕ) (w : ReplicaValue) (layout : Layout) → IsFront format b first count → IsAllOf format b first behind
    → IsStored (front_and format b first behind) w layout → EndsAs first behind w
stored_ends format b first count behind w layout is alone s = elim (stored_either format b first behind (front_and format b first behind) w layout is.value is.within refl s) [
  | inl same ↦ ends_from format first behind (front_and format b first behind) w layout s (stored_first format b first behind (front_and format b first behind) w layout is.value is.within refl s) same.1
  | inr sum ↦ absurd ((alone sum.0).0 (stored_rest s) sum.2)
]

-- nothing is, where the record of another checksum stands first
pub none_summed : (format : Format) (first : ReplicaValue) (count : ℕ) (sum behind : List ℕ) (w : ReplicaValue) (layout : Layout) → IsSummedSnapshot format first count sum → HasOtherSum sum behind → IsStored (first_and format first behind) w layout → ⊥
none_summed format first count sum behind w layout is other s =
    let text = snapshot_text_in format first in
    let same = stored_parts format first behind (first_and format first behind) w layout is.value is.within refl s in
    let here : HasOtherSum (sha256 text) behind = subst (λ (t : List ℕ). HasOtherSum t behind) is.hash other in
    other_behind s.file.is_summed text behind (stored_rest s) here (λ told more short e. no_sum_stored (first_and format first behind) w layout s told more short e) same.1

-- nor where the rest of a checksum's record is behind it
pub none_cut : (format : Format) (first : ReplicaValue) (count : ℕ) (sum behind : List ℕ) (w : ReplicaValue) (layout : Layout) → IsSummedSnapshot format first count sum → CutsSum (snapshot_text_in format first) behind
    → IsStored (first_and format first behind) w layout → ⊥
none_cut format first count sum behind w layout is cuts s =
    let text = snapshot_text_in format first in
    let both = stored_parts format first behind (first_and format first behind) w layout is.value is.within refl s in
    let here = cut_behind s.file.is_summed s.file.first.own s.file.changes s.file.first w text s.torn behind refl s.file.made cuts both.1 in
    let same : text ≡ snapshot_text_in layout.format s.file.first = ap (λ (p : Snapshot). snapshot_text_in p.0 p.1) both.0 in
    s.apart here.0 here.1 (subst (λ (t : List ℕ). CutsSum t s.torn) same (subst (CutsSum text) here.2 cuts))

abbrev begun : ReplicaValue → ℕ → ReplayValue
begun first count = record { replica = first; whole = count }

-- a snapshot and the records that were taken behind it
abbrev taken_text : Format → Bool → ReplicaValue → List ChangeValue → List ℕ
taken_text format b first changes = summed_text format b first ++ records_text first.own changes

abbrev pub taken_is : (format : Format) (b : Bool) (first : ReplicaValue) (count : ℕ) (now : ReplayValue) (bytes rest : List ℕ) → IsFront format b first count → (taken : TakesRecords (begun first count) now bytes rest)
    → IsFile (taken_text format b first taken.changes) format count now.replica
taken_is format b first count now bytes rest is taken =
    record { first = first; is_summed = b; changes = taken.changes; parts = refl; value = is.value; within = is.within; made = taken.made; size = is.size }

pub taken_apart : (format : Format) (b : Bool) (first : ReplicaValue) (count : ℕ) (now : ReplayValue) (bytes rest : List ℕ) → (is : IsFront format b first count) → (taken : TakesRecords (begun first count) now bytes rest) → IsAllOf format b first bytes
    → IsApart (taken_is format b first count now bytes rest is taken) rest
taken_apart format b first count now bytes rest is taken alone = λ unsummed none cuts.
    let parts : bytes ≡ rest = taken.parts ∙ ap (λ (cs : List ChangeValue). records_text first.own cs ++ rest) none in
    (alone unsummed).1 (subst (CutsSum (snapshot_text_in format first)) (sym parts) cuts)

pub taken_file : (format : Format) (b : Bool) (first : ReplicaValue) (count : ℕ) (now : ReplayValue) (bytes rest : List ℕ) → IsFront format b first count → (taken : TakesRecords (begun first count) now bytes rest)
    → IsFile (taken_text format b first taken.changes) format count now.replica × (now.whole ≡ length (taken_text format b first taken.changes))
taken_file format b first count now bytes rest is taken = (
  taken_is format b first count now bytes rest is taken,
  omega (arith, taken.whole, is.size, length-append (summed_text format b first) (records_text first.own taken.changes)),
)

taken_parts : (format : Format) (b : Bool) (first : ReplicaValue) (count : ℕ) (now : ReplayValue) (bytes rest : List ℕ) → (taken : TakesRecords (begun first count) now bytes rest) → front_and format b first bytes ≡ taken_text format b first taken.changes ++ rest
taken_parts format b first count now bytes rest taken =
    ap (λ (t : List ℕ). summed_text format b first ++ t) taken.parts ∙ sym (append_assoc (summed_text format b first) (records_text first.own taken.changes) rest)

-- the bytes before the rest are a whole file
pub taken_whole : (format : Format) (b : Bool) (first : ReplicaValue) (count : ℕ) (now : ReplayValue) (bytes rest : List ℕ) → IsFront format b first count → TakesRecords (begun first count) now bytes rest → AreWhole (front_and format b first bytes) now.whole
taken_whole format b first count now bytes rest is taken some =
    let file = taken_file format b first count now bytes rest is taken in
    let parts = taken_parts format b first count now bytes rest taken in
    let text = taken_text format b first taken.changes in
    let size : now.whole ≡ length text = file.1 in
    let front : take now.whole (front_and format b first bytes) ≡ text = ap (take now.whole) parts ∙ take_at text rest now.whole (sym size) in (
      omega (arith, size, ap length parts, length-append text rest),
      (format, count, now.replica, subst (λ (t : List ℕ). IsFile t format count now.replica) (sym front) file.0),
    )

-- the rest is torn: all is stored
pub file_stored : (v : ReplicaValue) (bytes rest : List ℕ) (layout : Layout) → (file : IsFile bytes layout.format layout.snapshot v) → layout.whole ≡ length bytes → layout.length ≡ layout.whole + length rest → IsTorn rest → IsApart file rest
    → IsStored (bytes ++ rest) v layout
file_stored v bytes rest layout file is_whole is_length torn apart = record {
  whole = bytes;
  torn = rest;
  parts = refl;
  file = file;
  end = torn;
  apart = apart;
  size = is_whole;
  all = omega (arith, is_length, is_whole, length-append bytes rest);
}

pub taken_stored : (format : Format) (b : Bool) (first : ReplicaValue) (count : ℕ) (now : ReplayValue) (bytes rest : List ℕ) (v : ReplicaValue) (layout : Layout) → (taken : TakesRecords (begun first count) now bytes rest)
    → IsStored (taken_text format b first taken.changes ++ rest) v layout → IsStored (front_and format b first bytes) v layout
taken_stored format b first count now bytes rest v layout taken stored = subst (λ (t : List ℕ). IsStored t v layout) (sym (taken_parts format b first count now bytes rest taken)) stored

-- the rest isn't
module _ (format : Format) (b : Bool) (first : ReplicaValue) (count : ℕ) (now : ReplayValue) (bytes rest : List ℕ) (is : IsFront format b first count) (taken : TakesRecords (begun first count) now bytes rest) where
  ends_here : (more : List ℕ) (w : ReplicaValue) (layout : Layout) → IsAllOf format b first (bytes ++ more) → IsStored (front_and format b first (bytes ++ more)) w layout → EndsAs now.replica (rest ++ more) w
  ends_here more w layout alone stored =
      let parts : bytes ++ more ≡ records_text first.own taken.changes ++ (rest ++ more) = ap (λ (t : List ℕ). t ++ more) taken.parts ∙ append_assoc (records_text first.own taken.changes) rest more in
      let ends = stored_ends format b first count (bytes ++ more) w layout is alone stored in
      ends_after first taken.changes now.replica (rest ++ more) w taken.made (subst (λ (t : List ℕ). EndsAs first t w) parts ends)

  pub rest_refused : (more : List ℕ) (e : Fault) → IsAllOf format b first (bytes ++ more) → RefusesRest now rest e → RefusesBytes (front_and format b first (bytes ++ more)) e
  rest_refused more e alone why = elim why [
    | inl memory ↦ rw memory tt
    | inr other ↦ elim other [
      | inl long ↦ rw (long.0) (let many = long.1 in let file = taken_file format b first count now bytes rest is taken in let parts = taken_parts format b first count now bytes rest taken in
          omega (arith, many, file.1, ap length parts, length-append (taken_text format b first taken.changes) rest, length-append (summed_text format b first) (bytes ++ more), length-append (summed_text format b first) bytes, length-append bytes more))
      | inr bad ↦ rw (bad.0) (λ w layout stored. bad.1 more w (ends_here more w layout alone stored))
    ]
  ]

  -- a rest in which no record begins
  pub end_refused : (more : List ℕ) (e : Fault) → IsAllOf format b first (bytes ++ more) → (IsBegun (rest ++ more) → ⊥) → (IsTorn (rest ++ more) → IsTorn rest) → RefusesEnd now.whole rest e → RefusesBytes (front_and format b first (bytes ++ more)) e
  end_refused more e alone none torn why = elim why [
    | inl bad ↦ rw (bad.0) (λ w layout stored. bad.1 (torn (ends_torn now.replica (rest ++ more) w (ends_here more w layout alone stored) none)))
    | inr long ↦ rw (long.0) (let many = long.1 in let file = taken_file format b first count now bytes rest is taken in let parts = taken_parts format b first count now bytes rest taken in
        omega (arith, many, file.1, ap length parts, length-append (taken_text format b first taken.changes) rest, length-append (summed_text format b first) (bytes ++ more), length-append (summed_text format b first) bytes, length-append bytes more))
  ]

-- ---- a rest that is longer than a record

begun_within : (rest more : List ℕ) → MOST + HEAD < length rest → IsBegun (rest ++ more) → IsBegun rest
begun_within rest more long begins =
    let payload = begins.0 in
    let short = begins.2 in
    let size = length_record payload in
    let few : length (record_text payload) ≤ length rest = omega (arith, long, short, size) in
    let front : take (length (record_text payload)) rest ≡ record_text payload =
    sym (take-append-le (length (record_text payload)) rest more few) ∙ ap (take (length (record_text payload))) begins.3 ∙ take_at (record_text payload) begins.1 (length (record_text payload)) refl in
    (payload, drop (length (record_text payload)) rest, short, sym (take-append-drop (length (record_text payload)) rest) ∙ ap (λ (t : List ℕ). t ++ drop (length (record_text payload)) rest) front)

pub none_behind : (rest more : List ℕ) → (length rest ≤ MOST + HEAD → more ≡ []) → (IsBegun rest → ⊥) → IsBegun (rest ++ more) → ⊥
none_behind rest more end none begins = elim (cases_lt (MOST + HEAD) (length rest)) [
  | inl long ↦ none (begun_within rest more long begins)
  | inr short ↦ none (subst IsBegun (ap (λ (t : List ℕ). rest ++ t) (end short) ∙ append-nil rest) begins)
]

pub torn_before : (rest more : List ℕ) → (length rest ≤ MOST + HEAD → more ≡ []) → IsTorn (rest ++ more) → IsTorn rest
torn_before rest more end torn = elim (cases_lt (MOST + HEAD) (length rest)) [
  | inl long ↦ absurd (let short = torn.short in omega (arith, long, short, length-append rest more))
  | inr short ↦ subst IsTorn (ap (λ (t : List ℕ). rest ++ t) (end short) ∙ append-nil rest) torn
]

-- ---- nothing behind

pub nothing_torn : IsTorn []
nothing_torn = record { short = omega arith; few = omega arith; none = none_begun }
  where
    none_begun : (k : ℕ) → IsBegun (drop k []) → ⊥
    none_begun zero begins = no_text begins.0 begins.1 begins.3
    none_begun (suc k) begins = no_text begins.0 begins.1 begins.3

pub nothing_apart : {bytes : List ℕ} {format : Format} {count : ℕ} {v : ReplicaValue} → (file : IsFile bytes format count v) → IsApart file []
nothing_apart file = λ unsummed none cuts. (let some = cuts.some in omega (arith, some))

pub file_kept : (format : Format) (count : ℕ) (v : ReplicaValue) (bytes : List ℕ) → IsFile bytes format count v → IsKept v
file_kept format count v bytes file = record {
  bytes = bytes;
  layout = record { format = format; snapshot = count; whole = length bytes; length = length bytes };
  stored = record { whole = bytes; torn = []; parts = sym (append-nil bytes); file = file; end = nothing_torn; apart = nothing_apart file; size = refl; all = refl };
}

pub snapshot_kept : (format : Format) (v : ReplicaValue) → IsSnapshot v → length (snapshot_text_in format v) ≤ LIMIT → IsKept v
snapshot_kept format v is within =
    let text = summed_text format false v in
    file_kept format (length text) v text (record { first = v; is_summed = false; changes = []; parts = sym (append-nil text); value = is; within = within; made = refl; size = refl })

-- a new file is one
pub new_file : (v : ReplicaValue) → IsSnapshot v → length (snapshot_text v) ≤ LIMIT → IsStored (file_text v) v (new_layout (length (file_text v)))
new_file v is within =
    let bytes = file_text v in
    let file : IsFile bytes Two (length bytes) v =
    record { first = v; is_summed = true; changes = []; parts = sym (append-nil bytes); value = is; within = within; made = refl; size = refl } in
    record {
      whole = bytes;
      torn = [];
      parts = sym (append-nil bytes);
      file = file;
      end = nothing_torn;
      apart = nothing_apart file;
      size = refl;
      all = refl;
    }

-- what has a text is a replica
pub is_replica : (v : ReplicaValue) → IsSnapshot v → IsReplica v
is_replica v is = record { own = is.member.own_number; fits = state_fits (length v.roster.names) v.state is.state }

-- The records behind a snapshot, and the rest that ends a file or is refused.
use Rattle.std.proofs.Common.{◌≡◌, ℕ, ◌+◌, ◌≤◌, ◌⊎◌, inl, inr, Bool, List, [], ◌++◌, length, Option, Some, None, Result, Ok, Err, refl, sym, ap, ◌∙◌, subst, arith, append_assoc, append-nil}
use Rattle.std.specs.Prelude.{IfOk, IfErr, IfSome, OnOk}
use Rattle.std.specs.Io.KnownBytes.{Consumes, IsAtEnd}
use Rattle.std.proofs.lemmas.List.{length-append, take-append-le}
use Rattle.rds_names.specs.declared.fault.Fault.{Fault}
use Rattle.rds_names.specs.declared.fault.Fault.TheVariants.{Device}
use Rattle.rds_codec.specs.Decoding.{IsOtherFault}
use Rattle.rds_codec.specs.StateTexts.{IsSnapshot}
use Rattle.rds_codec.specs.declared.formats.Format.{Format}
use Rattle.rds_state.specs.Fits.{ReplicaValue}
use Rattle.rds_journal.specs.Records.{IsBegun, IsTorn}
use Rattle.rds_journal.specs.declared.records.TheConstants.{MOST, HEAD}
use Rattle.rds_keep.specs.Kept.{AreWhole, EndsAs, IsApart, IsFile, IsStored, RefusesBytes, records_text}
use Rattle.rds_keep.specs.Replay.{ReadsRecords, RefusesRest, ReplayValue, StopsReading, StopsAtRecord, TakesRecords}
use Rattle.rds_keep.specs.Stored.{IsAllOf, IsFront, RefusesEnd, front_and}
use Rattle.rds_keep.specs.Sums.{summed_text}
use Rattle.rds_keep.specs.declared.layout.Layout.{Layout}
use Rattle.rds_keep.proofs.Files.{end_refused, none_behind, rest_refused, taken_apart, taken_file, taken_is, taken_stored, taken_whole, torn_before}
use Rattle.rds_keep.proofs.SnapshotsStay.{all_snapshots}

-- ---- results

pub ok_then : {A E : Type 0} {P Q : A → Type 0} (r : Result A E) → IfOk r P → ((a : A) → P a → Q a) → IfOk r Q
ok_then (Ok a) has next = next a has
ok_then (Err e) has next = tt

pub err_then : {A E : Type 0} {P Q : E → Type 0} (r : Result A E) → IfErr r P → ((e : E) → P e → Q e) → IfErr r Q
err_then (Ok a) has next = tt
err_then (Err e) has next = next e has

pub ok_on : {A E : Type 0} {P Q : A → Type 0} {R : Type 0} (r : Result A E) → IfOk r P → OnOk r R → ((a : A) → P a → R → Q a) → IfOk r Q
ok_on (Ok a) has more next = next a has more
ok_on (Err e) has more next = tt

pub on_on : {A E : Type 0} {P Q : Type 0} (r : Result A E) → OnOk r P → (P → Q) → OnOk r Q
on_on (Ok a) has next = next has
on_on (Err e) has next = tt

-- ---- the faults

pub end_fault : (whole : ℕ) (rest : List ℕ) (e : Fault) → RefusesEnd whole rest e → IsOtherFault e
end_fault whole rest e (inl bad) = inr (inr (inr (inr bad.0)))
end_fault whole rest e (inr long) = inr (inl long.0)

pub rest_fault : (now : ReplayValue) (rest : List ℕ) (e : Fault) → RefusesRest now rest e → IsOtherFault e
rest_fault now rest e (inl memory) = inl memory
rest_fault now rest e (inr (inl long)) = inr (inl long.0)
rest_fault now rest e (inr (inr bad)) = inr (inr (inr (inr bad.0)))

pub stop_fault : (old new : ReplayValue) (before after : Option (List ℕ)) (held : List ℕ) (e : Fault) → StopsReading old new before after held e → (e ≡ Device) ⊎ IsOtherFault e
stop_fault old new before after held e stops = elim stops.refused [ inl device ↦ inl device | inr why ↦ inr (rest_fault new stops.rest e why) ]

-- ---- what stands behind a front

all_here : (format : Format) (b : Bool) (first : ReplicaValue) (bytes : List ℕ) → IsAllOf format b first bytes → IsAllOf format b first (bytes ++ [])
all_here format b first bytes alone = subst (IsAllOf format b first) (sym (append-nil bytes)) alone

-- ---- the bytes that were taken

abbrev start : ReplicaValue → ℕ → ReplayValue
start first count = record { replica = first; whole = count }

whole_more : (bytes more : List ℕ) (at : ℕ) → AreWhole bytes at → AreWhole (bytes ++ more) at
whole_more bytes more at is some =
    let w = is some in
    let le = w.0 in (
      omega (arith, le, length-append bytes more),
      (w.1.0, w.1.1, w.1.2, subst (λ (t : List ℕ). IsFile t w.1.0 w.1.1 w.1.2) (sym (take-append-le at bytes more le)) w.1.3),
    )

module _ (format : Format) (b : Bool) (first : ReplicaValue) (count : ℕ) (now : ReplayValue) (bytes rest : List ℕ) (is : IsFront format b first count) (taken : TakesRecords (start first count) now bytes rest) where
  -- all before the rest
  abbrev pub taken_bytes : List ℕ
  taken_bytes = summed_text format b first ++ records_text first.own taken.changes

  abbrev pub taken_is_file : IsFile taken_bytes format count now.replica
  taken_is_file = taken_is format b first count now bytes rest is taken

  pub taken_length : now.whole ≡ length taken_bytes
  taken_length = (taken_file format b first count now bytes rest is taken).1

  pub taken_value : IsSnapshot now.replica
  taken_value = all_snapshots first taken.changes now.replica taken.made is.value

  ended_stored : (more : List ℕ) (v : ReplicaValue) (layout : Layout) → IsAllOf format b first (bytes ++ more) → IsTorn rest → (length rest ≤ MOST + HEAD → more ≡ []) → (IsApart taken_is_file rest → IsStored (taken_bytes ++ rest) v layout)
      → IsStored (front_and format b first (bytes ++ more)) v layout
  ended_stored more v layout alone torn end stored =
      let nothing : more ≡ [] = end torn.short in
      let same : bytes ++ more ≡ bytes = ap (λ (t : List ℕ). bytes ++ t) nothing ∙ append-nil bytes in
      let apart = taken_apart format b first count now bytes rest is taken (subst (IsAllOf format b first) same alone) in
      let here : IsStored (front_and format b first bytes) v layout = taken_stored format b first count now bytes rest v layout taken (stored apart) in
      subst (λ (t : List ℕ). IsStored (front_and format b first t) v layout) (sym same) here

  whole_before : (more : List ℕ) → AreWhole (front_and format b first (bytes ++ more)) now.whole
  whole_before more =
      subst (λ (t : List ℕ). AreWhole t now.whole) (append_assoc (summed_text format b first) bytes more) (whole_more (front_and format b first bytes) more now.whole (taken_whole format b first count now bytes rest is taken))

  -- ---- bytes that are there

  pub decoded_stored : (v : ReplicaValue) (layout : Layout) → IsAllOf format b first bytes → (IsApart taken_is_file rest → IsStored (taken_bytes ++ rest) v layout) → IsStored (front_and format b first bytes) v layout
  decoded_stored v layout alone stored = taken_stored format b first count now bytes rest v layout taken (stored (taken_apart format b first count now bytes rest is taken alone))

  pub decoded_refused : (e : Fault) → IsAllOf format b first bytes → (IsBegun rest → ⊥) → RefusesEnd now.whole rest e → RefusesBytes (front_and format b first bytes) e
  decoded_refused e alone none why =
      subst (λ (t : List ℕ). RefusesBytes (front_and format b first t) e) (append-nil bytes)
      (end_refused format b first count now bytes rest is taken [] e (all_here format b first bytes alone) (none_behind rest [] (λ few. refl) none) (torn_before rest [] (λ few. refl)) why)

  pub decoded_whole : (at : ℕ) → at ≡ now.whole → AreWhole (front_and format b first bytes) at
  decoded_whole at same = subst (λ (n : ℕ). AreWhole (front_and format b first bytes) n) (sym same) (taken_whole format b first count now bytes rest is taken)

  decoded_rest_refused : (e : Fault) → IsAllOf format b first bytes → RefusesRest now rest e → RefusesBytes (front_and format b first bytes) e
  decoded_rest_refused e alone why = subst (λ (t : List ℕ). RefusesBytes (front_and format b first t) e) (append-nil bytes) (rest_refused format b first count now bytes rest is taken [] e (all_here format b first bytes alone) why)

pub decoded_stops : (format : Format) (b : Bool) (first : ReplicaValue) (count : ℕ) (now : ReplayValue) (bytes : List ℕ) (e : Fault) → IsFront format b first count → IsAllOf format b first bytes → StopsAtRecord (start first count) now bytes e → RefusesBytes (front_and format b first bytes) e
decoded_stops format b first count now bytes e is alone stops = decoded_rest_refused format b first count now bytes stops.rest is stops.taken e alone stops.refused

-- ---- bytes that a reader gives

read_known : (P : List ℕ → Type 0) (before after : Option (List ℕ)) (behind given : List ℕ) → Consumes before after given → ((more : List ℕ) → after ≡ Some more → P ((behind ++ given) ++ more)) → IfSome before (λ input. P (behind ++ input))
read_known P None after behind given consumed has = tt
read_known P (Some xs) None behind given consumed has = absurd consumed
read_known P (Some xs) (Some ys) behind given consumed has = subst P (append_assoc behind given ys ∙ ap (λ (t : List ℕ). behind ++ t) (sym consumed)) (has ys refl)

-- the same, where something holds of all that the reader gives
read_all_known : (Q P : List ℕ → Type 0) (before after : Option (List ℕ)) (behind given : List ℕ) → Consumes before after given → IfSome before (λ input. Q (behind ++ input))
    → ((more : List ℕ) → after ≡ Some more → Q ((behind ++ given) ++ more) → P ((behind ++ given) ++ more)) → IfSome before (λ input. P (behind ++ input))
read_all_known Q P None after behind given consumed is has = tt
read_all_known Q P (Some xs) None behind given consumed is has = absurd consumed
read_all_known Q P (Some xs) (Some ys) behind given consumed is has =
    let same : behind ++ xs ≡ (behind ++ given) ++ ys = ap (λ (t : List ℕ). behind ++ t) consumed ∙ sym (append_assoc behind given ys) in
    subst P (sym same) (has ys refl (subst Q same is))

no_more : (after : Option (List ℕ)) (more : List ℕ) → after ≡ Some more → IsAtEnd after → more ≡ []
no_more after more is end = subst IsAtEnd is end

module _ (format : Format) (b : Bool) (first : ReplicaValue) (count : ℕ) (now : ReplayValue) (before after : Option (List ℕ)) (behind rest : List ℕ) (is : IsFront format b first count) (read : ReadsRecords (start first count) now before after behind rest) where
  abbrev pub read_bytes : List ℕ
  read_bytes = taken_bytes format b first count now (behind ++ read.given) rest is read.taken

  abbrev pub read_is_file : IsFile read_bytes format count now.replica
  read_is_file = taken_is_file format b first count now (behind ++ read.given) rest is read.taken

  pub read_length : now.whole ≡ length read_bytes
  read_length = taken_length format b first count now (behind ++ read.given) rest is read.taken

  pub read_value : IsSnapshot now.replica
  read_value = taken_value format b first count now (behind ++ read.given) rest is read.taken

  pub behind_stored : (v : ReplicaValue) (layout : Layout) → IfSome before (λ input. IsAllOf format b first (behind ++ input)) → IsTorn rest → (length rest ≤ MOST + HEAD → IsAtEnd after) → (IsApart read_is_file rest → IsStored (read_bytes ++ rest) v layout)
      → IfSome before (λ input. IsStored (front_and format b first (behind ++ input)) v layout)
  behind_stored v layout alone torn end stored =
      read_all_known (IsAllOf format b first) (λ (t : List ℕ). IsStored (front_and format b first t) v layout) before after behind read.given read.consumed alone
      (λ more at here. ended_stored format b first count now (behind ++ read.given) rest is read.taken more v layout here torn (λ few. no_more after more at (end few)) stored)

  pub behind_refused : (e : Fault) → IfSome before (λ input. IsAllOf format b first (behind ++ input)) → (IsBegun rest → ⊥) → (length rest ≤ MOST + HEAD → IsAtEnd after) → RefusesEnd now.whole rest e → IfSome before (λ input. RefusesBytes (front_and format b first (behind ++ input)) e)
  behind_refused e alone none end why =
      read_all_known (IsAllOf format b first) (λ (t : List ℕ). RefusesBytes (front_and format b first t) e) before after behind read.given read.consumed alone
      (λ more at here. end_refused format b first count now (behind ++ read.given) rest is read.taken more e here (none_behind rest more (λ few. no_more after more at (end few)) none)
      (torn_before rest more (λ few. no_more after more at (end few))) why)

  pub behind_whole : (at : ℕ) → at ≡ now.whole → IfSome before (λ input. AreWhole (front_and format b first (behind ++ input)) at)
  behind_whole at same =
      read_known (λ (t : List ℕ). AreWhole (front_and format b first t) at) before after behind read.given read.consumed
      (λ more is_more. subst (λ (n : ℕ). AreWhole (front_and format b first ((behind ++ read.given) ++ more)) n) (sym same) (whole_before format b first count now (behind ++ read.given) rest is read.taken more))

  behind_rest_refused : (e : Fault) → IfSome before (λ input. IsAllOf format b first (behind ++ input)) → RefusesRest now rest e → IfSome before (λ input. RefusesBytes (front_and format b first (behind ++ input)) e)
  behind_rest_refused e alone why =
      read_all_known (IsAllOf format b first) (λ (t : List ℕ). RefusesBytes (front_and format b first t) e) before after behind read.given read.consumed alone
      (λ more at here. rest_refused format b first count now (behind ++ read.given) rest is read.taken more e here why)

  device_refused : (e : Fault) → e ≡ Device → IfSome before (λ input. RefusesBytes (front_and format b first (behind ++ input)) e)
  device_refused e device =
      read_known (λ (t : List ℕ). RefusesBytes (front_and format b first t) e) before after behind read.given read.consumed (λ more at. rw device tt)

pub behind_stops : (format : Format) (b : Bool) (first : ReplicaValue) (count : ℕ) (now : ReplayValue) (before after : Option (List ℕ)) (behind : List ℕ) (e : Fault) → IsFront format b first count
    → IfSome before (λ input. IsAllOf format b first (behind ++ input)) → StopsReading (start first count) now before after behind e → IfSome before (λ input. RefusesBytes (front_and format b first (behind ++ input)) e)
behind_stops format b first count now before after behind e is alone stops = elim stops.refused [
  | inl device ↦ device_refused format b first count now before after behind stops.rest is stops.read e device
  | inr why ↦ behind_rest_refused format b first count now before after behind stops.rest is stops.read e alone why
]

pub behind_stops_whole : (format : Format) (b : Bool) (first : ReplicaValue) (count : ℕ) (now : ReplayValue) (before after : Option (List ℕ)) (behind : List ℕ) (e : Fault) (at : ℕ) → IsFront format b first count
    → StopsReading (start first count) now before after behind e → at ≡ now.whole → IfSome before (λ input. AreWhole (front_and format b first (behind ++ input)) at)
behind_stops_whole format b first count now before after behind e at is stops same = behind_whole format b first count now before after behind stops.rest is stops.read at same

-- What is read where a crash broke off one change.
use Rattle.std.proofs.Common.{◌≡◌, ℕ, ◌≤◌, ◌<◌, ◌+◌, ◌-◌, ◌⊎◌, inl, inr, List, [], ◌∷◌, ◌++◌, length, take, drop, Some, refl, sym, ap, ◌∙◌, subst, arith, append_assoc, append-nil, take-append-drop, take-take, length-append}
use Rattle.std.proofs.lemmas.Bool.{cases_lt}
use Rattle.std.proofs.lemmas.List.{drop_all, drop_at, nil_from_length, take_at, drop-take, length-drop}
use Rattle.rds_state.specs.Fits.{ReplicaValue}
use Rattle.rds_journal.specs.Appending.{appended, IsUnappended}
use Rattle.rds_journal.specs.Records.{IsBegun, IsPayload, IsTorn, record_text}
use Rattle.rds_journal.proofs.Format.{no_text}
use Rattle.rds_keep.specs.Changed.{ChangedValue, IsRecordOf}
use Rattle.rds_keep.specs.Changes.{ChangeValue, change_text}
use Rattle.rds_keep.specs.Kept.{AreMade, EndsAs, IsStored, records_text}
use Rattle.rds_keep.specs.declared.layout.Layout.{Layout}
use Rattle.rds_recovery.specs.Recovery.{InOrderIsNoOther, IsBrokenOff, IsNoOther, KeepsUpTo, NoneIsMadeUp, TornIsNoOther}
use Rattle.rds_keep.specs.Sums.{sum_payload}
use Rattle.rds_keep.proofs.Chains.{ends_behind, same_first}
use Rattle.rds_keep.proofs.SumTexts.{no_change}
use Rattle.rds_recovery.proofs.ReadingOn.{EndsOn, ends_there, read_on, whole_front}

nothing_begun : IsBegun [] → ⊥
nothing_begun begun = no_text begun.0 begun.1 begun.3

-- ---- what is read

-- behind the one record stands no other
ends_by : (change : ChangedValue) (behind : List ℕ) (found : ReplicaValue) (changes : List ChangeValue) (torn : List ℕ) → IsRecordOf change → IsNoOther change.bytes behind → EndsAs change.before behind found
    → AreMade change.before changes found → behind ≡ records_text change.before.own changes ++ torn → (found ≡ change.before) ⊎ (found ≡ change.after)
ends_by change behind found [] torn is none ends made parts = inl (sym made)
ends_by change behind found (c ∷ changes) torn is none ends made parts =
    let own = change.before.own in
    let text = change_text own is.change in
    let one = none (change_text own c, records_text own changes ++ torn, made.2, parts ∙ append_assoc (record_text (change_text own c)) (records_text own changes) torn) in
    let here : behind ≡ record_text text ++ one.0 = one.1 ∙ ap (λ (t : List ℕ). t ++ one.0) is.bytes in
    let on = ends_behind change.before text one.0 is.change change.after found is.payload refl is.redone (subst (λ (t : List ℕ). EndsAs change.before t found) here ends) in
    inr (sym (ends_there change.after one.0 found on one.2))

-- nor one of a checksum
ends_on_by : (change : ChangedValue) (behind : List ℕ) (found : ReplicaValue) → IsRecordOf change → IsNoOther change.bytes behind → EndsOn change.before behind found → (found ≡ change.before) ⊎ (found ≡ change.after)
ends_on_by change behind found is none (inl ends) = ends_by change behind found ends.changes ends.torn is none ends ends.made ends.parts
ends_on_by change behind found is none (inr sum) =
    let own = change.before.own in
    let text = change_text own is.change in
    let one = none (sum_payload sum.0, sum.1, sum.2, sum.3) in
    let here : behind ≡ record_text text ++ one.0 = one.1 ∙ ap (λ (t : List ℕ). t ++ one.0) is.bytes in
    let same = same_first (sum_payload sum.0) sum.1 text one.0 sum.2 is.payload (sym sum.3 ∙ here) in
    absurd (no_change own is.change sum.0 same.0)

pub none_made_up : (file : List ℕ) (change : ChangedValue) (layout : Layout) (left : List ℕ) → NoneIsMadeUp file change layout left
none_made_up file change layout left found stored is broken read =
    ends_on_by change (drop layout.whole left) found is broken.no_other (read_on file left change.before found layout stored broken.front read)

-- ---- where no other record stands

-- no record begins in a prefix of a torn end
abbrev begun_further : (bytes more : List ℕ) → IsBegun bytes → IsBegun (bytes ++ more)
begun_further bytes more begun = (begun.0, begun.1 ++ more, begun.2, ap (λ (t : List ℕ). t ++ more) begun.3 ∙ append_assoc (record_text begun.0) begun.1 more)

none_in_torn : (torn : List ℕ) (n : ℕ) → IsTorn torn → IsBegun (take n torn) → ⊥
none_in_torn torn n end begun = end.none 0 (subst IsBegun (take-append-drop n torn) (begun_further (take n torn) (drop n torn) begun))

-- nor in a part of a record
none_in_part : (payload : List ℕ) (k : ℕ) → IsPayload payload → k < length (record_text payload) → IsBegun (take k (record_text payload)) → ⊥
none_in_part payload k short less begun =
    let text = record_text payload in
    let further = begun_further (take k text) (drop k text) begun in
    let parts : record_text payload ++ [] ≡ record_text further.0 ++ further.1 = append-nil text ∙ sym (take-append-drop k text) ∙ further.3 in
    let same = same_first payload [] further.0 further.1 short further.2 parts in
    absurd (let none : 0 ≡ length (begun.1 ++ drop k text) = ap length same.1 in omega (arith, none, less, length-append begun.1 (drop k text), length-drop k text))

-- a prefix of the file, behind its whole records
behind_cut : (file : List ℕ) (v : ReplicaValue) (layout : Layout) (m : ℕ) → (stored : IsStored file v layout) → layout.whole ≤ m → drop layout.whole (take m file) ≡ take (m - layout.whole) stored.torn
behind_cut file v layout m stored le =
    let here : layout.whole + (m - layout.whole) ≡ m = omega (arith, le) in
    let torn : drop layout.whole file ≡ stored.torn = ap (drop layout.whole) stored.parts ∙ drop_at stored.whole stored.torn layout.whole (sym stored.size) in
    ap (λ (n : ℕ). drop layout.whole (take n file)) (sym here) ∙ drop-take layout.whole (m - layout.whole) file ∙ ap (take (m - layout.whole)) torn

none_in_cut : (file : List ℕ) (v : ReplicaValue) (layout : Layout) (m : ℕ) → IsStored file v layout → layout.whole ≤ m → IsBegun (drop layout.whole (take m file)) → ⊥
none_in_cut file v layout m stored le begun = none_in_torn stored.torn (m - layout.whole) stored.end (subst IsBegun (behind_cut file v layout m stored le) begun)

is_some : (a b : List ℕ) → Some a ≡ Some b → a ≡ b
is_some a b e = cc

cut_back : (file : List ℕ) (v : ReplicaValue) (layout : Layout) (bytes left : List ℕ) (m : ℕ) → IsStored file v layout → layout.whole ≤ m → left ≡ take m file → IsBrokenOff file layout.whole bytes left
cut_back file v layout bytes left m stored le is = record {
  front = ap (take layout.whole) is ∙ take-take layout.whole m file le;
  no_other = λ begun. absurd (none_in_cut file v layout m stored le (subst (λ (t : List ℕ). IsBegun (drop layout.whole t)) is begun));
}

-- so many bytes stand before what is appended
whole_length : (file : List ℕ) (v : ReplicaValue) (layout : Layout) → IsStored file v layout → length (take layout.whole file) ≡ layout.whole
whole_length file v layout stored = (let same = ap length (whole_front file v layout stored) in omega (arith, same, stored.size))

module _ (file : List ℕ) (v : ReplicaValue) (layout : Layout) (stored : IsStored file v layout) where
  keeps_front : (part : List ℕ) → KeepsUpTo layout.whole file (appended file layout.whole part)
  keeps_front part = take_at (take layout.whole file) part layout.whole (whole_length file v layout stored)

  behind_front : (part : List ℕ) → drop layout.whole (appended file layout.whole part) ≡ part
  behind_front part = drop_at (take layout.whole file) part layout.whole (whole_length file v layout stored)

  written_part : (bytes left part : List ℕ) → left ≡ appended file layout.whole part → IsNoOther bytes part → IsBrokenOff file layout.whole bytes left
  written_part bytes left part is none = subst (IsBrokenOff file layout.whole bytes) (sym is) (record {
    front = keeps_front part;
    no_other = subst (λ (t : List ℕ). IsNoOther bytes t) (sym (behind_front part)) none;
  })

  is_unwritten : (bytes left payload : List ℕ) → bytes ≡ record_text payload → IsPayload payload → IsUnappended file layout.whole bytes (Some left) → IsBrokenOff file layout.whole bytes left
  is_unwritten bytes left payload text short how = elim how [
    | inl back ↦ cut_back file v layout bytes left back.0 stored back.1 (is_some left (take back.0 file) back.2)
    | inr part ↦ written_part bytes left (take part.0 bytes) (is_some left (appended file layout.whole (take part.0 bytes)) part.2)
        (λ begun. absurd (none_in_part payload part.0 short (subst (λ (t : List ℕ). part.0 < length t) text part.1) (subst (λ (t : List ℕ). IsBegun (take part.0 t)) text begun)))
  ]

  is_written : (bytes left : List ℕ) → left ≡ appended file layout.whole bytes → IsBrokenOff file layout.whole bytes left
  is_written bytes left is = written_part bytes left bytes is (λ begun. ([], sym (append-nil bytes), nothing_begun))

pub in_order_no_other : (file : List ℕ) (change : ChangedValue) (layout : Layout) (left : List ℕ) → InOrderIsNoOther file change layout left
in_order_no_other file change layout left stored is how = elim how [
  | inl part ↦ is_unwritten file change.before layout stored change.bytes left (change_text change.before.own is.change) is.bytes is.payload part
  | inr all ↦ is_written file change.before layout stored change.bytes left all
]

-- ---- where it tears

-- what is a prefix of the file has no record behind its whole ones
none_left : (file : List ℕ) (v : ReplicaValue) (layout : Layout) (left : List ℕ) → IsStored file v layout → take (length left) file ≡ left → IsBegun (drop layout.whole left) → ⊥
none_left file v layout left stored is begun = elim (cases_lt (length left) layout.whole) [
  | inl less ↦ nothing_begun (subst IsBegun (drop_all layout.whole left (omega (arith, less))) begun)
  | inr le ↦ none_in_cut file v layout (length left) stored le (subst (λ (t : List ℕ). IsBegun (drop layout.whole t)) (sym is) begun)
]

-- there is no room behind the record
none_behind : (end : ℕ) (bytes left rest : List ℕ) → length left ≤ end + length bytes → drop end left ≡ bytes ++ rest → IsBegun rest → ⊥
none_behind end bytes left rest short parts begun =
    let none : length rest ≡ 0 = (let same = ap length parts in omega (arith, short, same, length-drop end left, length-append bytes rest)) in
    nothing_begun (subst IsBegun (nil_from_length rest none) begun)

pub torn_no_other : (file : List ℕ) (change : ChangedValue) (layout : Layout) (left : List ℕ) → TornIsNoOther file change layout left
torn_no_other file change layout left stored leaves one = record { front = leaves.front; no_other = none leaves.behind }
  where
    none : (take (length left) file ≡ left) ⊎ (length left ≤ layout.whole + length change.bytes) → IsNoOther change.bytes (drop layout.whole left)
    none (inl back) begun = absurd (none_left file change.before layout left stored back begun)
    none (inr short) begun = (let it = one begun in (it.0, it.1, none_behind layout.whole change.bytes left it.0 short it.1))

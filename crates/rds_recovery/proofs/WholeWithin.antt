-- Where the whole records of a file end that begins with a whole file.
use Rattle.std.proofs.Common.{◌≡◌, ◌+◌, ◌≤◌, ℕ, inl, inr, Bool, false, List, [], ◌∷◌, ◌++◌, length, map, refl, ap, ◌∙◌, subst, arith, append_assoc}
use Rattle.std.specs.List.{All}
use Rattle.std.proofs.lemmas.List.{length-append}
use Rattle.std.proofs.lemmas.List.Elements.{All-nil, All-cons}
use Rattle.sha2.specs.Sha256.{sha256}
use Rattle.rds_codec.specs.FormatTexts.{Snapshot, snapshot_text_in}
use Rattle.rds_codec.specs.declared.formats.Format.{Format}
use Rattle.rds_state.specs.Fits.{ReplicaValue}
use Rattle.rds_journal.specs.Records.{IsPayload, journal_text, record_text}
use Rattle.rds_journal.proofs.Crashes.{journal_more, synced_is_read}
use Rattle.rds_keep.specs.Changes.{ChangeValue, change_text}
use Rattle.rds_keep.specs.Kept.{AreMade, IsFile, IsStored}
use Rattle.rds_keep.specs.declared.layout.Layout.{Layout}
use Rattle.rds_keep.specs.Stored.{front_and}
use Rattle.rds_keep.specs.Sums.{sum_payload, sum_text, summed_text}
use Rattle.rds_keep.proofs.Files.{IsSameSnapshot, stored_either, stored_first, stored_rest}
use Rattle.rds_keep.proofs.SumTexts.{no_sum_first, sum_is_payload}

are_payloads : (old : ReplicaValue) (changes : List ChangeValue) (new : ReplicaValue) → AreMade old changes new → All IsPayload (map (change_text old.own) changes)
are_payloads old [] new made = All-nil IsPayload
are_payloads old (c ∷ changes) new made =
    All-cons IsPayload (change_text old.own c) (map (change_text old.own) changes) made.2
    (subst (λ (n : ℕ). All IsPayload (map (change_text n) changes)) made.1.changed.own (are_payloads made.0 changes new made.3))

text_within : (format : Format) (b : Bool) (v : ReplicaValue) → length (snapshot_text_in format v) ≤ length (summed_text format b v)
text_within format b v = omega (arith, length-append (snapshot_text_in format v) (sum_text b (snapshot_text_in format v)))

-- a prefix that is a whole file ends no later than all of them
pub whole_within : (whole behind : List ℕ) (format : Format) (count : ℕ) (v w : ReplicaValue) (layout : Layout) → IsFile whole format count v → IsStored (whole ++ behind) w layout → length whole ≤ layout.whole
whole_within whole behind format count v w layout file read = elim (stored_either format b first (journal_text payloads ++ behind) (whole ++ behind) w layout file.value file.within parts read) [
  | inl same ↦ longer same.0 same.1
  | inr sum ↦ alone sum.0 sum.2
]
  where
    first : ReplicaValue
    first = file.first

    b : Bool
    b = file.is_summed

    others : ReplicaValue
    others = read.file.first

    payloads : List (List ℕ)
    payloads = map (change_text first.own) file.changes

    found : List (List ℕ)
    found = map (change_text others.own) read.file.changes

    front : List ℕ
    front = summed_text format b first

    fronts : List ℕ
    fronts = summed_text layout.format read.file.is_summed others

    parts : whole ++ behind ≡ front_and format b first (journal_text payloads ++ behind)
    parts = ap (λ (t : List ℕ). t ++ behind) file.parts ∙ append_assoc front (journal_text payloads) behind

    which : IsSameSnapshot format first layout.format others
    which = stored_first format b first (journal_text payloads ++ behind) (whole ++ behind) w layout file.value file.within parts read

    size : length whole ≡ length front + length (journal_text payloads)
    size = ap length file.parts ∙ length-append front (journal_text payloads)

    all : length read.whole ≡ length fronts + length (journal_text found)
    all = ap length read.file.parts ∙ length-append fronts (journal_text found)

    -- behind the same front stand the same records, and more
    longer : b ≡ read.file.is_summed → journal_text payloads ++ behind ≡ journal_text found ++ read.torn → length whole ≤ layout.whole
    longer summed rest =
        let same : length front ≡ length fronts =
        ap (λ (c : Bool). length (summed_text format c first)) summed ∙ ap (λ (p : Snapshot). length (summed_text p.0 read.file.is_summed p.1)) which in
        let begins = synced_is_read payloads (journal_text payloads ++ behind) found read.torn (are_payloads first file.changes v file.made) (behind, refl)
        (record { parts = rest; short = are_payloads others read.file.changes w read.file.made; end = read.end.none 0 }) in
        let more : length (journal_text found) ≡ length (journal_text payloads ++ journal_text begins.0) = ap (λ (ps : List (List ℕ)). length (journal_text ps)) begins.1 ∙ ap length (journal_more payloads begins.0) in
        omega (arith, read.size, size, all, same, more, length-append (journal_text payloads) (journal_text begins.0))

    -- behind a snapshot without a checksum stands one: there are no records before
    alone : b ≡ false → journal_text payloads ++ behind ≡ record_text (sum_payload (sha256 (snapshot_text_in format first))) ++ stored_rest read → length whole ≤ layout.whole
    alone unsummed rest =
        let none = no_sum_first first.own first file.changes v behind (sha256 (snapshot_text_in format first)) (stored_rest read) refl file.made (sum_is_payload (snapshot_text_in format first)) rest in
        let nothing : length (journal_text payloads) ≡ 0 = ap (λ (cs : List ChangeValue). length (journal_text (map (change_text first.own) cs))) none in
        let short : length front ≡ length (snapshot_text_in format first) + 0 = ap (λ (c : Bool). length (summed_text format c first)) unsummed ∙ length-append (snapshot_text_in format first) [] in
        let same : length (snapshot_text_in format first) ≡ length (snapshot_text_in layout.format others) = ap (λ (p : Snapshot). length (snapshot_text_in p.0 p.1)) which in
        omega (arith, read.size, size, all, nothing, short, same, text_within layout.format read.file.is_summed others)

-- What a whole file begins is read as its replica, and on from there.
use Rattle.std.proofs.Common.{◌≡◌, ℕ, ◌⊎◌, inl, inr, Bool, List, [], ◌∷◌, ◌++◌, take, drop, refl, sym, ap, ◌∙◌, subst, append_assoc, take-append-drop}
use Rattle.std.proofs.lemmas.List.{take_at}
use Rattle.rds_names.specs.Roster.{RosterValue, Begins}
use Rattle.sha2.specs.Sha256.{sha256}
use Rattle.rds_codec.specs.FormatTexts.{snapshot_text_in}
use Rattle.rds_codec.specs.declared.formats.Format.{Format}
use Rattle.rds_state.specs.Coordinates.{AtMost}
use Rattle.rds_state.specs.Fits.{ReplicaValue}
use Rattle.rds_state.specs.Value.{coordinates}
use Rattle.rds_state.proofs.JoinLaws.{above_left, reflexive, transitive}
use Rattle.rds_journal.specs.Records.{IsBegun, IsPayload, record_text}
use Rattle.rds_keep.specs.Changes.{ChangeValue, IsChanged, change_text}
use Rattle.rds_keep.specs.Kept.{AreMade, EndsAs, IsFile, IsStored, records_text}
use Rattle.rds_keep.specs.Stored.{front_and}
use Rattle.rds_keep.specs.Sums.{sum_payload, summed_text}
use Rattle.rds_keep.specs.declared.layout.Layout.{Layout}
use Rattle.rds_keep.proofs.Chains.{ends_after}
use Rattle.rds_keep.proofs.ChangeTexts.{begins_itself}
use Rattle.rds_keep.proofs.Files.{ends_from, stored_either, stored_first, stored_rest}
use Rattle.rds_keep.proofs.SumTexts.{no_sum_first, sum_is_payload}
use Rattle.rds_recovery.specs.Recovery.{FileHolds, HoldsOne, IsGrown, KeepsUpTo}

-- ---- the same replica later on

pub not_grown : (v : ReplicaValue) → IsGrown v v
not_grown v = record { roster = begins_itself v.roster; own = refl; state = reflexive (coordinates v.state) }

begins_on : (r s t : RosterValue) → Begins r s → Begins s t → Begins r t
begins_on r s t p q =
    (p.0 ∙ q.0, (p.1.0 ++ q.1.0, q.1.1 ∙ ap (λ (ns : List (List ℕ)). ns ++ q.1.0) p.1.1 ∙ append_assoc r.names p.1.0 q.1.0))

pub grown_on : (u v w : ReplicaValue) → IsGrown u v → IsGrown v w → IsGrown u w
grown_on u v w p q = record {
  roster = begins_on u.roster v.roster w.roster p.roster q.roster;
  own = q.own ∙ p.own;
  state = transitive (coordinates u.state) (coordinates v.state) (coordinates w.state) p.state q.state;
}

pub changed_grown : (old : ReplicaValue) (c : ChangeValue) (new : ReplicaValue) → IsChanged old c new → IsGrown old new
changed_grown old c new changed = record {
  roster = changed.begins;
  own = changed.own;
  state = subst (AtMost (coordinates old.state)) (sym changed.joined) (above_left (coordinates old.state) (coordinates c.delta));
}

made_grown : (old : ReplicaValue) (changes : List ChangeValue) (new : ReplicaValue) → AreMade old changes new → IsGrown old new
made_grown old [] new same = subst (IsGrown old) same (not_grown old)
made_grown old (c ∷ changes) new made = grown_on old made.0 new (changed_grown old c made.0 made.1.changed) (made_grown made.0 changes new made.3)

pub ends_grown : (v : ReplicaValue) (bytes : List ℕ) (w : ReplicaValue) → EndsAs v bytes w → IsGrown v w
ends_grown v bytes w ends = made_grown v ends.changes w ends.made

-- where no record begins, it stays so
ends_still : (v : ReplicaValue) (bytes : List ℕ) (w : ReplicaValue) (changes : List ChangeValue) (torn : List ℕ) → AreMade v changes w → bytes ≡ records_text v.own changes ++ torn → (IsBegun bytes → ⊥) → v ≡ w
ends_still v bytes w [] torn made parts none = made
ends_still v bytes w (c ∷ changes) torn made parts none =
    absurd (none (change_text v.own c, records_text v.own changes ++ torn, made.2, parts ∙ append_assoc (record_text (change_text v.own c)) (records_text v.own changes) torn))

pub ends_there : (v : ReplicaValue) (bytes : List ℕ) (w : ReplicaValue) → EndsAs v bytes w → (IsBegun bytes → ⊥) → v ≡ w
ends_there v bytes w ends none = ends_still v bytes w ends.changes ends.torn ends.made ends.parts none

-- ---- files

-- bytes end as a file from this replica on, or behind the record of a checksum
abbrev pub EndsOn : ReplicaValue → List ℕ → ReplicaValue → Type 0
EndsOn v behind w = EndsAs v behind w ⊎ ((sum rest : List ℕ) × IsPayload (sum_payload sum) × (behind ≡ record_text (sum_payload sum) ++ rest) × EndsAs v rest w)

file_ends : (format : Format) (first : ReplicaValue) (changes : List ChangeValue) (v w : ReplicaValue) (behind rest : List ℕ) → AreMade first changes v → EndsAs first rest w
    → ((records_text first.own changes ++ behind) ≡ rest) ⊎ ((records_text first.own changes ++ behind) ≡ record_text (sum_payload (sha256 (snapshot_text_in format first))) ++ rest) → EndsOn v behind w
file_ends format first changes v w behind rest made ends (inl same) =
    inl (ends_after first changes v behind w made (subst (λ (t : List ℕ). EndsAs first t w) (sym same) ends))
file_ends format first [] v w behind rest made ends (inr sum) =
    let text = snapshot_text_in format first in
    inr (sha256 text, rest, sum_is_payload text, sum, subst (λ (u : ReplicaValue). EndsAs u rest w) made ends)
file_ends format first (c ∷ changes) v w behind rest made ends (inr sum) =
    let text = snapshot_text_in format first in
    absurd (let none : c ∷ changes ≡ [] = no_sum_first first.own first (c ∷ changes) v behind (sha256 text) rest refl made (sum_is_payload text) sum in cc)

pub file_on : (whole behind : List ℕ) (format : Format) (count : ℕ) (v w : ReplicaValue) (layout : Layout) → IsFile whole format count v → IsStored (whole ++ behind) w layout → EndsOn v behind w
file_on whole behind format count v w layout file read =
    let first = file.first in
    let b = file.is_summed in
    let records = records_text first.own file.changes in
    let parts : whole ++ behind ≡ front_and format b first (records ++ behind) =
    ap (λ (t : List ℕ). t ++ behind) file.parts ∙ append_assoc (summed_text format b first) records behind in
    let which = stored_first format b first (records ++ behind) (whole ++ behind) w layout file.value file.within parts read in
    let ends = ends_from format first (stored_rest read) (whole ++ behind) w layout read which refl in
    file_ends format first file.changes v w behind (stored_rest read) file.made ends
    (elim (stored_either format b first (records ++ behind) (whole ++ behind) w layout file.value file.within parts read) [ inl same ↦ inl same.1 | inr sum ↦ inr sum.2 ])

-- where no record begins, it stays so
pub ends_on_there : (v : ReplicaValue) (bytes : List ℕ) (w : ReplicaValue) → EndsOn v bytes w → (IsBegun bytes → ⊥) → v ≡ w
ends_on_there v bytes w (inl ends) none = ends_there v bytes w ends none
ends_on_there v bytes w (inr sum) none = absurd (none (sum_payload sum.0, sum.1, sum.2, sum.3))

pub ends_on_grown : (v : ReplicaValue) (bytes : List ℕ) (w : ReplicaValue) → EndsOn v bytes w → IsGrown v w
ends_on_grown v bytes w (inl ends) = ends_grown v bytes w ends
ends_on_grown v bytes w (inr sum) = ends_grown v sum.1 w sum.4

-- where the whole records end
pub whole_front : (file : List ℕ) (v : ReplicaValue) (layout : Layout) → (stored : IsStored file v layout) → take layout.whole file ≡ stored.whole
whole_front file v layout stored = ap (take layout.whole) stored.parts ∙ take_at stored.whole stored.torn layout.whole (sym stored.size)

-- up to there the other is the same: it is read on from there
pub read_on : (file left : List ℕ) (v w : ReplicaValue) (layout : Layout) → IsStored file v layout → KeepsUpTo layout.whole file left → FileHolds left w → EndsOn v (drop layout.whole left) w
read_on file left v w layout stored keeps read =
    let front : take layout.whole left ≡ stored.whole = keeps ∙ whole_front file v layout stored in
    let parts : left ≡ stored.whole ++ drop layout.whole left = sym (take-append-drop layout.whole left) ∙ ap (λ (t : List ℕ). t ++ drop layout.whole left) front in
    file_on stored.whole (drop layout.whole left) layout.format layout.snapshot v w read.0 stored.file (subst (λ (t : List ℕ). IsStored t w read.0) parts read.1)

pub hold_one : (file : List ℕ) → HoldsOne file
hold_one file v w one other =
    let stored = one.1 in
    let ends = file_on stored.whole stored.torn one.0.format one.0.snapshot v w other.0 stored.file (subst (λ (t : List ℕ). IsStored t w other.0) stored.parts other.1) in
    ends_on_there v stored.torn w ends (stored.end.none 0)

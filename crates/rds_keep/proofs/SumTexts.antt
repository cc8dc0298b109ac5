-- The record of a checksum behind a snapshot: what stands first there, and what doesn't.
use Rattle.std.proofs.Common.{◌≡◌, ℕ, ◌+◌, ◌-◌, ◌<◌, ◌≤◌, ◌⊎◌, inl, inr, Bool, true, false, List, [], ◌∷◌, ◌++◌, length, take, drop, get_or, Option, Some, None, refl, sym, ap, ◌∙◌, subst, arith, append_assoc, append-nil, take-append-drop}
use Rattle.std.proofs.lemmas.List.{drop_at, length-append, length-drop, length-take, take_at}
use Rattle.sha2.specs.Sha256.{sha256}
use Rattle.sha2.proofs.Facts256.{length-sha256}
use Rattle.rds_names.specs.Roster.{RosterValue}
use Rattle.rds_state.specs.Fits.{ReplicaValue}
use Rattle.rds_journal.specs.Records.{IsBegun, IsPayload, IsTorn, record_text}
use Rattle.rds_journal.specs.declared.records.TheConstants.{MOST, HEAD}
use Rattle.rds_journal.proofs.Format.{length_record}
use Rattle.rds_keep.specs.Changes.{ChangeValue, change_text, front_text}
use Rattle.rds_keep.specs.Kept.{AreMade, records_text}
use Rattle.rds_keep.specs.Sums.{CutsSum, HasNoSum, HasOtherSum, sum_payload, sum_text}
use Rattle.rds_keep.proofs.Chains.{first_record_of, not_torn, same_first}

-- ---- such a record

pub sum_is_payload : (bytes : List ℕ) → IsPayload (sum_payload (sha256 bytes))
sum_is_payload bytes = let size = length-sha256 bytes in omega (arith, size)

pub sum_length : (bytes : List ℕ) → length (record_text (sum_payload (sha256 bytes))) ≡ 69
sum_length bytes = let size = length-sha256 bytes in omega (arith, size, length_record (sum_payload (sha256 bytes)))

-- ---- no change has it

abbrev first_of : List ℕ → ℕ
first_of bytes = get_or bytes 0 0

no_front : (own : ℕ) (roster : Option RosterValue) (delta sum : List ℕ) → sum_payload sum ≡ front_text own roster ++ delta → ⊥
no_front own None delta sum e = absurd (let no : 3 ≡ 1 = ap first_of e in omega (arith, no))
no_front own (Some roster) delta sum e = absurd (let no : 3 ≡ 2 = ap first_of e in omega (arith, no))

pub no_change : (own : ℕ) (c : ChangeValue) (sum : List ℕ) → sum_payload sum ≡ change_text own c → ⊥
no_change own c sum e = no_front own c.roster _ sum e

-- where it stands first, there is no record of a change
pub no_sum_first : (own : ℕ) (old : ReplicaValue) (changes : List ChangeValue) (new : ReplicaValue) (behind sum rest : List ℕ) → own ≡ old.own → AreMade old changes new → IsPayload (sum_payload sum)
    → records_text own changes ++ behind ≡ record_text (sum_payload sum) ++ rest → changes ≡ []
no_sum_first own old [] new behind sum rest is made short e = refl
no_sum_first own old (c ∷ changes) new behind sum rest is made short e =
    let payload : IsPayload (change_text own c) = subst (λ (n : ℕ). IsPayload (change_text n c)) (sym is) made.2 in
    let same = same_first (sum_payload sum) rest (change_text own c) (records_text own changes ++ behind) short payload (sym e ∙ first_record_of own c changes behind) in
    absurd (no_change own c sum same.0)

-- the records of changes and a torn end don't begin with it
pub no_sum_behind : (own : ℕ) (old : ReplicaValue) (changes : List ChangeValue) (new : ReplicaValue) (torn sum rest : List ℕ) → own ≡ old.own → AreMade old changes new → IsTorn torn → IsPayload (sum_payload sum)
    → records_text own changes ++ torn ≡ record_text (sum_payload sum) ++ rest → ⊥
no_sum_behind own old changes new torn sum rest is made end short e =
    let none = no_sum_first own old changes new torn sum rest is made short e in
    not_torn torn (sum_payload sum) rest end short (sym e ∙ ap (λ (cs : List ChangeValue). records_text own cs ++ torn) none)

-- ---- whether a snapshot has it

-- what stands behind it
pub same_behind : (b d : Bool) (bytes behind rest : List ℕ) → ((more : List ℕ) → rest ≡ record_text (sum_payload (sha256 bytes)) ++ more → ⊥) → sum_text b bytes ++ behind ≡ sum_text d bytes ++ rest
    → ((b ≡ d) × (behind ≡ rest)) ⊎ ((b ≡ false) × (d ≡ true) × (behind ≡ record_text (sum_payload (sha256 bytes)) ++ rest))
same_behind true true bytes behind rest none e = inl (refl, (same_first (sum_payload (sha256 bytes)) behind (sum_payload (sha256 bytes)) rest (sum_is_payload bytes) (sum_is_payload bytes) e).1)
same_behind true false bytes behind rest none e = absurd (none behind (sym e))
same_behind false true bytes behind rest none e = inr (refl, refl, e)
same_behind false false bytes behind rest none e = inl (refl, e)

-- a record of another checksum stands first
pub other_behind : (d : Bool) (bytes behind rest : List ℕ) → HasOtherSum (sha256 bytes) behind → ((told more : List ℕ) → IsPayload (sum_payload told) → rest ≡ record_text (sum_payload told) ++ more → ⊥) → behind ≡ sum_text d bytes ++ rest → ⊥
other_behind true bytes behind rest is none e =
    let same = same_first (sum_payload is.told) is.rest (sum_payload (sha256 bytes)) rest is.payload (sum_is_payload bytes) (sym is.parts ∙ e) in
    is.other (tail_of is.told (sha256 bytes) same.0)
  where
    tail_of : (a b : List ℕ) → sum_payload a ≡ sum_payload b → a ≡ b
    tail_of a b h = cc
other_behind false bytes behind rest is none e = none is.told is.rest is.payload (sym e ∙ is.parts)

pub other_more : (sum bytes more : List ℕ) → HasOtherSum sum bytes → HasOtherSum sum (bytes ++ more)
other_more sum bytes more is = record {
  told = is.told;
  rest = is.rest ++ more;
  parts = ap (λ (t : List ℕ). t ++ more) is.parts ∙ append_assoc (record_text (sum_payload is.told)) is.rest more;
  payload = is.payload;
  other = is.other;
}

-- fewer bytes have none, where more have none
pub no_sum_before : (sum bytes more : List ℕ) → HasNoSum sum (bytes ++ more) → HasNoSum sum bytes
no_sum_before sum bytes more none rest e = none (rest ++ more) (ap (λ (t : List ℕ). t ++ more) e ∙ append_assoc (record_text (sum_payload sum)) rest more)

-- ---- what stands first

-- no record begins
pub none_begun_sum : (sum bytes : List ℕ) → IsPayload (sum_payload sum) → (IsBegun bytes → ⊥) → HasNoSum sum bytes
none_begun_sum sum bytes short none rest e = none (sum_payload sum, rest, short, e)

-- another payload
pub other_payload_sum : (sum bytes payload behind more : List ℕ) → IsPayload (sum_payload sum) → IsPayload payload → bytes ≡ record_text payload ++ behind → (payload ≡ sum_payload sum → ⊥) → HasNoSum sum (bytes ++ more)
other_payload_sum sum bytes payload behind more short short2 parts other rest e =
    let all : bytes ++ more ≡ record_text payload ++ (behind ++ more) = ap (λ (t : List ℕ). t ++ more) parts ∙ append_assoc (record_text payload) behind more in
    let same = same_first payload (behind ++ more) (sum_payload sum) rest short2 short (sym all ∙ e) in
    other same.0

-- ---- the rest of such a record

-- it is shorter than one
pub cut_short : (bytes behind : List ℕ) → CutsSum bytes behind → length behind < 69
cut_short bytes behind cuts =
    let inside = cuts.inside in
    let size = cuts.size in
    omega (arith, inside, size, ap length cuts.parts, length-append bytes behind, length-append cuts.before (record_text (sum_payload cuts.told)), length_record (sum_payload cuts.told))

-- no record is behind the snapshot then, and that has none of its checksum
pub cut_behind : (b : Bool) (own : ℕ) (changes : List ChangeValue) (old new : ReplicaValue) (bytes torn behind : List ℕ) → own ≡ old.own → AreMade old changes new → CutsSum bytes behind
    → behind ≡ sum_text b bytes ++ (records_text own changes ++ torn) → (b ≡ false) × (changes ≡ []) × (behind ≡ torn)
cut_behind true own changes old new bytes torn behind is made cuts parts =
    absurd (cuts.none (sum_payload (sha256 bytes), records_text own changes ++ torn, sum_is_payload bytes, parts))
cut_behind false own [] old new bytes torn behind is made cuts parts = (refl, refl, parts)
cut_behind false own (c ∷ changes) old new bytes torn behind is made cuts parts =
    let payload : IsPayload (change_text own c) = subst (λ (n : ℕ). IsPayload (change_text n c)) (sym is) made.2 in
    absurd (cuts.none (change_text own c, records_text own changes ++ torn, payload, parts ∙ first_record_of own c changes torn))

-- a slice up to the end
pub slice_end : (bytes : List ℕ) (at : ℕ) → take (length bytes - at) (drop at bytes) ≡ drop at bytes
slice_end bytes at = sym (ap (take (length bytes - at)) (append-nil (drop at bytes))) ∙ take_at (drop at bytes) [] (length bytes - at) (length-drop at bytes)

-- the end of the bytes of both is such a record, or isn't
module _ (bytes behind all : List ℕ) (at : ℕ) (both : all ≡ bytes ++ behind) (size : at + 69 ≡ length all) where
  pub cut_found : 0 < length behind → length behind < 69 → (IsBegun behind → ⊥) → (told : List ℕ) × (length told ≡ 32) × (drop at all ≡ record_text (sum_payload told)) → CutsSum bytes behind
  cut_found some few none found = record {
    before = take at all;
    told = found.0;
    parts = sym both ∙ sym (take-append-drop at all) ∙ ap (λ (t : List ℕ). take at all ++ t) found.2;
    size = found.1;
    inside = omega (arith, size, few, ap length both, length-append bytes behind, length-take at all);
    some = some;
    none = none;
  }

  pub cut_none : ((told : List ℕ) → length told ≡ 32 → drop at all ≡ record_text (sum_payload told) → ⊥) → CutsSum bytes behind → ⊥
  cut_none none cuts =
      let text = record_text (sum_payload cuts.told) in
      let count = cuts.size in
      let parts : all ≡ cuts.before ++ text = both ∙ cuts.parts in
      let here : length cuts.before ≡ at = omega (arith, count, size, ap length parts, length-append cuts.before text, length_record (sum_payload cuts.told)) in
      none cuts.told cuts.size (ap (drop at) parts ∙ drop_at cuts.before text at here)

pub cut_few : (bytes behind : List ℕ) → length bytes + length behind < 69 → CutsSum bytes behind → ⊥
cut_few bytes behind few cuts =
    let size = cuts.size in
    omega (arith, few, size, ap length cuts.parts, length-append bytes behind, length-append cuts.before (record_text (sum_payload cuts.told)), length_record (sum_payload cuts.told))

-- bytes that are such a record begin with no other
pub sum_alone : (bytes payload rest told : List ℕ) → IsPayload payload → bytes ≡ record_text payload ++ rest → length told ≡ 32 → bytes ≡ record_text (sum_payload told) → (payload ≡ sum_payload told) × (rest ≡ [])
sum_alone bytes payload rest told short parts size e =
    same_first payload rest (sum_payload told) [] short (omega (arith, size)) (sym parts ∙ e ∙ sym (append-nil (record_text (sum_payload told))))

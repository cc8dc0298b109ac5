-- From what the parts of `join` answer to what it answers.
use Rattle.std.proofs.Common.{◌≡◌, ◌∙◌, ℕ, ◌≤◌, ◌⊎◌, inl, inr, Bool, cond, eqb, leb, true, false, List, [], ◌∷◌, Result, Ok, Err, refl, sym, ap, subst, ltb, length, arith}
use Rattle.std.specs.Prelude.{MatchResult, IfErr}
use Rattle.std.specs.Global.{Vec}
use Rattle.std.proofs.lemmas.Bool.{eqb-true, leb-false, leb-true, lt-ltb, le-ltb}
use Rattle.std.proofs.lemmas.List.{nil_from_length}
use Rattle.hex.specs.Hex.{decode_of}
use Rattle.rds_names.specs.declared.fault.Fault.{Fault}
use Rattle.rds_names.specs.declared.fault.Fault.TheVariants.{Memory, TooLong}
use Rattle.rds_names.specs.Roster.{RosterValue, longer}
use Rattle.rds_state.specs.Coordinates.{join}
use Rattle.rds_state.specs.Fits.{Fits, ReplicaValue, IsReplica}
use Rattle.rds_state.specs.Value.{StateValue, coordinates}
use Rattle.rds_state.proofs.FitsLemmas.{fits_more, join_fits}
use Rattle.rds_codec.specs.DecodedSnapshots.{DecodesSnapshot}
use Rattle.rds_codec.specs.FormatWriting.{EncodesTabled}
use Rattle.rds_codec.specs.StateTexts.{snapshot_text}
use Rattle.rds_codec.specs.declared.limits.TheConstants.{LIMIT}
use Rattle.rds_lines.specs.Join.{LineRead, JoinedTo, TextOfJoined, AfterBoth}
use Rattle.rds_lines.specs.declared.join.TheConstants.{LINE_LIMIT}

abbrev done : {A : Type 0} → A → Result A Fault
done v = Ok v

abbrev failed : {A : Type 0} → Fault → Result A Fault
failed e = Err e

-- the digits' bytes are decoded as the line is read
pub line_decoded : (line bytes items : List ℕ) (r : Result ReplicaValue Fault) → length line ≤ LINE_LIMIT → decode_of line ≡ Ok items → bytes ≡ items → DecodesSnapshot bytes r → LineRead line r
line_decoded line bytes items r short digits same decoded =
    let within : ltb LINE_LIMIT (length line) ≡ false = le-ltb LINE_LIMIT (length line) short in
    rw (within, digits) (subst (λ (b : List ℕ). DecodesSnapshot b r) same decoded)

-- a join that was refused is the answer
pub join_refused : (rest : List ℕ) (v w : ReplicaValue) (e : Fault) → rest ≡ [] → (e ≡ Memory) ⊎ JoinedTo v w (Err e) → (e ≡ Memory) ⊎ AfterBoth rest v w (Err e)
join_refused [] v w e none h = elim h [ inl m ↦ inl m | inr refused ↦ inr (Err e, refused, refl) ]
join_refused (b ∷ rest) v w e none h = absurd cc

text_within : (j : ReplicaValue) (text : List ℕ) → text ≡ snapshot_text j → ltb LIMIT (length (snapshot_text j)) ≡ false → TextOfJoined (Ok j) (Ok text)
text_within j text same short = rw short (ap (λ (t : List ℕ). done t) same)

text_beyond : (j : ReplicaValue) → ltb LIMIT (length (snapshot_text j)) ≡ true → TextOfJoined (Ok j) (Err TooLong)
text_beyond j long = rw long refl

-- the text of what was joined is the answer, or its fault
pub join_encoded : (rest : List ℕ) (v w j : ReplicaValue) (r : Result (Vec ℕ) Fault) → rest ≡ [] → JoinedTo v w (Ok j) → EncodesTabled (snapshot_text j) r
    → MatchResult r (λ x. AfterBoth rest v w (Ok x.items)) (λ e. (e ≡ Memory) ⊎ AfterBoth rest v w (Err e))
join_encoded (b ∷ rest) v w j r none joined text = absurd cc
join_encoded [] v w j (Ok x) none joined text = (Ok j, joined, text_within j x.items text.0 (le-ltb LIMIT (length (snapshot_text j)) text.1))
join_encoded [] v w j (Err e) none joined text = elim text [
  | inl m ↦ inl m
  | inr long ↦ inr (Ok j, joined, rw long.0 (text_beyond j (lt-ltb LIMIT (length (snapshot_text j)) long.1)))
]

first_within : (r s : RosterValue) → length r.names ≤ length (longer r s).names
first_within r s = by_length (leb (length s.names) (length r.names)) refl
  where
    by_length : (t : Bool) → leb (length s.names) (length r.names) ≡ t → length r.names ≤ length (cond t r s).names
    by_length true e = omega arith
    by_length false e = omega (arith, leb-false (length s.names) (length r.names) e)

second_within : (r s : RosterValue) → length s.names ≤ length (longer r s).names
second_within r s = by_length (leb (length s.names) (length r.names)) refl
  where
    by_length : (t : Bool) → leb (length s.names) (length r.names) ≡ t → length s.names ≤ length (cond t r s).names
    by_length true e = leb-true (length s.names) (length r.names) e
    by_length false e = omega arith

-- the longer roster, the first one's number and both states joined are a replica's parts
pub joined_is_replica : (v w : ReplicaValue) (roster : RosterValue) (own : ℕ) (a b joined : StateValue) → IsReplica v → IsReplica w → roster ≡ longer v.roster w.roster → own ≡ v.own → a ≡ v.state → b ≡ w.state
    → coordinates joined ≡ join (coordinates a) (coordinates b) → (let r : ReplicaValue = record { roster = roster; own = own; state = joined } in IsReplica r)
joined_is_replica v w roster own a b joined first second rosters owns states others e =
    let n = length (longer v.roster w.roster).names in
    let left : Fits n (coordinates v.state) = fits_more (length v.roster.names) n (coordinates v.state) (first_within v.roster w.roster) first.fits in
    let right : Fits n (coordinates w.state) = fits_more (length w.roster.names) n (coordinates w.state) (second_within v.roster w.roster) second.fits in
    let both : Fits n (join (coordinates a) (coordinates b)) =
    join_fits n (coordinates a) (coordinates b) (subst (λ (t : StateValue). Fits n (coordinates t)) (sym states) left) (subst (λ (t : StateValue). Fits n (coordinates t)) (sym others) right) in
    let names : n ≡ length roster.names = ap (λ (r : RosterValue). length r.names) (sym rosters) in
    record {
      own = omega (arith, names, owns, first.own, first_within v.roster w.roster);
      fits = subst (λ (k : ℕ). Fits k (coordinates joined)) names (subst (Fits n) (sym e) both);
    }

-- what is refused only where it isn't so isn't refused where it is
pub not_refused : {T X : Type 0} (B : Fault → Type 0) (r : Result T Fault) (e : Fault) → MatchResult r (λ _. X) (λ f. (f ≡ e) × (¬ X)) → X → IfErr r B
not_refused B (Ok t) e h x = tt
not_refused B (Err f) e h x = absurd (h.1 x)

-- a list that was found to be empty
pub emptied : {A : Type 0} (xs : List A) (b : Bool) → b ≡ eqb (length xs) 0 → b ≡ true → xs ≡ []
emptied xs b e is = nil_from_length xs (eqb-true _ _ (sym e ∙ is))

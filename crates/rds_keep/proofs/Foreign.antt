-- Foreign inputs, and those of fewer than four bytes: no text begins as they do, and a reading of one ends there.
use Rattle.std.proofs.Common.{◌≡◌, ℕ, ◌<◌, ◌≤◌, inl, inr, List, [], ◌∷◌, ◌++◌, length, take, drop, Err, refl, sym, ap, ◌∙◌, arith}
use Rattle.std.proofs.lemmas.Bool.{lt-ltb, le-ltb}
use Rattle.std.proofs.lemmas.List.{append-nil, length-append, length-take}
use Rattle.rds_names.specs.declared.fault.Fault.{Fault}
use Rattle.rds_names.specs.declared.fault.Fault.TheVariants.{Cut, Bad}
use Rattle.rds_state.specs.Fits.{ReplicaValue}
use Rattle.rds_bytes.specs.Reading.{short_at, key_at, roster_at, member_at}
use Rattle.rds_codec.specs.DecodedSnapshots.{DecodesSnapshot}
use Rattle.rds_codec.specs.Decoding.{Decodes, all_of}
use Rattle.rds_codec.specs.FormatTexts.{Snapshot, format_of, format_at, magic_of, member_state_at, snapshot_in_at, snapshot_kind_in, snapshot_text_in}
use Rattle.rds_codec.specs.declared.formats.Format.{Format}
use Rattle.rds_codec.specs.declared.formats.Format.TheVariants.{One, Two}
use Rattle.rds_codec.specs.declared.limits.TheConstants.{LIMIT}
use Rattle.rds_keep.specs.Feeding.{IsHopeless, decoding}
use Rattle.rds_keep.specs.Snapshots.{IsForeign, IsDecodedInput}
use Rattle.rds_keep.proofs.Fronts.{magic_has_four, none_foreign, read_is, read_by, or_none}

-- ---- what it is answered

abbrev text_of : Snapshot → List ℕ
text_of s = snapshot_text_in s.0 s.1

begins_in : (f : Format) (v : ReplicaValue) (rest : List ℕ) → take 4 (snapshot_text_in f v ++ rest) ≡ magic_of f
unfolding snapshot_text_in
begins_in One v rest = refl
begins_in Two v rest = refl

text_begins : (s : Snapshot) (rest : List ℕ) → take 4 (text_of s ++ rest) ≡ magic_of s.0
text_begins s rest = begins_in s.0 s.1 rest

pub no_text : (input : List ℕ) (s : Snapshot) (rest : List ℕ) → IsForeign input → input ≡ text_of s ++ rest → ⊥
no_text input s rest is same = none_foreign s.0 (take 4 input) (ap (take 4) same ∙ text_begins s rest) is.1

format_bad : (input : List ℕ) → IsForeign input → format_at input ≡ Err Bad
format_bad input is =
    read_is input ∙ ap (λ b. read_by b (take 4 input) (drop 4 input)) (le-ltb (length input) 4 is.0) ∙ or_none (format_of (take 4 input)) (drop 4 input) is.1

reads_bad : (input : List ℕ) → IsForeign input → all_of snapshot_in_at input ≡ Err Bad
unfolding snapshot_in_at
reads_bad input is = rw (format_bad input is) refl

pub front_bad : (input : List ℕ) → IsForeign input → snapshot_in_at input ≡ Err Bad
unfolding snapshot_in_at
front_bad input is = rw (format_bad input is) refl

decodes_bad : (input : List ℕ) → IsForeign input → length input ≤ LIMIT → Decodes snapshot_kind_in input (Err Bad)
decodes_bad input is within = record {
  value = tt;
  found = λ s le text. absurd (no_text input s [] is (text.spelled ∙ sym (append-nil (text_of s))));
  long = λ lt. absurd (omega (arith, lt, within));
  long_only = λ e. absurd cc;
  extra = λ le has. absurd (no_text input has.value has.rest is has.spelled);
  extra_only = λ e. absurd cc;
  other = inr (inr (inr (inr refl)));
}

pub foreign_is_bad : (input : List ℕ) → IsForeign input → IsDecodedInput input (Err Bad)
foreign_is_bad input is = record {
  foreign = λ _. refl;
  own = λ no. absurd (no is);
  within = λ le. (Err Bad, decodes_bad input is le, (λ _. reads_bad input is), refl);
}

-- ---- fewer than four bytes

text_is_long : (s : Snapshot) → 4 ≤ length (text_of s)
text_is_long s =
    let begins = ap length (text_begins s []) ∙ magic_has_four s.0 in
    omega (arith, begins, length-take 4 (text_of s ++ []), ap length (append-nil (text_of s)))

none_short : (input : List ℕ) (s : Snapshot) (rest : List ℕ) → length input < 4 → input ≡ text_of s ++ rest → ⊥
none_short input s rest short same = let long = text_is_long s in absurd (omega (arith, short, long, ap length same, length-append (text_of s) rest))

format_cut : (input : List ℕ) → length input < 4 → format_at input ≡ Err Cut
format_cut input short = read_is input ∙ ap (λ b. read_by b (take 4 input) (drop 4 input)) (lt-ltb (length input) 4 short)

reads_cut : (input : List ℕ) → length input < 4 → all_of snapshot_in_at input ≡ Err Cut
unfolding snapshot_in_at
reads_cut input short = rw (format_cut input short) refl

pub front_cut : (input : List ℕ) → length input < 4 → snapshot_in_at input ≡ Err Cut
unfolding snapshot_in_at
front_cut input short = rw (format_cut input short) refl

decodes_cut : (input : List ℕ) → length input < 4 → Decodes snapshot_kind_in input (Err Cut)
decodes_cut input short = record {
  value = tt;
  found = λ s le text. absurd (none_short input s [] short (text.spelled ∙ sym (append-nil (text_of s))));
  long = λ lt. absurd (omega (arith, lt, short));
  long_only = λ e. absurd cc;
  extra = λ le has. absurd (none_short input has.value has.rest short has.spelled);
  extra_only = λ e. absurd cc;
  other = inr (inr (inr (inl refl)));
}

pub short_is_cut : (input : List ℕ) → length input < 4 → IsDecodedInput input (Err Cut)
short_is_cut input short =
    let decoded : DecodesSnapshot input (Err Cut) = (Err Cut, decodes_cut input short, (λ _. reads_cut input short), refl) in
    record { foreign = λ is. absurd (let four = is.0 in omega (arith, short, four)); own = λ _. decoded; within = λ _. decoded }

-- ---- what begins as a snapshot does

magic_is_cut : (f : Format) → decoding snapshot_in_at (magic_of f) ≡ Err Cut
unfolding snapshot_in_at format_at member_state_at member_at roster_at key_at short_at
magic_is_cut One = refl
magic_is_cut Two = refl

no_key_is_bad : (f : Format) → decoding snapshot_in_at (magic_of f ++ 0 ∷ []) ≡ Err Bad
unfolding snapshot_in_at format_at member_state_at member_at roster_at key_at short_at
no_key_is_bad One = refl
no_key_is_bad Two = refl

room_for_one : (f : Format) → length (magic_of f ++ 0 ∷ []) ≤ LIMIT
room_for_one One = omega arith
room_for_one Two = omega arith

-- they are refused by no fault that stays whatever follows
pub not_hopeless : (f : Format) (e : Fault) → IsHopeless snapshot_in_at (magic_of f) e → ⊥
not_hopeless f e h = let now = h.now in let ever = h.ever (0 ∷ []) (room_for_one f) in let cut = magic_is_cut f in let bad = no_key_is_bad f in absurd cc

-- The text of a change, read again.
use Rattle.std.proofs.Common.{◌≡◌, ℕ, ◌≤◌, ◌⊎◌, inl, inr, List, [], ◌∷◌, ◌++◌, length, Option, Some, None, Result, Ok, Err, refl, sym, ap, ◌∙◌, subst, arith, append-nil}
use Rattle.std.proofs.lemmas.List.{length-append}
use Rattle.rds_names.specs.declared.fault.Fault.{Fault}
use Rattle.rds_names.specs.declared.fault.Fault.TheVariants.{Memory}
use Rattle.rds_names.specs.Roster.{RosterValue, Begins}
use Rattle.rds_bytes.specs.Reading.{Fails, byte_at, member_at}
use Rattle.rds_bytes.specs.Spelling.{member_text}
use Rattle.rds_bytes.specs.Values.{IsMember}
use Rattle.rds_bytes.proofs.Format.{IsBytes, ok_is}
use Rattle.rds_bytes.proofs.PartFormats.{IsMemberPair, member_format}
use Rattle.rds_codec.specs.Decoding.{IsTextOf, ReadsAll, all_of}
use Rattle.rds_codec.specs.Kinds.{state_kind}
use Rattle.rds_codec.specs.StateTexts.{IsStateOf, state_at, state_text}
use Rattle.rds_codec.specs.declared.limits.TheConstants.{LIMIT}
use Rattle.rds_codec.specs.declared.formats.Format.TheVariants.{Two}
use Rattle.rds_codec.proofs.InFormats.{state_in_reader}
use Rattle.rds_codec.proofs.Whole.{fails_is, stand_apart, text_again}
use Rattle.rds_state.specs.Value.{StateValue}
use Rattle.rds_keep.specs.Changes.{ChangeValue, IsChangeFor, change_kind, change_text}
use Rattle.rds_keep.specs.ReadChanges.{IsNoText}

abbrev head_of : List ℕ → ℕ
head_of [] = 0
head_of (b ∷ bytes) = b

abbrev tail_of : List ℕ → List ℕ
tail_of [] = []
tail_of (b ∷ bytes) = bytes

abbrev with_delta : Option RosterValue → StateValue → ChangeValue
with_delta roster delta = record { roster = roster; delta = delta }

-- what reading a state refuses so is none's text, unless memory ran out
pub refused_state : (n : ℕ) (bytes : List ℕ) (e : Fault) → ReadsAll (state_at n) bytes (Err e) → length bytes ≤ LIMIT → (e ≡ Memory) ⊎ ((d : StateValue) → IsTextOf (state_kind n) bytes d → ⊥)
refused_state n bytes e reads within = elim (fails_is e (all_of (state_at n) bytes) (reads within)) [
  | inl memory ↦ inl memory
  | inr is ↦ inr (λ d has.
      (let short : length (state_text d) ≤ LIMIT = subst (λ (t : List ℕ). length t ≤ LIMIT) has.spelled within in
      let again : all_of (state_at n) bytes ≡ Ok d = ap (all_of (state_at n)) has.spelled ∙ text_again (state_kind n) (state_at n) (state_in_reader Two n) d has.is_value short in
      absurd (let both = sym is ∙ again in cc)))
]

pub byte_is : (bytes rest : List ℕ) (b : ℕ) → byte_at bytes ≡ Ok (b, rest) → bytes ≡ b ∷ rest
byte_is [] rest b e = absurd cc
byte_is (x ∷ xs) rest b e = ap (λ (p : ℕ × List ℕ). p.0 ∷ p.1) (ok_is (x, xs) (b, rest) e)

pub no_byte : (bytes : List ℕ) (e : Fault) → byte_at bytes ≡ Err e → bytes ≡ []
no_byte [] e is = refl
no_byte (x ∷ xs) e is = absurd cc

member_pair : (roster : RosterValue) (own : ℕ) → IsMember roster own → IsMemberPair (roster, own)
member_pair roster own is = (record { group = is.group; each_name = is.each_name; names = is.names }, is.own_number)

of_member_pair : (roster : RosterValue) (own : ℕ) → IsMemberPair (roster, own) → IsMember roster own
of_member_pair roster own is = record { group = is.0.group; each_name = is.0.each_name; names = is.0.names; own_number = is.1 }

pub begins_itself : (r : RosterValue) → Begins r r
begins_itself r = (refl, ([], sym (append-nil r.names)))

-- ---- a delta alone

module _ (old : RosterValue) (own : ℕ) where
  abbrev Has : List ℕ → ChangeValue → Type 0
  Has bytes c = IsTextOf (change_kind old own) bytes c

  pub delta_alone : (rest : List ℕ) (d : StateValue) → IsMember old own → IsTextOf (state_kind (length old.names)) rest d → Has (1 ∷ rest) (with_delta None d)
  delta_alone rest d member is = record {
    is_value = record { begins = begins_itself old; member = member; delta = is.is_value };
    spelled = ap (λ (t : List ℕ). 1 ∷ t) is.spelled;
  }

  alone_by : (rest : List ℕ) → ((d : StateValue) → IsTextOf (state_kind (length old.names)) rest d → ⊥) → (roster : Option RosterValue) (d : StateValue) → Has (1 ∷ rest) (with_delta roster d) → ⊥
  alone_by rest none None d has = none d (record { is_value = has.is_value.delta; spelled = ap tail_of has.spelled })
  alone_by rest none (Some r) d has = (let wrong : 1 ≡ 2 = ap head_of has.spelled in omega (arith, wrong))

  pub none_alone : (rest : List ℕ) → ((d : StateValue) → IsTextOf (state_kind (length old.names)) rest d → ⊥) → IsNoText (change_kind old own) (1 ∷ rest)
  none_alone rest none c has = alone_by rest none c.roster c.delta has

  -- ---- with a roster

  pub delta_grown : (bytes rest : List ℕ) (r : RosterValue) (number : ℕ) (d : StateValue) → IsBytes bytes → member_at bytes ≡ Ok ((r, number), rest) → number ≡ own → Begins old r → IsTextOf (state_kind (length r.names)) rest d
      → Has (2 ∷ bytes) (with_delta (Some r) d)
  delta_grown bytes rest r number d fits e same begins is =
      let read = member_format.takes bytes ((r, number), rest) fits e in
      let member : IsMember r own = subst (λ (n : ℕ). IsMember r n) same (of_member_pair r number read.1) in
      let parts : bytes ≡ member_text r own ++ state_text d = read.0.parts ∙ ap (λ (t : List ℕ). member_text r number ++ t) is.spelled ∙ ap (λ (n : ℕ). member_text r n ++ state_text d) same in
      record { is_value = record { begins = begins; member = member; delta = is.is_value }; spelled = ap (λ (t : List ℕ). 2 ∷ t) parts }

  pub member_there : (bytes : List ℕ) (r : RosterValue) (d : StateValue) → Has (2 ∷ bytes) (with_delta (Some r) d) → member_at bytes ≡ Ok ((r, own), state_text d)
  member_there bytes r d has =
      let parts : bytes ≡ member_text r own ++ state_text d = ap tail_of has.spelled in
      ap member_at parts ∙ member_format.again (r, own) (state_text d) (member_pair r own has.is_value.member)

  grown_by : (bytes : List ℕ) → ((r : RosterValue) (d : StateValue) → Has (2 ∷ bytes) (with_delta (Some r) d) → ⊥) → (roster : Option RosterValue) (d : StateValue) → Has (2 ∷ bytes) (with_delta roster d) → ⊥
  grown_by bytes none None d has = (let wrong : 2 ≡ 1 = ap head_of has.spelled in omega (arith, wrong))
  grown_by bytes none (Some r) d has = none r d has

  none_grown : (bytes : List ℕ) → ((r : RosterValue) (d : StateValue) → Has (2 ∷ bytes) (with_delta (Some r) d) → ⊥) → IsNoText (change_kind old own) (2 ∷ bytes)
  none_grown bytes none c has = grown_by bytes none c.roster c.delta has

  no_member : (bytes : List ℕ) (e : Fault) → member_at bytes ≡ Err e → IsNoText (change_kind old own) (2 ∷ bytes)
  no_member bytes e is = none_grown bytes (λ r d has. absurd (let both = sym is ∙ member_there bytes r d has in cc))

  pub member_refused : (bytes : List ℕ) (e : Fault) → Fails e (member_at bytes) → (e ≡ Memory) ⊎ IsNoText (change_kind old own) (2 ∷ bytes)
  member_refused bytes e fails = elim (fails_is e (member_at bytes) fails) [ inl memory ↦ inl memory | inr is ↦ inr (no_member bytes e is) ]

  abbrev found : RosterValue → ℕ → List ℕ → Result ((RosterValue × ℕ) × List ℕ) Fault
  found r number rest = Ok ((r, number), rest)

  same_member : (bytes rest : List ℕ) (r s : RosterValue) (number : ℕ) (d : StateValue) → member_at bytes ≡ Ok ((r, number), rest) → Has (2 ∷ bytes) (with_delta (Some s) d) → ((s ≡ r) × (own ≡ number)) × (rest ≡ state_text d)
  same_member bytes rest r s number d e has =
      let both : found s own (state_text d) ≡ found r number rest = sym (member_there bytes s d has) ∙ e in
      let is = ok_is ((s, own), state_text d) ((r, number), rest) both in
      ((ap (λ (p : (RosterValue × ℕ) × List ℕ). p.0.0) is, ap (λ (p : (RosterValue × ℕ) × List ℕ). p.0.1) is), sym (ap (λ (p : (RosterValue × ℕ) × List ℕ). p.1) is))

  pub other_member : (bytes rest : List ℕ) (r : RosterValue) (number : ℕ) → member_at bytes ≡ Ok ((r, number), rest) → (number ≡ own → Begins old r → ⊥) → IsNoText (change_kind old own) (2 ∷ bytes)
  other_member bytes rest r number e not = none_grown bytes (λ s d has.
      (let same = same_member bytes rest r s number d e has in
      not (sym same.0.1) (subst (λ (x : RosterValue). Begins old x) same.0.0 has.is_value.begins)))

  pub no_delta : (bytes rest : List ℕ) (r : RosterValue) (number : ℕ) → member_at bytes ≡ Ok ((r, number), rest) → ((d : StateValue) → IsTextOf (state_kind (length r.names)) rest d → ⊥) → IsNoText (change_kind old own) (2 ∷ bytes)
  no_delta bytes rest r number e none = none_grown bytes (λ s d has.
      (let same = same_member bytes rest r s number d e has in
      none d (record { is_value = subst (λ (x : RosterValue). IsStateOf (length x.names) d) same.0.0 has.is_value.delta; spelled = same.1 })))

  pub delta_refused : (bytes rest : List ℕ) (r : RosterValue) (number : ℕ) (e : Fault) → IsBytes bytes → member_at bytes ≡ Ok ((r, number), rest) → length bytes ≤ LIMIT → ReadsAll (state_at (length r.names)) rest (Err e)
      → (e ≡ Memory) ⊎ IsNoText (change_kind old own) (2 ∷ bytes)
  delta_refused bytes rest r number e fits is within reads =
      let parts = (member_format.takes bytes ((r, number), rest) fits is).0.parts in
      elim (refused_state (length r.names) rest e reads (omega (arith, within, ap length parts, length-append (member_text r number) rest))) [
        | inl memory ↦ inl memory
        | inr none ↦ inr (no_delta bytes rest r number is none)
      ]

  -- ---- another first byte

  other_by : (b : ℕ) (rest : List ℕ) → (b ≡ 1 → ⊥) → (b ≡ 2 → ⊥) → (roster : Option RosterValue) (d : StateValue) → Has (b ∷ rest) (with_delta roster d) → ⊥
  other_by b rest one two None d has = one (ap head_of has.spelled)
  other_by b rest one two (Some r) d has = two (ap head_of has.spelled)

  pub other_kind : (b : ℕ) (rest : List ℕ) → (b ≡ 1 → ⊥) → (b ≡ 2 → ⊥) → IsNoText (change_kind old own) (b ∷ rest)
  other_kind b rest one two c has = other_by b rest one two c.roster c.delta has

  nothing_by : (roster : Option RosterValue) (d : StateValue) → Has [] (with_delta roster d) → ⊥
  nothing_by None d has = (let wrong : 0 ≡ 1 = ap head_of has.spelled in omega (arith, wrong))
  nothing_by (Some r) d has = (let wrong : 0 ≡ 2 = ap head_of has.spelled in omega (arith, wrong))

  pub nothing_there : IsNoText (change_kind old own) []
  nothing_there c has = nothing_by c.roster c.delta has

  -- ---- one text is that of one change

  same_state : (n : ℕ) (d e : StateValue) (rest : List ℕ) → IsTextOf (state_kind n) rest d → IsTextOf (state_kind n) rest e → length rest ≤ LIMIT → d ≡ e
  same_state n d e rest p q within =
      let left : length (state_text d) ≤ LIMIT = subst (λ (t : List ℕ). length t ≤ LIMIT) p.spelled within in
      let right : length (state_text e) ≤ LIMIT = subst (λ (t : List ℕ). length t ≤ LIMIT) q.spelled within in
      let same : state_text d ++ [] ≡ state_text e ++ [] = ap (λ (t : List ℕ). t ++ []) (sym p.spelled ∙ q.spelled) in
      (stand_apart (state_kind n) _ (state_in_reader Two n) d e [] [] (record { is_value = p.is_value; within = left }) (record { is_value = q.is_value; within = right }) same).0

  alone_same : (d e : StateValue) → IsStateOf (length old.names) d → IsStateOf (length old.names) e → state_text d ≡ state_text e → length (state_text d) ≤ LIMIT → d ≡ e
  alone_same d e p q same within = same_state (length old.names) d e (state_text d) (record { is_value = p; spelled = refl }) (record { is_value = q; spelled = same }) within

  grown_same : (r s : RosterValue) (d e : StateValue) → IsChangeFor old own (with_delta (Some r) d) → IsChangeFor old own (with_delta (Some s) e)
      → member_text r own ++ state_text d ≡ member_text s own ++ state_text e → length (state_text d) ≤ LIMIT → with_delta (Some r) d ≡ with_delta (Some s) e
  grown_same r s d e p q same within =
      let one : member_at (member_text r own ++ state_text d) ≡ found r own (state_text d) = member_format.again (r, own) (state_text d) (member_pair r own p.member) in
      let two : member_at (member_text s own ++ state_text e) ≡ found s own (state_text e) = member_format.again (s, own) (state_text e) (member_pair s own q.member) in
      let is = ok_is ((r, own), state_text d) ((s, own), state_text e) (sym one ∙ ap member_at same ∙ two) in
      let rosters : r ≡ s = ap (λ (x : (RosterValue × ℕ) × List ℕ). x.0.0) is in
      let texts : state_text d ≡ state_text e = ap (λ (x : (RosterValue × ℕ) × List ℕ). x.1) is in
      let states : d ≡ e =
      same_state (length r.names) d e (state_text d) (record { is_value = p.delta; spelled = refl }) (record { is_value = subst (λ (x : RosterValue). IsStateOf (length x.names) e) (sym rosters) q.delta; spelled = texts }) within in
      λ i. with_delta (Some (rosters i)) (states i)

  changes_by : (a b : Option RosterValue) (d e : StateValue) → IsChangeFor old own (with_delta a d) → IsChangeFor old own (with_delta b e)
      → change_text own (with_delta a d) ≡ change_text own (with_delta b e) → length (change_text own (with_delta a d)) ≤ LIMIT → with_delta a d ≡ with_delta b e
  changes_by None None d e p q same within = ap (with_delta None) (alone_same d e p.delta q.delta (ap tail_of same) (omega (arith, within)))
  changes_by None (Some s) d e p q same within = (let wrong : 1 ≡ 2 = ap head_of same in absurd (omega (arith, wrong)))
  changes_by (Some r) None d e p q same within = (let wrong : 2 ≡ 1 = ap head_of same in absurd (omega (arith, wrong)))
  changes_by (Some r) (Some s) d e p q same within = grown_same r s d e p q (ap tail_of same) (omega (arith, within, length-append (member_text r own) (state_text d)))

  pub same_change : (c d : ChangeValue) → IsChangeFor old own c → IsChangeFor old own d → change_text own c ≡ change_text own d → length (change_text own c) ≤ LIMIT → c ≡ d
  same_change c d p q same within = changes_by c.roster d.roster c.delta d.delta p q same within

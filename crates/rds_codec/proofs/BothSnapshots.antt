-- Snapshots of both formats together are one format.
use Rattle.std.proofs.Common.{◌≡◌, ℕ, ◌≤◌, Bool, true, false, cond, List, ◌++◌, length, get_or, Option, Some, None, refl, sym, ap, subst, ◌∙◌, arith, length-append}
use Rattle.std.specs.Str.{bytes_eq}
use Rattle.std.proofs.lemmas.Slice.Eq.{bytes_eq-Decides}
use Rattle.rds_names.specs.Roster.{RosterValue}
use Rattle.rds_state.specs.Value.{StateValue}
use Rattle.rds_state.specs.Fits.{ReplicaValue}
use Rattle.rds_bytes.specs.Values.{IsMember}
use Rattle.rds_bytes.specs.Spelling.{member_text}
use Rattle.rds_bytes.specs.Reading.{then_at, bytes_at, member_at}
use Rattle.rds_bytes.proofs.Format.{IsFormat, known_format, drawn_format, made_format, then_format}
use Rattle.rds_bytes.proofs.PartFormats.{Member, IsMemberPair, member_format}
use Rattle.rds_codec.specs.declared.limits.TheConstants.{LIMIT}
use Rattle.rds_codec.specs.declared.formats.Format.{Format}
use Rattle.rds_codec.specs.declared.formats.Format.TheVariants.{One, Two}
use Rattle.rds_codec.specs.FormatTexts as texts
use Rattle.rds_codec.specs.FormatTexts.{format_of, Snapshot, snapshot_of, snapshot_kind_in}
use Rattle.rds_codec.specs.StateTexts.{IsSnapshot, magic_of, snapshot_text_in, state_at_in, state_text_in}
use Rattle.rds_codec.proofs.StateFormats.{CanCountIn, FitsIn, state_in_format, state_in_within}
use Rattle.rds_codec.proofs.Texts.{snapshot_length}
use Rattle.rds_codec.proofs.Whole.{IsReaderOf, reader_of}

-- ---- the first four bytes

format_there : (f : Format) → Unit {0} → (length (magic_of f) ≡ 4) × (format_of (magic_of f) ≡ Some f)
format_there One h = (refl, refl)
format_there Two h = (refl, refl)

abbrev some : Format → Option Format
some f = Some f

abbrev none : Option Format
none = None

which : (one two : Bool) (t : List ℕ) (f : Format) → bytes_eq (magic_of One) t ≡ one → bytes_eq (magic_of Two) t ≡ two → cond one (some One) (cond two (some Two) none) ≡ Some f → magic_of f ≡ t
which true two t f a b e = (let same : One ≡ f = cc in ap magic_of (sym same) ∙ (bytes_eq-Decides (magic_of One) t).0 a)
which false true t f a b e = (let same : Two ≡ f = cc in ap magic_of (sym same) ∙ (bytes_eq-Decides (magic_of Two) t).0 b)
which false false t f a b e = absurd (let no : ⊥ = cc in no)

format_back : (t : List ℕ) (f : Format) → length t ≡ 4 → format_of t ≡ Some f → Unit {0} × (magic_of f ≡ t)
format_back t f len e = (tt, which (bytes_eq (magic_of One) t) (bytes_eq (magic_of Two) t) t f refl refl e)

format_format : IsFormat texts.format_at magic_of (λ _. Unit {0})
unfolding texts.format_at
format_format = drawn_format format_of magic_of (bytes_at 4) (λ t. t) _ (λ _. Unit {0}) format_there format_back (known_format 4)

-- ---- the roster, the own number and the state

abbrev MemberState : Type 0
MemberState = Member × StateValue

abbrev member_state_text : Format → MemberState → List ℕ
member_state_text f r = member_text r.0.0 r.0.1 ++ state_text_in f r.1

abbrev IsMemberState : Format → MemberState → Type 0
IsMemberState f r = IsMemberPair r.0 × FitsIn f (length r.0.0.names) r.1

member_state_format : (f : Format) → IsFormat (texts.member_state_at f) (member_state_text f) (IsMemberState f)
unfolding texts.member_state_at
member_state_format f =
    then_format member_at (λ (m : Member). state_at_in f (length m.0.names)) (λ (m : Member). member_text m.0 m.1) (λ m. state_text_in f) IsMemberPair (λ m. FitsIn f (length m.0.names)) member_format
    (λ m is. state_in_format f (length m.0.names))

abbrev Parts : Type 0
Parts = Format × MemberState

abbrev parts_text : Parts → List ℕ
parts_text p = magic_of p.0 ++ member_state_text p.0 p.1

abbrev AreParts : Parts → Type 0
AreParts p = Unit {0} × IsMemberState p.0 p.1

parts_format : IsFormat (then_at texts.format_at texts.member_state_at) parts_text AreParts
parts_format =
    then_format texts.format_at texts.member_state_at magic_of member_state_text (λ _. Unit {0}) IsMemberState format_format (λ f _. member_state_format f)

-- ---- a snapshot

abbrev Fits : Snapshot → Type 0
Fits s = IsSnapshot s.1 × CanCountIn s.0 s.1.state

abbrev parts_of : Snapshot → Parts
parts_of s = (s.0, ((s.1.roster, s.1.own), s.1.state))

member_pair : (roster : RosterValue) (own : ℕ) → IsMember roster own → IsMemberPair (roster, own)
member_pair roster own is = (record { group = is.group; each_name = is.each_name; names = is.names }, is.own_number)

of_member_pair : (m : Member) → IsMemberPair m → IsMember m.0 m.1
of_member_pair m is = record { group = is.0.group; each_name = is.0.each_name; names = is.0.names; own_number = is.1 }

there : (s : Snapshot) → Fits s → AreParts (parts_of s) × (snapshot_of (parts_of s) ≡ s)
there s h = ((tt, (member_pair s.1.roster s.1.own h.0.member, (h.0.state, h.1))), refl)

back : (p : Parts) → AreParts p → Fits (snapshot_of p) × (parts_of (snapshot_of p) ≡ p)
back p h = ((record { member = of_member_pair p.1.0 h.1.0; state = h.1.1.0 }, h.1.1.1), refl)

abbrev text_of : Snapshot → List ℕ
text_of s = snapshot_text_in s.0 s.1

snapshot_format : IsFormat texts.snapshot_in_at text_of Fits
unfolding texts.snapshot_in_at snapshot_text_in
snapshot_format = made_format snapshot_of parts_of _ parts_text AreParts Fits there back parts_format

fits_within : (s : Snapshot) → IsSnapshot s.1 → length (text_of s) ≤ LIMIT → Fits s
fits_within s is le = let all = snapshot_length s.0 s.1 in (is, state_in_within s.0 s.1.state (omega (arith, all, le)))

pub snapshot_in_reader : IsReaderOf snapshot_kind_in texts.snapshot_in_at
snapshot_in_reader =
    reader_of snapshot_kind_in texts.snapshot_in_at Fits snapshot_format (λ s h. h.0) (λ s is le. fits_within s is le)

-- ---- the two formats

differ : (n : ℕ) → n ≡ 49 → n ≡ 50 → ⊥
differ n one two = omega (arith, one, two)

-- no snapshot of one format begins one of the other
pub formats_differ : (v w : ReplicaValue) (x y : List ℕ) → snapshot_text_in One v ++ x ≡ snapshot_text_in Two w ++ y → ⊥
unfolding snapshot_text_in
formats_differ v w x y e = differ 49 refl (ap (λ (t : List ℕ). get_or t 3 0) e)

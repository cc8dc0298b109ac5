-- A hello is a format.
use Rattle.std.proofs.Common.{◌≡◌, ◌==◌, ◌||◌, ℕ, Bool, ◌+◌, ◌<◌, true, false, List, ◌++◌, length, refl, arith}
use Rattle.std.proofs.lemmas.Bool.{eqb-true}
use Rattle.rds_codec.specs.declared.hellos.Hello.{Hello}
use Rattle.rds_codec.specs.HelloTexts.{HelloParts, IsHello, is_version, hello_by, hello_text, version_at, hello_at, hello_kind}
use Rattle.rds_bytes.specs.Spelling.{byte_text, member_text}
use Rattle.rds_bytes.proofs.Format.{IsFormat, byte_format, pair_format, made_format, when_format}
use Rattle.rds_bytes.proofs.PartFormats.{IsMemberPair, member_format}
use Rattle.rds_bytes.proofs.Sequences.{two_lengths, two_added}
use Rattle.rds_codec.proofs.Whole.{IsReaderOf, reader_of}

abbrev IsVersion : ℕ → Type 0
IsVersion b = (b < 256) × (is_version b ≡ true)

version_format : IsFormat version_at byte_text IsVersion
unfolding version_at
version_format = when_format is_version _ _ _ byte_format

abbrev parts_of : Hello → HelloParts
parts_of h = (h.version, (h.roster, h.own))

abbrev AreParts : HelloParts → Type 0
AreParts p = IsVersion p.0 × IsMemberPair p.1

-- a version is one or two
or_two : (one two : Bool) (b : ℕ) → b == 1 ≡ one → b == 2 ≡ two → one || two ≡ true → b < 256
or_two true two b e f h = let is : b ≡ 1 = eqb-true b 1 e in omega (arith, is)
or_two false true b e f h = let is : b ≡ 2 = eqb-true b 2 f in omega (arith, is)
or_two false false b e f h = absurd (let no : ⊥ = cc in no)

is_byte : (b : ℕ) → is_version b ≡ true → IsVersion b
is_byte b h = (or_two (b == 1) (b == 2) b refl refl h, h)

there : (h : Hello) → IsHello h → AreParts (parts_of h) × (hello_by (parts_of h) ≡ h)
there h is =
    let m = is.member in
    ((is_byte h.version is.version, (record { group = m.group; each_name = m.each_name; names = m.names }, m.own_number)), refl)

back : (p : HelloParts) → AreParts p → IsHello (hello_by p) × (parts_of (hello_by p) ≡ p)
back p h =
    let roster = h.1.0 in
    (record { version = h.0.1; member = record { group = roster.group; each_name = roster.each_name; names = roster.names; own_number = h.1.1 } }, refl)

hello_format : IsFormat hello_at hello_text IsHello
unfolding hello_at hello_text
hello_format = made_format hello_by parts_of _ (λ p. byte_text p.0 ++ member_text p.1.0 p.1.1) AreParts IsHello there back (pair_format _ _ _ _ _ _ version_format member_format)

pub hello_reader : IsReaderOf hello_kind hello_at
hello_reader = reader_of hello_kind hello_at IsHello hello_format (λ h is. is) (λ h is le. is)

-- ---- its text, part after part

pub hello_length : (h : Hello) → length (hello_text h) ≡ 1 + length (member_text h.roster h.own)
unfolding hello_text
hello_length h = two_lengths (byte_text h.version) (member_text h.roster h.own)

pub hello_parts : (h : Hello) (a b c : List ℕ) → b ≡ a ++ byte_text h.version → c ≡ b ++ member_text h.roster h.own → c ≡ a ++ hello_text h
unfolding hello_text
hello_parts h a b c p q = two_added a b c (byte_text h.version) (member_text h.roster h.own) p q

-- Texts of tags, and the digits in them.
use Rattle.std.proofs.Common.{append_assoc, codes, ◌≡◌, ◌∙◌, ℕ, zero, suc, ◌+◌, ◌/◌, ◌%◌, ◌<◌, ◌^◌, bytes_eq, false, List, [], ◌∷◌, ◌++◌, take, drop, length, Result, Ok, Err, MatchResult, map, refl, sym, ap, subst, arith}
use Rattle.std.specs.Int.{to_be_bytes, w64}
use Rattle.std.specs.List.{IsSplitAt}
use Rattle.std.specs.Str.{IsAscii}
use Rattle.std.proofs.Math.Seq.{drop-append_seam, take-append_seam}
use Rattle.std.proofs.lemmas.List.{length-append, take-append-drop}
use Rattle.std.proofs.lemmas.Bool.Decides.{not_from_Decides}
use Rattle.std.proofs.lemmas.Slice.Eq.{bytes_eq-Decides}
use Rattle.hex.proofs.HexLemmas.{IsAscii-encode_with, decode_sized-encode_lower, length-encode_with}
use Rattle.hex.specs.Hex.{IsBytes, decode_sized, encode_lower, lower_digits}
use Rattle.hex.specs.declared.error.FromHexError.{FromHexError}
use Rattle.rds_fields.specs.Tags.{IsFrame, mark_half, quoted}

-- two parts of the same lengths give one whole only where they are the same
pub same_parts : (a b c d : List ℕ) → length a ≡ length c → a ++ b ≡ c ++ d → (a ≡ c) × (b ≡ d)
same_parts a b c d long same = (
  sym (take-append_seam a b) ∙ ap (take (length a)) same ∙ ap (λ n. take n (c ++ d)) long ∙ take-append_seam c d,
  sym (drop-append_seam a b) ∙ ap (drop (length a)) same ∙ ap (λ n. drop n (c ++ d)) long ∙ drop-append_seam c d,
)

-- what is split as the text of a tag
pub record IsSplit (text start hash dash mark end : List ℕ) : Type 0 where
  pub one : List ℕ
  pub two : List ℕ
  pub three : List ℕ
  pub at_start : text ≡ start ++ one
  pub at_hash : one ≡ hash ++ two
  pub at_dash : two ≡ dash ++ three
  pub at_mark : three ≡ mark ++ end
  pub start_len : length start ≡ 1
  pub hash_len : length hash ≡ 64
  pub dash_len : length dash ≡ 1
  pub mark_len : length mark ≡ 32

-- where its frame is that of a tag, what stands between are digits
pub framed : (text start hash dash mark end : List ℕ) → IsSplit text start hash dash mark end → IsFrame start dash end → text ≡ quoted hash mark
framed text start hash dash mark end s frame =
    s.at_start ∙ ap (λ x. x ++ s.one) frame.opens
    ∙ ap (λ x. 34 ∷ x)
    (s.at_hash
    ∙ ap (λ x. hash ++ x)
    (s.at_dash ∙ ap (λ x. x ++ s.three) frame.parts
    ∙ ap (λ x. 45 ∷ x) (s.at_mark ∙ ap (λ x. mark ++ x) frame.closes)))

-- the text of a tag has that frame
pub frame_of : (text start hash dash mark end h m : List ℕ) → IsSplit text start hash dash mark end → length h ≡ 64 → length m ≡ 32
    → text ≡ quoted h m → IsFrame start dash end
frame_of text start hash dash mark end h m s of_hash of_mark is =
    let first = same_parts start s.one (34 ∷ []) (h ++ 45 ∷ (m ++ 34 ∷ [])) s.start_len (sym s.at_start ∙ is) in
    let second = same_parts hash s.two h (45 ∷ (m ++ 34 ∷ [])) (s.hash_len ∙ sym of_hash) (sym s.at_hash ∙ first.1) in
    let third = same_parts dash s.three (45 ∷ []) (m ++ 34 ∷ []) s.dash_len (sym s.at_dash ∙ second.1) in
    let last = same_parts mark end m (34 ∷ []) (s.mark_len ∙ sym of_mark) (sym s.at_mark ∙ third.1) in
    record { opens = first.0; parts = third.0; closes = last.1 }

-- what is written part by part is the text of a tag
pub joined : (hash high low h a b : List ℕ) → h ≡ hash → a ≡ high → b ≡ low
    → codes "\"" ++ (h ++ (codes "-" ++ (a ++ (b ++ codes "\"")))) ≡ quoted hash (high ++ low)
joined hash high low h a b of_hash of_high of_low =
    ap (λ x. codes "\"" ++ (x ++ (codes "-" ++ (a ++ (b ++ codes "\""))))) of_hash
    ∙ ap (λ x. codes "\"" ++ (hash ++ (codes "-" ++ (x ++ (b ++ codes "\""))))) of_high
    ∙ ap (λ x. codes "\"" ++ (hash ++ (codes "-" ++ (high ++ (x ++ codes "\""))))) of_low
    ∙ ap (λ x. codes "\"" ++ (hash ++ (codes "-" ++ x))) (sym (append_assoc high low (codes "\"")))

-- so long is the text of a tag
pub length_of : (text h m : List ℕ) → length h ≡ 64 → length m ≡ 32 → text ≡ quoted h m → length text ≡ 99
length_of text h m of_hash of_mark is =
    let outer = length-append h (45 ∷ (m ++ 34 ∷ [])) in
    let inner = length-append m (34 ∷ []) in
    omega (arith, ap length is, outer, inner)

-- the digits of the hash, and of the mark
pub same_digits : (hash mark h m : List ℕ) → length hash ≡ length h → quoted hash mark ≡ quoted h m → (hash ≡ h) × (mark ≡ m)
same_digits hash mark h m long same =
    let inner = same_parts (34 ∷ []) (hash ++ 45 ∷ (mark ++ 34 ∷ [])) (34 ∷ []) (h ++ 45 ∷ (m ++ 34 ∷ [])) refl same in
    let outer = same_parts hash (45 ∷ (mark ++ 34 ∷ [])) h (45 ∷ (m ++ 34 ∷ [])) long inner.1 in
    let rest = same_parts (45 ∷ []) (mark ++ 34 ∷ []) (45 ∷ []) (m ++ 34 ∷ []) refl outer.1 in
    let count = ap length rest.1 in
    let left = length-append mark (34 ∷ []) in
    let right = length-append m (34 ∷ []) in
    (outer.0, (same_parts mark (34 ∷ []) m (34 ∷ []) (omega (arith, count, left, right)) rest.1).0)

-- bytes are read from their digits
pub decoded : (digits bytes : List ℕ) (n : ℕ) (result : Result (Unit {0}) FromHexError) (read : List ℕ)
    → length bytes ≡ n → IsBytes bytes → digits ≡ encode_lower bytes
    → MatchResult (decode_sized digits n) (λ b. (result ≡ Ok tt) × (read ≡ b)) (λ e. result ≡ Err e)
    → (result ≡ Ok tt) × (read ≡ bytes)
decoded digits bytes n result read long are is value =
    subst (λ d. MatchResult d (λ b. (result ≡ Ok tt) × (read ≡ b)) (λ e. result ≡ Err e))
    (ap (λ s. decode_sized s n) is ∙ decode_sized-encode_lower bytes n long are) value

pub length-hash : (hash : List ℕ) → length hash ≡ 32 → length (encode_lower hash) ≡ 64
length-hash hash long = let twice = length-encode_with lower_digits hash in omega (arith, twice, long)

pub length-half : (half : ℕ) → length (mark_half half) ≡ 16
length-half half = let twice = length-encode_with lower_digits (to_be_bytes w64 half) in omega (arith, twice)

-- texts that are the same aren't told apart
pub told_apart : (a b : List ℕ) → bytes_eq a b ≡ false → a ≡ b → ⊥
told_apart a b = not_from_Decides (bytes_eq a b) (bytes_eq-Decides a b)

-- ---- the bytes of half of a mark

are_small : (ns : List ℕ) → IsBytes (map (λ n. n % 256) ns)
are_small [] i = omega arith
are_small (n ∷ ns) zero = omega arith
are_small (n ∷ ns) (suc i) = are_small ns i

pub are_bytes : (half : ℕ) → IsBytes (to_be_bytes w64 half)
are_bytes half =
    are_small (half / 72057594037927936 ∷ half / 281474976710656 ∷ half / 1099511627776 ∷ half / 4294967296 ∷ half / 16777216
    ∷ half / 65536 ∷ half / 256 ∷ half ∷ [])

pub length-mark : (high low : ℕ) → length (mark_half high ++ mark_half low) ≡ 32
length-mark high low =
    let both = length-append (mark_half high) (mark_half low) in
    omega (arith, both, length-half high, length-half low)

-- ---- digits as texts

are_low : (ns : List ℕ) → IsAscii (map (λ n. n % 128) ns)
are_low [] i = omega arith
are_low (n ∷ ns) zero = omega arith
are_low (n ∷ ns) (suc i) = are_low ns i

low_digits : IsAscii lower_digits
low_digits = are_low lower_digits

pub are_ascii : (digits bytes : List ℕ) → digits ≡ encode_lower bytes → IsAscii digits
are_ascii digits bytes is = subst IsAscii (sym is) (IsAscii-encode_with lower_digits bytes low_digits)

-- what is split is both parts
pub whole : (xs : List ℕ) (mid : ℕ) (front back : List ℕ) → IsSplitAt xs mid front back → xs ≡ front ++ back
whole xs mid front back s =
    sym (ap (λ f. f ++ back) s.1 ∙ ap (λ b. take mid xs ++ b) s.2 ∙ take-append-drop mid xs)

-- the halves of a mark stand in its digits
pub halves : (digits high low : List ℕ) (of_high of_low : ℕ) → IsSplitAt digits 16 high low
    → digits ≡ mark_half of_high ++ mark_half of_low → (high ≡ mark_half of_high) × (low ≡ mark_half of_low)
halves digits high low of_high of_low s is =
    same_parts high low (mark_half of_high) (mark_half of_low) (s.3 ∙ sym (length-half of_high)) (sym (whole digits 16 high low s) ∙ is)

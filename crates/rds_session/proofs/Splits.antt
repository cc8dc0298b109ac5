-- Each stream of bytes has a reading as messages and a rest.
use Rattle.std.proofs.Common.{◌≡◌, ℕ, ◌+◌, ◌-◌, ◌*◌, ◌/◌, ◌%◌, ◌<◌, Bool, true, false, cond, eqb, List, [], ◌∷◌, ◌++◌, length, refl, sym, ap, ◌∙◌, arith, append_assoc, length-append, subst, map}
use Rattle.std.specs.Int.{w16, to_be_bytes}
use Rattle.std.specs.List.{flat_map, AllByRecursion}
use Rattle.std.proofs.lemmas.Bool.Decides.{nat_tests}
use Rattle.std.proofs.lemmas.List.{append-nil}
use Rattle.std.proofs.lemmas.List.Concat.{flat_map-cons}
use Rattle.rds_session.specs.declared.chunks.Place.{Place}
use Rattle.rds_session.specs.declared.chunks.Place.TheVariants.{First, Second, Within}
use Rattle.rds_session.specs.Chunks.{place_left, chunk_text, message_text}
use Rattle.rds_session.specs.Stream.{IsByte, IsChunk, AreChunks, AreSplit, contents_of, IsChunkFront, Splits}
use Rattle.rds_session.proofs.Messages.{high_low}
use Rattle.rds_session.proofs.Splitting.{split_from, messages_of}

-- what stands before the next byte in its chunk, after whole chunks
abbrev IsFront : Place → (held front : List ℕ) (cs : List (List ℕ)) → Type 0
IsFront First held front cs = (front ≡ []) × (held ≡ contents_of cs)
IsFront (Second high) held front cs = (front ≡ high ∷ []) × (held ≡ contents_of cs) × (high < 256)
IsFront (Within left) held front cs =
    (c : List ℕ) × (n : ℕ) × (front ≡ to_be_bytes w16 n ++ c) × (held ≡ contents_of cs ++ c) × (n < 65536) × (0 < left) × (length c + left ≡ n)

-- bytes that are less than a message, and hold so much of it
record IsUnderWay (place : Place) (held raw : List ℕ) : Type 0 where
  chunks : List (List ℕ)
  front : List ℕ
  split : raw ≡ flat_map chunk_text chunks ++ front
  are_chunks : AreChunks chunks
  is_front : IsFront place held front chunks

-- ---- one chunk more

flat-snoc : (cs : List (List ℕ)) (c : List ℕ) → flat_map chunk_text (cs ++ c ∷ []) ≡ flat_map chunk_text cs ++ chunk_text c
flat-snoc [] c = flat_map-cons chunk_text c [] ∙ append-nil (chunk_text c)
flat-snoc (d ∷ cs) c =
    flat_map-cons chunk_text d (cs ++ c ∷ []) ∙ ap (λ (t : List ℕ). chunk_text d ++ t) (flat-snoc cs c) ∙ sym (append_assoc (chunk_text d) (flat_map chunk_text cs) (chunk_text c))
    ∙ ap (λ (t : List ℕ). t ++ chunk_text c) (sym (flat_map-cons chunk_text d cs))

contents_of-snoc : (cs : List (List ℕ)) (c : List ℕ) → contents_of (cs ++ c ∷ []) ≡ contents_of cs ++ c
contents_of-snoc [] c = append-nil c
contents_of-snoc (d ∷ cs) c = ap (λ (t : List ℕ). d ++ t) (contents_of-snoc cs c) ∙ sym (append_assoc d (contents_of cs) c)

chunks-snoc : (cs : List (List ℕ)) (c : List ℕ) → AreChunks cs → IsChunk c → AreChunks (cs ++ c ∷ [])
chunks-snoc [] c h one = (one, tt)
chunks-snoc (d ∷ cs) c h one = (h.0, chunks-snoc cs c h.1 one)

-- ---- one byte more

first_byte : (b : ℕ) (held raw : List ℕ) → b < 256 → IsUnderWay First held raw → IsUnderWay (Second b) held (raw ++ b ∷ [])
first_byte b held raw byte u = record {
  chunks = u.chunks;
  front = b ∷ [];
  split = ap (λ (t : List ℕ). t ++ b ∷ []) (u.split ∙ ap (λ (t : List ℕ). flat_map chunk_text u.chunks ++ t) u.is_front.0 ∙ append-nil (flat_map chunk_text u.chunks));
  are_chunks = u.are_chunks;
  is_front = (refl, u.is_front.1, byte);
}

two_bytes : (high low : ℕ) → high < 256 → low < 256 → to_be_bytes w16 (high * 256 + low) ≡ high ∷ low ∷ []
two_bytes high low h l =
    let first : (high * 256 + low) / 256 % 256 ≡ high = omega arith in
    let second : (high * 256 + low) % 256 ≡ low = omega arith in
    rw (first, second) refl

second_byte : (high b : ℕ) (held raw : List ℕ) → b < 256 → 0 < high * 256 + b → IsUnderWay (Second high) held raw → IsUnderWay (Within (high * 256 + b)) held (raw ++ b ∷ [])
second_byte high b held raw byte some u =
    let n = high * 256 + b in
    record {
      chunks = u.chunks;
      front = high ∷ b ∷ [];
      split = ap (λ (t : List ℕ). t ++ b ∷ []) (u.split ∙ ap (λ (t : List ℕ). flat_map chunk_text u.chunks ++ t) u.is_front.0) ∙ append_assoc (flat_map chunk_text u.chunks) (high ∷ []) (b ∷ []);
      are_chunks = u.are_chunks;
      is_front = (
        [],
        n,
        sym (append-nil (to_be_bytes w16 n) ∙ two_bytes high b u.is_front.2 byte),
        u.is_front.1 ∙ sym (append-nil (contents_of u.chunks)),
        omega (arith, u.is_front.2),
        some,
        omega arith,
      );
    }

place_is : (left : ℕ) (e : Bool) → eqb left 0 ≡ e → (e ≡ true → left ≡ 0) × (e ≡ false → 0 < left)
place_is left true h = (λ _. grind (arith, nat_tests), λ x. absurd cc)
place_is left false h = (λ x. absurd cc, λ _. grind (arith, nat_tests))

module _ (left b : ℕ) (held raw : List ℕ) (u : IsUnderWay (Within left) held raw) where
  abbrev c : List ℕ
  c = u.is_front.0

  abbrev n : ℕ
  n = u.is_front.1

  whole : raw ++ b ∷ [] ≡ flat_map chunk_text u.chunks ++ (to_be_bytes w16 n ++ (c ++ b ∷ []))
  whole =
      ap (λ (t : List ℕ). t ++ b ∷ []) (u.split ∙ ap (λ (t : List ℕ). flat_map chunk_text u.chunks ++ t) u.is_front.2)
      ∙ append_assoc (flat_map chunk_text u.chunks) (to_be_bytes w16 n ++ c) (b ∷ []) ∙ ap (λ (t : List ℕ). flat_map chunk_text u.chunks ++ t) (append_assoc (to_be_bytes w16 n) c (b ∷ []))

  held_now : held ++ b ∷ [] ≡ contents_of u.chunks ++ (c ++ b ∷ [])
  held_now = ap (λ (t : List ℕ). t ++ b ∷ []) u.is_front.3 ∙ append_assoc (contents_of u.chunks) c (b ∷ [])

  len_now : length (c ++ b ∷ []) ≡ length c + 1
  len_now = length-append c (b ∷ [])

  last_byte : left - 1 ≡ 0 → IsUnderWay First (held ++ b ∷ []) (raw ++ b ∷ [])
  last_byte none =
      let len : n ≡ length (c ++ b ∷ []) = omega (arith, len_now, u.is_front.5, u.is_front.6, none) in
      let text : to_be_bytes w16 n ++ (c ++ b ∷ []) ≡ chunk_text (c ++ b ∷ []) = ap (λ (k : ℕ). to_be_bytes w16 k ++ (c ++ b ∷ [])) len in
      record {
        chunks = u.chunks ++ (c ++ b ∷ []) ∷ [];
        front = [];
        split = whole ∙ ap (λ (t : List ℕ). flat_map chunk_text u.chunks ++ t) text ∙ sym (flat-snoc u.chunks (c ++ b ∷ [])) ∙ sym (append-nil (flat_map chunk_text (u.chunks ++ (c ++ b ∷ []) ∷ [])));
        are_chunks = chunks-snoc u.chunks (c ++ b ∷ []) u.are_chunks (omega (arith, len_now), omega (arith, sym len, u.is_front.4));
        is_front = (refl, held_now ∙ sym (contents_of-snoc u.chunks (c ++ b ∷ [])));
      }

  inner_byte : 0 < left - 1 → IsUnderWay (Within (left - 1)) (held ++ b ∷ []) (raw ++ b ∷ [])
  inner_byte some = record {
    chunks = u.chunks;
    front = to_be_bytes w16 n ++ (c ++ b ∷ []);
    split = whole;
    are_chunks = u.are_chunks;
    is_front = (c ++ b ∷ [], n, refl, held_now, u.is_front.4, some, omega (arith, len_now, u.is_front.6, some));
  }

  next_byte : (e : Bool) → eqb (left - 1) 0 ≡ e → IsUnderWay (cond e First (Within (left - 1))) (held ++ b ∷ []) (raw ++ b ∷ [])
  next_byte true is = last_byte ((place_is (left - 1) true is).0 refl)
  next_byte false is = inner_byte ((place_is (left - 1) false is).1 refl)

-- ---- the rest, and the end of a message

part_front : (place : Place) (held front : List ℕ) (cs : List (List ℕ)) → IsFront place held front cs → IsChunkFront front
part_front First held front cs h = subst IsChunkFront (sym h.0) tt
part_front (Second high) held front cs h = subst IsChunkFront (sym h.0) tt
part_front (Within left) held front cs h =
    let n = h.1 in
    let is : (n / 256 % 256) * 256 + n % 256 ≡ n = high_low n h.4 in
    let front-is : IsChunkFront (to_be_bytes w16 n ++ h.0) = omega (arith, is, h.5, h.6) in
    subst IsChunkFront (sym h.2) front-is

nothing_yet : IsUnderWay First [] []
nothing_yet = record { chunks = []; front = []; split = refl; are_chunks = tt; is_front = (refl, refl) }

abbrev Split : List ℕ → List (List ℕ) × List ℕ → Type 0
Split x p = Splits x p.0 p.1

rest_only : (place : Place) (held raw : List ℕ) → IsUnderWay place held raw → Splits (raw ++ []) [] raw
rest_only place held raw u = record {
  cuts = [];
  split = append-nil raw;
  are_cuts = tt;
  joined_are = refl;
  part = record { chunks = u.chunks; front = u.front; split = u.split; are_chunks = u.are_chunks; is_front = part_front place held u.front u.chunks u.is_front };
}

message_first : (high b : ℕ) (bs held raw : List ℕ) (ms : List (List ℕ)) (rest : List ℕ) → high * 256 + b ≡ 0 → IsUnderWay (Second high) held raw → Splits bs ms rest → Splits (raw ++ b ∷ bs) (held ∷ ms) rest
message_first high b bs held raw ms rest none u later =
    let high-is : high ≡ 0 = omega (arith, none) in
    let b-is : b ≡ 0 = omega (arith, none) in
    let flat = flat_map chunk_text u.chunks in
    let front : raw ≡ flat ++ high ∷ [] = u.split ∙ ap (λ (t : List ℕ). flat ++ t) u.is_front.0 in
    let zeros : raw ++ b ∷ bs ≡ message_text u.chunks ++ bs =
    ap (λ (t : List ℕ). t ++ b ∷ bs) front ∙ append_assoc flat (high ∷ []) (b ∷ bs) ∙ ap (λ (k : ℕ). flat ++ (k ∷ b ∷ bs)) high-is ∙ ap (λ (k : ℕ). flat ++ (0 ∷ k ∷ bs)) b-is
    ∙ sym (append_assoc flat (0 ∷ 0 ∷ []) bs) in
    record {
      cuts = u.chunks ∷ later.cuts;
      split = zeros ∙ ap (λ (t : List ℕ). message_text u.chunks ++ t) later.split ∙ sym (append_assoc (message_text u.chunks) (flat_map message_text later.cuts) rest)
          ∙ ap (λ (t : List ℕ). t ++ rest) (sym (flat_map-cons message_text u.chunks later.cuts));
      are_cuts = (u.are_chunks, later.are_cuts);
      joined_are = ap (λ (m : List ℕ). m ∷ map contents_of later.cuts) (sym u.is_front.1) ∙ ap (λ (t : List (List ℕ)). held ∷ t) later.joined_are;
      part = later.part;
    }

-- ---- byte by byte

onward : (raw bs : List ℕ) (b : ℕ) (p : List (List ℕ) × List ℕ) → Split ((raw ++ b ∷ []) ++ bs) p → Split (raw ++ b ∷ bs) p
onward raw bs b p h = subst (λ (x : List ℕ). Split x p) (append_assoc raw (b ∷ []) bs) h

ends_or_not : (high b : ℕ) (bs held raw : List ℕ) (e : Bool) → eqb (high * 256 + b) 0 ≡ e → b < 256 → IsUnderWay (Second high) held raw
    → Split bs (split_from bs First [] []) → (IsUnderWay (Within (high * 256 + b)) held (raw ++ b ∷ []) → Split ((raw ++ b ∷ []) ++ bs) (split_from bs (Within (high * 256 + b)) held (raw ++ b ∷ [])))
    → Split (raw ++ b ∷ bs) (cond e (held ∷ (split_from bs First [] []).0, (split_from bs First [] []).1) (split_from bs (Within (high * 256 + b)) held (raw ++ b ∷ [])))
ends_or_not high b bs held raw true is byte u later inner =
    message_first high b bs held raw (split_from bs First [] []).0 (split_from bs First [] []).1 ((place_is (high * 256 + b) true is).0 refl) u later
ends_or_not high b bs held raw false is byte u later inner =
    onward raw bs b (split_from bs (Within (high * 256 + b)) held (raw ++ b ∷ [])) (inner (second_byte high b held raw byte ((place_is (high * 256 + b) false is).1 refl) u))

split_on : (bs : List ℕ) → AllByRecursion IsByte bs → (place : Place) (held raw : List ℕ) → IsUnderWay place held raw → Split (raw ++ bs) (split_from bs place held raw)
unfolding split_from
split_on [] h place held raw u = rest_only place held raw u
split_on (b ∷ bs) h First held raw u = onward raw bs b (split_from bs (Second b) held (raw ++ b ∷ [])) (split_on bs h.1 (Second b) held (raw ++ b ∷ []) (first_byte b held raw h.0 u))
split_on (b ∷ bs) h (Second high) held raw u =
    ends_or_not high b bs held raw (eqb (high * 256 + b) 0) refl h.0 u (split_on bs h.1 First [] [] nothing_yet) (λ w. split_on bs h.1 (Within (high * 256 + b)) held (raw ++ b ∷ []) w)
split_on (b ∷ bs) h (Within left) held raw u =
    onward raw bs b (split_from bs (place_left (left - 1)) (held ++ b ∷ []) (raw ++ b ∷ []))
    (split_on bs h.1 (place_left (left - 1)) (held ++ b ∷ []) (raw ++ b ∷ []) (next_byte left b held raw u (eqb (left - 1) 0) refl))

pub all_split : AreSplit
all_split x h = ((messages_of x).0, (messages_of x).1, split_on x h First [] [] nothing_yet)

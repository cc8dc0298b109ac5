-- A line that is taken piece by piece.
use Rattle.std.proofs.Common.{◌≡◌, ℕ, ◌+◌, ◌-◌, ◌<◌, ◌≤◌, Bool, true, false, cond, eqb, nat_le, List, [], ◌∷◌, ◌++◌, length, take, drop, Option, Some, None, Result, Ok, refl, sym, ap, ◌∙◌, subst, arith, append_assoc, length-append}
use Rattle.std.proofs.lemmas.List.{append-nil, drop_at, drop-take, drop-drop, length-take-le, length-drop}
use Rattle.std.proofs.lemmas.Bool.{le-leb}
use Rattle.std.specs.Str.{IsUtf8, is_utf8}
use Rattle.std.proofs.lemmas.Str.{is_utf8-from_IsUtf8, IsUtf8-from_is_utf8}
use Rattle.std.specs.Io.KnownBytes.{Keeps, IsAtEnd, prepend_known}
use Rattle.std.specs.Global.{Global, Vec}
use Rattle.std.specs.Prelude.{String}
use Rattle.rds_names.specs.declared.fault.Fault.{Fault}
use Rattle.rds_lines.specs.Lines.{IsOneLine, until_newline, after_line, is_text_line, ReadsText}
use Rattle.rds_lines.specs.declared.ahead.TheConstants.{LINE_LIMIT}
use Rattle.rds_lines.specs.Ahead.{IsLineHeld, LosesPiece, TakesLine}

-- what stands before the rest
before_rest : (xs : List ℕ) → (front : List ℕ) × (xs ≡ front ++ after_line xs)
before_rest [] = ([], refl)
before_rest (b ∷ xs) = at_byte (eqb b 10) (before_rest xs)
  where
    at_byte : (t : Bool) → (front : List ℕ) × (xs ≡ front ++ after_line xs) → (front : List ℕ) × (b ∷ xs ≡ front ++ cond t xs (after_line xs))
    at_byte true h = (b ∷ [], refl)
    at_byte false h = (b ∷ h.0, ap (λ (l : List ℕ). b ∷ l) h.1)

pub rest_within : (xs : List ℕ) → length (after_line xs) ≤ length xs
rest_within xs =
    let h = before_rest xs in
    omega (arith, ap length h.1, length-append h.0 (after_line xs))

rest_dropped : (xs : List ℕ) (n : ℕ) → n + length (after_line xs) ≡ length xs → drop n xs ≡ after_line xs
rest_dropped xs n e =
    let h = before_rest xs in
    let len : length h.0 ≡ n = omega (arith, ap length h.1, length-append h.0 (after_line xs), e) in
    ap (drop n) h.1 ∙ drop_at h.0 (after_line xs) n len

slice_length : (chunk : List ℕ) (at end : ℕ) → at ≤ end → end ≤ length chunk → length (take (end - at) (drop at chunk)) ≡ end - at
slice_length chunk at end p q = length-take-le (end - at) (drop at chunk) (omega (arith, length-drop at chunk, p, q))

-- what follows the first line of a slice ends where the slice ends
pub rest_within_slice : (chunk rest : List ℕ) (at end : ℕ) → at ≤ end → end ≤ length chunk → rest ≡ after_line (take (end - at) (drop at chunk)) → length rest ≤ end
rest_within_slice chunk rest at end p q e =
    omega (arith, ap length e, rest_within (take (end - at) (drop at chunk)), slice_length chunk at end p q)

pub rest_stands : (chunk rest : List ℕ) (at end : ℕ) → at ≤ end → end ≤ length chunk → rest ≡ after_line (take (end - at) (drop at chunk))
    → take (end - (end - length rest)) (drop (end - length rest) chunk) ≡ rest
rest_stands chunk rest at end p q e =
    let xs = take (end - at) (drop at chunk) in
    let m = length rest in
    let n = end - at - m in
    let fits : m ≤ end - at = omega (arith, ap length e, rest_within xs, slice_length chunk at end p q) in
    let whole : n + m ≡ end - at = omega (arith, fits) in
    let dropped : drop n xs ≡ after_line xs = rest_dropped xs n (omega (arith, ap length e, slice_length chunk at end p q, whole)) in
    let moved : drop n (take (n + m) (drop at chunk)) ≡ take m (drop n (drop at chunk)) = drop-take n m (drop at chunk) in
    let place : at + n ≡ end - m = omega (arith, fits, p) in
    let size : m ≡ end - (end - m) = omega (arith, fits, p) in
    ap (λ (k : ℕ). take k (drop (end - m) chunk)) (sym size)
    ∙ ap (λ (k : ℕ). take m (drop k chunk)) (sym place)
    ∙ ap (take m) (sym (drop-drop n at chunk))
    ∙ sym moved
    ∙ ap (λ (k : ℕ). drop n (take k (drop at chunk))) whole
    ∙ dropped
    ∙ sym e

not_utf8 : (bytes : List ℕ) → (IsUtf8 bytes → ⊥) → is_utf8 bytes ≡ false
not_utf8 bytes none = go (is_utf8 bytes) refl
  where
    go : (t : Bool) → is_utf8 bytes ≡ t → is_utf8 bytes ≡ false
    go true e = absurd (none (IsUtf8-from_is_utf8 bytes e))
    go false e = e

within_line : (n m : ℕ) → n ≤ m → nat_le n m ≡ true
within_line n m h = le-leb n m h

-- bytes that were held are a line's text where they are UTF-8
pub text_is_line : (taken items : List ℕ) → (items ≡ taken) × (length taken ≤ LINE_LIMIT) → IsUtf8 items → is_text_line taken ≡ true
text_is_line taken items h utf8 = rw (within_line (length taken) LINE_LIMIT h.1, ap is_utf8 (sym h.0) ∙ is_utf8-from_IsUtf8 items utf8) refl

pub other_is_none : (taken items : List ℕ) → (items ≡ taken) × (length taken ≤ LINE_LIMIT) → (IsUtf8 items → ⊥) → is_text_line taken ≡ false
other_is_none taken items h none = rw (within_line (length taken) LINE_LIMIT h.1, ap is_utf8 (sym h.0) ∙ not_utf8 items none) refl

-- a piece with a newline in it ends the line
piece_ended : (bytes rest : List ℕ) → length (until_newline bytes) < length bytes → (until_newline (bytes ++ rest) ≡ until_newline bytes) × (after_line (bytes ++ rest) ≡ after_line bytes ++ rest)
piece_ended [] rest h = absurd (omega (arith, h))
piece_ended (b ∷ bytes) rest h = at_byte (eqb b 10) (piece_ended bytes rest) h
  where
    at_byte : (t : Bool) → (length (until_newline bytes) < length bytes → (until_newline (bytes ++ rest) ≡ until_newline bytes) × (after_line (bytes ++ rest) ≡ after_line bytes ++ rest))
        → length (cond t [] (b ∷ until_newline bytes)) < length (b ∷ bytes)
        → (cond t [] (b ∷ until_newline (bytes ++ rest)) ≡ cond t [] (b ∷ until_newline bytes)) × (cond t (bytes ++ rest) (after_line (bytes ++ rest)) ≡ cond t bytes (after_line bytes) ++ rest)
    at_byte true k h = (refl, refl)
    at_byte false k h =
        let p = k (omega (arith, h)) in
        (ap (λ (l : List ℕ). b ∷ l) p.0, p.1)

-- a line has no newline
pub line_is_one : (bytes : List ℕ) → IsOneLine (until_newline bytes)
line_is_one [] = refl
line_is_one (b ∷ bytes) = at_byte (eqb b 10) refl (line_is_one bytes)
  where
    at_byte : (t : Bool) → eqb b 10 ≡ t → IsOneLine (until_newline bytes) → until_newline (cond t [] (b ∷ until_newline bytes)) ≡ cond t [] (b ∷ until_newline bytes)
    at_byte true e h = refl
    at_byte false e h = ap (λ (t : Bool). cond t [] (b ∷ until_newline (until_newline bytes))) e ∙ ap (λ (l : List ℕ). b ∷ l) h

-- one with no newline is all of the line so far
piece_open : (bytes rest : List ℕ) → length bytes ≤ length (until_newline bytes) → (until_newline (bytes ++ rest) ≡ until_newline bytes ++ until_newline rest) × (after_line (bytes ++ rest) ≡ after_line rest) × (after_line bytes ≡ [])
piece_open [] rest h = (refl, refl, refl)
piece_open (b ∷ bytes) rest h = at_byte (eqb b 10) (piece_open bytes rest) h
  where
    at_byte : (t : Bool) → (length bytes ≤ length (until_newline bytes) → (until_newline (bytes ++ rest) ≡ until_newline bytes ++ until_newline rest) × (after_line (bytes ++ rest) ≡ after_line rest) × (after_line bytes ≡ []))
        → length (b ∷ bytes) ≤ length (cond t [] (b ∷ until_newline bytes))
        → (cond t [] (b ∷ until_newline (bytes ++ rest)) ≡ cond t [] (b ∷ until_newline bytes) ++ until_newline rest) × (cond t (bytes ++ rest) (after_line (bytes ++ rest)) ≡ after_line rest) × (cond t bytes (after_line bytes) ≡ [])
    at_byte true k h = absurd (omega (arith, h))
    at_byte false k h =
        let p = k (omega (arith, h)) in
        (ap (λ (l : List ℕ). b ∷ l) p.0, p.1, p.2)

open_whole : (bytes : List ℕ) → length bytes ≤ length (until_newline bytes) → until_newline bytes ≡ bytes
open_whole [] h = refl
open_whole (b ∷ bytes) h = at_byte (eqb b 10) (open_whole bytes) h
  where
    at_byte : (t : Bool) → (length bytes ≤ length (until_newline bytes) → until_newline bytes ≡ bytes) → length (b ∷ bytes) ≤ length (cond t [] (b ∷ until_newline bytes)) → cond t [] (b ∷ until_newline bytes) ≡ b ∷ bytes
    at_byte true k h = absurd (omega (arith, h))
    at_byte false k h = ap (λ (l : List ℕ). b ∷ l) (k (omega (arith, h)))

pub one_line_on : (taken bytes : List ℕ) → IsOneLine taken → IsOneLine (taken ++ until_newline bytes)
one_line_on taken bytes one =
    (piece_open taken (until_newline bytes) (omega (arith, ap length one))).0 ∙ ap (λ (l : List ℕ). l ++ until_newline (until_newline bytes)) one ∙ ap (λ (l : List ℕ). taken ++ l) (line_is_one bytes)

pub rest_shorter : (xs : List ℕ) → 0 < length xs → length (after_line xs) < length xs
rest_shorter [] h = absurd (omega (arith, h))
rest_shorter (b ∷ xs) h = at_byte (eqb b 10)
  where
    at_byte : (t : Bool) → length (cond t xs (after_line xs)) < length (b ∷ xs)
    at_byte true = omega arith
    at_byte false = omega (arith, rest_within xs)

-- the bytes that were taken so far, which have no newline, and the line that they are
pub record Walked (first now : List ℕ) (line : Result (Vec ℕ) Fault) (begun : Bool) : Type 0 where
  pub taken : List ℕ
  pub held : IsLineHeld taken line
  pub front : first ≡ taken ++ now
  pub one : IsOneLine taken
  pub fresh : begun ≡ false → first ≡ now
  pub some : begun ≡ true → 0 < length first

-- a line goes on in what is left
walked_on : (first now taken : List ℕ) → first ≡ taken ++ now → IsOneLine taken → (until_newline first ≡ taken ++ until_newline now) × (after_line first ≡ after_line now)
walked_on first now taken front one =
    let p = piece_open taken now (omega (arith, ap length one)) in
    (ap until_newline front ∙ p.0 ∙ ap (λ (l : List ℕ). l ++ until_newline now) one, ap after_line front ∙ p.1)

abbrev pub Walks : Option (List ℕ) → Option (List ℕ) → Result (Vec ℕ) Fault → Bool → Type 0
Walks None now line begun = Unit {0}
Walks (Some xs) None line begun = ⊥
Walks (Some xs) (Some ys) line begun = Walked xs ys line begun

pub walks_first : (a : Option (List ℕ)) (v : Vec ℕ) → v.items ≡ [] → Walks a a (Ok v) false
walks_first None v none = tt
walks_first (Some xs) v none = record {
  taken = [];
  held = (none, omega arith);
  front = refl;
  one = refl;
  fresh = λ e. refl;
  some = λ e. absurd cc;
}

pub walks_kept : (a b c : Option (List ℕ)) (line : Result (Vec ℕ) Fault) (begun : Bool) → Walks a b line begun → Keeps b c → Walks a c line begun
walks_kept None b c line begun w k = tt
walks_kept (Some xs) None c line begun w k = absurd w
walks_kept (Some xs) (Some ys) None line begun w k = absurd k
walks_kept (Some xs) (Some ys) (Some zs) line begun w k = subst (λ (l : List ℕ). Walked xs l line begun) (sym k) w

-- at the end of the input
pub walks_end : (a b : Option (List ℕ)) (line : Result (Vec ℕ) Fault) (text : Result (String Global) Fault) (bytes : List ℕ) → Walks a (prepend_known bytes b) line true → bytes ≡ [] → IsAtEnd b
    → ((taken : List ℕ) → IsLineHeld taken line → ReadsText taken text)
    → TakesLine a (prepend_known bytes b) (Some text)
walks_end None b line text bytes w none e reads = tt
walks_end (Some xs) None line text bytes w none e reads = absurd w
walks_end (Some xs) (Some ys) line text bytes w none e reads =
    let nothing : bytes ++ ys ≡ [] = ap (λ (l : List ℕ). l ++ ys) none ∙ e in
    let on = walked_on xs (bytes ++ ys) w.taken w.front w.one in
    let whole : until_newline xs ≡ w.taken = on.0 ∙ ap (λ (l : List ℕ). w.taken ++ until_newline l) nothing ∙ append-nil w.taken in
    ((w.some refl, subst (λ (l : List ℕ). ReadsText l text) (sym whole) (reads w.taken w.held)), nothing ∙ sym (on.1 ∙ ap after_line nothing))

pub walks_nothing : (a b : Option (List ℕ)) (line : Result (Vec ℕ) Fault) (bytes : List ℕ) → Walks a (prepend_known bytes b) line false → bytes ≡ [] → IsAtEnd b → TakesLine a (prepend_known bytes b) None
walks_nothing None b line bytes w none e = tt
walks_nothing (Some xs) None line bytes w none e = absurd w
walks_nothing (Some xs) (Some ys) line bytes w none e =
    let nothing : bytes ++ ys ≡ [] = ap (λ (l : List ℕ). l ++ ys) none ∙ e in
    let empty : xs ≡ [] = w.fresh refl ∙ nothing in
    (empty, nothing ∙ sym (ap after_line empty))

-- a line of which a piece was taken when nothing more could be read
pub walks_cut : (a b c : Option (List ℕ)) (line : Result (Vec ℕ) Fault) (begun : Bool) → Walks a b line begun → Keeps b c → LosesPiece a c
walks_cut None b c line begun w k = ([], refl, tt)
walks_cut (Some xs) None c line begun w k = absurd w
walks_cut (Some xs) (Some ys) None line begun w k = absurd k
walks_cut (Some xs) (Some ys) (Some zs) line begun w k = (w.taken, w.one, w.front ∙ ap (λ (l : List ℕ). w.taken ++ l) (sym k))

some_before : (begun : Bool) (xs ys bytes : List ℕ) → 0 < length bytes → (begun ≡ false → xs ≡ bytes ++ ys) → (begun ≡ true → 0 < length xs) → 0 < length xs
some_before true xs ys bytes lt fresh some = some refl
some_before false xs ys bytes lt fresh some = omega (arith, ap length (fresh refl), length-append bytes ys, lt)

-- a piece that ends the line
pub walks_out : (a b : Option (List ℕ)) (line longer : Result (Vec ℕ) Fault) (text : Result (String Global) Fault) (begun : Bool) (bytes : List ℕ) → Walks a (prepend_known bytes b) line begun
    → 0 < length bytes → length (until_newline bytes) < length bytes → ((taken : List ℕ) → IsLineHeld taken line → IsLineHeld (taken ++ until_newline bytes) longer)
    → ((taken : List ℕ) → IsLineHeld taken longer → ReadsText taken text) → TakesLine a (prepend_known (after_line bytes) b) (Some text)
walks_out None b line longer text begun bytes w lt ended extends reads = tt
walks_out (Some xs) None line longer text begun bytes w lt ended extends reads = absurd w
walks_out (Some xs) (Some ys) line longer text begun bytes w lt ended extends reads =
    let p = piece_ended bytes ys ended in
    let on = walked_on xs (bytes ++ ys) w.taken w.front w.one in
    let whole : until_newline xs ≡ w.taken ++ until_newline bytes = on.0 ∙ ap (λ (l : List ℕ). w.taken ++ l) p.0 in
    ((some_before begun xs ys bytes lt w.fresh w.some, subst (λ (l : List ℕ). ReadsText l text) (sym whole) (reads (w.taken ++ until_newline bytes) (extends w.taken w.held))), sym (on.1 ∙ p.1))

-- a piece that doesn't
pub walks_on : (a b : Option (List ℕ)) (line longer : Result (Vec ℕ) Fault) (begun : Bool) (bytes : List ℕ) → Walks a (prepend_known bytes b) line begun
    → 0 < length bytes → length bytes ≤ length (until_newline bytes) → ((taken : List ℕ) → IsLineHeld taken line → IsLineHeld (taken ++ until_newline bytes) longer)
    → Walks a (prepend_known (after_line bytes) b) longer true
walks_on None b line longer begun bytes w lt going extends = tt
walks_on (Some xs) None line longer begun bytes w lt going extends = absurd w
walks_on (Some xs) (Some ys) line longer begun bytes w lt going extends =
    let p = piece_open bytes ys going in
    let left : after_line bytes ++ ys ≡ ys = ap (λ (l : List ℕ). l ++ ys) p.2 in
    record {
      taken = w.taken ++ until_newline bytes;
      held = extends w.taken w.held;
      front = w.front ∙ ap (λ (l : List ℕ). w.taken ++ l) (ap (λ (l : List ℕ). l ++ ys) (sym (open_whole bytes going)) ∙ ap (λ (l : List ℕ). until_newline bytes ++ l) (sym left)) ∙ sym (append_assoc w.taken (until_newline bytes) (after_line bytes ++ ys));
      one = one_line_on w.taken bytes w.one;
      fresh = λ e. absurd cc;
      some = λ e. some_before begun xs ys bytes lt w.fresh w.some;
    }

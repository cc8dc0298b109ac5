-- Scanning a run of bytes of one chunk.
use Rattle.std.proofs.Common.{◌≡◌, ℕ, zero, suc, ◌+◌, ◌-◌, ◌<◌, ◌≤◌, true, false, ltb, eqb, List, [], ◌∷◌, ◌++◌, length, refl, sym, ap, ◌∙◌, arith, inl, inr, append_assoc, length-append, take, drop, subst}
use Rattle.std.proofs.lemmas.Bool.{cases_lt, lt-ltb, le-ltb, ne_eqb}
use Rattle.std.proofs.lemmas.List.{append-nil, take-append-drop, length-take}
use Rattle.rds_session.specs.declared.chunks.TheConstants.{MESSAGE_LIMIT}
use Rattle.rds_session.specs.declared.chunks.Place.{Place}
use Rattle.rds_session.specs.declared.chunks.Place.TheVariants.{Within}
use Rattle.rds_session.specs.Arriving.{IsPlace, IsHeld}
use Rattle.rds_session.specs.Chunks.{Under, Scan, Long, place_left, scan}

abbrev pub at-place : Place → List ℕ → Under
at-place place held = record { place = place; held = held }

abbrev pub at : ℕ → List ℕ → Under
at left held = at-place (place_left left) held

scan_one : (b : ℕ) (bs : List ℕ) (left : ℕ) (held : List ℕ) → length held < MESSAGE_LIMIT → scan (b ∷ bs) (at (suc left) held) ≡ scan bs (at left (held ++ b ∷ []))
unfolding scan
scan_one b bs left held lt = let room : ltb (length held) MESSAGE_LIMIT ≡ true = lt-ltb _ _ lt in let less : suc left - 1 ≡ left = omega arith in let some : eqb (suc left) 0 ≡ false = ne_eqb (suc left) 0 (omega arith) in rw (some, room, less) refl

pub scan_run : (run more : List ℕ) (left : ℕ) (held : List ℕ) → length run ≤ left → length held + length run ≤ MESSAGE_LIMIT → scan (run ++ more) (at left held) ≡ scan more (at (left - length run) (held ++ run))
scan_run [] more left held le room = let same : left - 0 ≡ left = omega arith in rw (same, append-nil held) refl
scan_run (b ∷ run) more zero held le room = absurd (omega arith)
scan_run (b ∷ run) more (suc left) held le room =
    let less : suc left - suc (length run) ≡ left - length run = omega arith in
    scan_one b (run ++ more) left held (omega arith)
    ∙ scan_run run more left (held ++ b ∷ []) (omega arith) (omega (arith, length-append held (b ∷ [])))
    ∙ rw (less, append_assoc held (b ∷ []) run) refl

pub scan_long : (run more : List ℕ) (left : ℕ) (held : List ℕ) → length run ≤ left → length held ≤ MESSAGE_LIMIT → MESSAGE_LIMIT < length held + length run → scan (run ++ more) (at left held) ≡ Long
unfolding scan
scan_long [] more left held le fits long = absurd (omega arith)
scan_long (b ∷ run) more zero held le fits long = absurd (omega arith)
scan_long (b ∷ run) more (suc left) held le fits long =
    elim (cases_lt (length held) MESSAGE_LIMIT) [
      | inl lt ↦ scan_one b (run ++ more) left held lt ∙ scan_long run more left (held ++ b ∷ []) (omega arith) (omega (arith, length-append held (b ∷ []))) (omega (arith, length-append held (b ∷ [])))
      | inr ge ↦ let full : ltb (length held) MESSAGE_LIMIT ≡ false = le-ltb _ _ ge in let some : eqb (suc left) 0 ≡ false = ne_eqb (suc left) 0 (omega arith) in rw (some, full) refl
    ]

-- what was scanned so far leaves the rest to be scanned from here
pub record IsScanning (whole : Scan) (rest : List ℕ) (place : Place) (held : List ℕ) : Type 0 where
  pub same : scan rest (record { place = place; held = held }) ≡ whole
  pub is_place : IsPlace place
  pub is_held : IsHeld held

place_is : (left : ℕ) → 0 < left → place_left left ≡ Within left
place_is left h = let some : eqb left 0 ≡ false = ne_eqb left 0 (omega arith) in rw some refl

place_held : (left : ℕ) → IsPlace (place_left left)
place_held left = elim (cases_lt 0 left) [
  | inl lt ↦ rw (place_is left lt) lt
  | inr ge ↦ let none : left ≡ 0 = omega arith in rw none tt
]

-- a run of a chunk's bytes was taken
pub run_taken : (whole : Scan) (rest run more held held-new : List ℕ) (place place-new : Place) (left count len : ℕ)
    → IsScanning whole rest place held → place ≡ Within left → rest ≡ run ++ more → length run ≡ count → count ≤ left → len ≡ length held → count ≤ MESSAGE_LIMIT - len
    → held-new ≡ held ++ run → place-new ≡ place_left (left - count) → IsScanning whole more place-new held-new
run_taken whole rest run more held held-new place place-new left count len h p split n le len-is room e q =
    let some : 0 < left = let w : IsPlace (Within left) = subst IsPlace p h.is_place in w in
    let here : record { place = place; held = held } ≡ at left held = ap (λ (x : Place). at-place x held) (p ∙ sym (place_is left some)) in
    let fits : length held ≤ MESSAGE_LIMIT = h.is_held in
    let one : scan (run ++ more) (at left held) ≡ scan more (at (left - length run) (held ++ run)) = scan_run run more left held (omega arith) (omega arith) in
    let before : scan (run ++ more) (at left held) ≡ whole = ap (λ (x : List ℕ). scan x (at left held)) (sym split) ∙ ap (scan rest) (sym here) ∙ h.same in
    let count-is : left - length run ≡ left - count = omega arith in
    record {
      same = rw (e, q) (ap (λ (k : ℕ). scan more (at k (held ++ run))) (sym count-is) ∙ sym one ∙ before);
      is_place = rw q (place_held (left - count));
      is_held = rw e (omega (arith, length-append held run));
    }

-- a run of a chunk's bytes passes the limit
pub run_too_long : (whole : Scan) (rest held : List ℕ) (place : Place) (left count len : ℕ)
    → IsScanning whole rest place held → place ≡ Within left → count ≤ left → count ≤ length rest → len ≡ length held → MESSAGE_LIMIT - len < count → whole ≡ Long
run_too_long whole rest held place left count len h p le fits-rest len-is long =
    let some : 0 < left = let w : IsPlace (Within left) = subst IsPlace p h.is_place in w in
    let here : record { place = place; held = held } ≡ at left held = ap (λ (x : Place). at-place x held) (p ∙ sym (place_is left some)) in
    let fits : length held ≤ MESSAGE_LIMIT = h.is_held in
    let split : take count rest ++ drop count rest ≡ rest = take-append-drop count rest in
    let n : length (take count rest) ≡ count = omega (arith, length-take count rest) in
    sym h.same ∙ ap (scan rest) here ∙ ap (λ (x : List ℕ). scan x (at left held)) (sym split) ∙ scan_long (take count rest) (drop count rest) left held (omega arith) fits (omega arith)

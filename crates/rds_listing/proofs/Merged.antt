-- The lines of one step of going through two lists.
use Rattle.std.proofs.Common.{◌≡◌, ◌∙◌, ◌+◌, ◌<◌, ℕ, Bool, false, true, cond, List, [], ◌∷◌, ◌++◌, length, drop, get_or, ap, sym, refl, map, append_assoc, append-nil}
use Rattle.std.proofs.lemmas.List.{drop_more}
use Rattle.rds_listing.specs.Pieces.{lines_text}

pub lines_append : (xs ys : List (List ℕ)) → lines_text (xs ++ ys) ≡ lines_text xs ++ lines_text ys
lines_append [] ys = refl
lines_append (x ∷ xs) ys =
    ap (λ (t : List ℕ). (x ++ 10 ∷ []) ++ t) (lines_append xs ys)
    ∙ sym (append_assoc (x ++ 10 ∷ []) (lines_text xs) (lines_text ys))

-- lines that were added one after the other
pub in_turn : (now next last whole : List ℕ) (earlier own later : List (List ℕ)) → now ++ lines_text (earlier ++ (own ++ later)) ≡ whole
    → next ≡ now ++ lines_text earlier → last ≡ next ++ lines_text own → last ++ lines_text later ≡ whole
in_turn now next last whole earlier own later told first second =
    ap (λ (t : List ℕ). t ++ lines_text later) (second ∙ ap (λ (t : List ℕ). t ++ lines_text own) first)
    ∙ append_assoc (now ++ lines_text earlier) (lines_text own) (lines_text later)
    ∙ append_assoc now (lines_text earlier) (lines_text own ++ lines_text later)
    ∙ ap (λ (t : List ℕ). now ++ (lines_text earlier ++ t)) (sym (lines_append own later))
    ∙ ap (λ (t : List ℕ). now ++ t) (sym (lines_append earlier (own ++ later)))
    ∙ told

-- one step, over a list whose items lead from one rest to the next
pub step_at : {X : Type 0} (lines : List X → List X → List (List ℕ)) (rest after seconds : List X) (i : ℕ) (x : X) (earlier own : List (List ℕ)) (now next last whole : List ℕ)
    → i < length seconds → x ≡ get_or seconds i x
    → ((later : List X) → lines rest (x ∷ later) ≡ earlier ++ (own ++ lines after later))
    → now ++ lines_text (lines rest (drop i seconds)) ≡ whole
    → next ≡ now ++ lines_text earlier → last ≡ next ++ lines_text own → last ++ lines_text (lines after (drop (i + 1) seconds)) ≡ whole
step_at {X} lines rest after seconds i x earlier own now next last whole lt item leads told first second =
    let later = drop (i + 1) seconds in
    let more : drop i seconds ≡ x ∷ later = drop_more seconds i x lt ∙ ap (λ (y : X). y ∷ later) (sym item) in
    in_turn now next last whole earlier own (lines after later)
    (ap (λ (l : List (List ℕ)). now ++ lines_text l) (sym (ap (lines rest) more ∙ leads later)) ∙ told) first second

-- a line that is added, where it is one to be told
pub one_told : (met : Bool) (line text : List ℕ) → met ≡ false → text ++ lines_text (cond met [] (line ∷ [])) ≡ text ++ (line ++ 10 ∷ [])
one_told true line text no_met = absurd cc
one_told false line text no_met = ap (λ (t : List ℕ). text ++ t) (append-nil (line ++ 10 ∷ []))

-- the line of one more
pub line_at : {X : Type 0} (line : X → List ℕ) (all : List X) (i : ℕ) (x : X) (now next whole : List ℕ) → i < length all → x ≡ get_or all i x
    → now ++ lines_text (map line (drop i all)) ≡ whole → next ≡ now ++ (line x ++ 10 ∷ []) → next ++ lines_text (map line (drop (i + 1) all)) ≡ whole
line_at {X} line all i x now next whole lt item told is =
    let later = drop (i + 1) all in
    let more : drop i all ≡ x ∷ later = drop_more all i x lt ∙ ap (λ (y : X). y ∷ later) (sym item) in
    ap (λ (t : List ℕ). t ++ lines_text (map line later)) is
    ∙ append_assoc now (line x ++ 10 ∷ []) (lines_text (map line later))
    ∙ sym (ap (λ (l : List X). now ++ lines_text (map line l)) more)
    ∙ told

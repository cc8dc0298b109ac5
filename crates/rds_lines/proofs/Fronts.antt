-- A long front of the input is joined as the whole input is.
use Rattle.std.proofs.Common.{◌≡◌, ℕ, zero, suc, ◌+◌, ◌-◌, ◌*◌, ◌<◌, ◌≤◌, inl, inr, Bool, true, false, cond, eqb, ltb, List, [], ◌∷◌, length, take, Result, Ok, Err, refl, sym, ap, ◌∙◌, arith, subst}
use Rattle.std.specs.Prelude.{MatchBool}
use Rattle.std.proofs.lemmas.Bool.{lt-ltb, ltb-false, cases_lt}
use Rattle.std.proofs.Math.Seq.{take-nil}
use Rattle.hex.specs.Hex.{decode_of}
use Rattle.rds_names.specs.declared.fault.Fault.{Fault}
use Rattle.rds_names.specs.declared.fault.Fault.TheVariants.{TooLong}
use Rattle.rds_lines.specs.Lines.{until_newline, after_line}
use Rattle.rds_state.specs.Fits.{ReplicaValue}
use Rattle.rds_lines.specs.Join.{DigitsRead, LineRead, ReadsLine, AfterBoth, AfterSecond, AfterFirst, JoinsTo, MayJoinTo}
use Rattle.rds_lines.specs.declared.join.TheConstants.{LINE_LIMIT}

-- the line of a front that reaches past it, and what follows
record IsFrontOf (n : ℕ) (xs : List ℕ) : Type 0 where
  line : until_newline (take n xs) ≡ until_newline xs
  rest : after_line (take n xs) ≡ take (n - (length (until_newline xs) + 1)) (after_line xs)

front_at : (t : Bool) (n b : ℕ) (xs : List ℕ) → eqb b 10 ≡ t → length (cond t [] (b ∷ until_newline xs)) < suc n
    → (length (until_newline xs) < n → IsFrontOf n xs)
    → (cond t [] (b ∷ until_newline (take n xs)) ≡ cond t [] (b ∷ until_newline xs)) × (cond t (take n xs) (after_line (take n xs)) ≡ take (suc n - (length (cond t [] (b ∷ until_newline xs)) + 1)) (cond t xs (after_line xs)))
front_at true n b xs e lt ih = (refl, ap (λ (k : ℕ). take k xs) (omega arith))
front_at false n b xs e lt ih =
    let h = ih (omega arith) in
    (ap (λ (l : List ℕ). b ∷ l) h.line, h.rest ∙ ap (λ (k : ℕ). take k (after_line xs)) (omega arith))

is_front : (n : ℕ) (xs : List ℕ) → length (until_newline xs) < n → IsFrontOf n xs
is_front zero xs lt = absurd (omega arith)
is_front (suc n) [] lt = record { line = refl; rest = sym (take-nil (suc n - (0 + 1))) }
is_front (suc n) (b ∷ xs) lt =
    let h = front_at (eqb b 10) n b xs refl lt (is_front n xs) in
    record { line = h.0; rest = h.1 }

-- a line that is longer than the front
long_at : (t : Bool) (n b : ℕ) (xs : List ℕ) → suc n ≤ length (cond t [] (b ∷ until_newline xs)) → (n ≤ length (until_newline xs) → n ≤ length (until_newline (take n xs))) → suc n ≤ length (cond t [] (b ∷ until_newline (take n xs)))
long_at true n b xs le ih = absurd (omega arith)
long_at false n b xs le ih = let h = ih (omega arith) in omega arith

is_long : (n : ℕ) (xs : List ℕ) → n ≤ length (until_newline xs) → n ≤ length (until_newline (take n xs))
is_long zero xs le = omega arith
is_long (suc n) [] le = absurd (omega arith)
is_long (suc n) (b ∷ xs) le = long_at (eqb b 10) n b xs le (is_long n xs)

-- a line over the limit
too_long : (line : List ℕ) (r : Result ReplicaValue Fault) → LINE_LIMIT < length line → r ≡ Err TooLong → LineRead line r
too_long line r lt e = let long : ltb LINE_LIMIT (length line) ≡ true = lt-ltb _ _ lt in rw long e

read_too_long : (line : List ℕ) (r : Result ReplicaValue Fault) → LINE_LIMIT < length line → LineRead line r → r ≡ Err TooLong
read_too_long line r lt h = let long : ltb LINE_LIMIT (length line) ≡ true = lt-ltb _ _ lt in rw long at h

-- the first line of a front is read as that of the whole
same_line : (n : ℕ) (xs : List ℕ) (r : Result ReplicaValue Fault) → LINE_LIMIT < n → ReadsLine (until_newline (take n xs)) r → ReadsLine (until_newline xs) r
same_line n xs r lt h = elim (cases_lt (length (until_newline xs)) n) [
  | inl short ↦ subst (λ (l : List ℕ). ReadsLine l r) (is_front n xs short).line h
  | inr long ↦
      let front = is_long n xs long in
      (h.0, too_long (until_newline xs) r (omega arith) (read_too_long (until_newline (take n xs)) r (omega arith) h.1))
]

-- a line that was read as a snapshot is within the limit
abbrev done : ReplicaValue → Result ReplicaValue Fault
done v = Ok v

within : (long : Bool) (line : List ℕ) (v : ReplicaValue) → ltb LINE_LIMIT (length line) ≡ long → MatchBool long (done v ≡ Err TooLong) (DigitsRead (decode_of line) (Ok v)) → length line ≤ LINE_LIMIT
within true line v e h = absurd cc
within false line v e h = ltb-false LINE_LIMIT (length line) e

is_within : (line : List ℕ) (v : ReplicaValue) → ReadsLine line (Ok v) → length line ≤ LINE_LIMIT
is_within line v h = within (ltb LINE_LIMIT (length line)) line v refl h.1

-- a rest is empty where its front is
same_rest : (n : ℕ) (ys : List ℕ) (v w : ReplicaValue) (r : Result (List ℕ) Fault) → 0 < n → AfterBoth (take n ys) v w r → AfterBoth ys v w r
same_rest zero ys v w r lt h = absurd (omega arith)
same_rest (suc n) [] v w r lt h = h
same_rest (suc n) (y ∷ ys) v w r lt h = h

second_of : (n : ℕ) (rest : List ℕ) (v : ReplicaValue) (b : Result ReplicaValue Fault) (r : Result (List ℕ) Fault) → LINE_LIMIT + 1 < n → ReadsLine (until_newline rest) b → AfterSecond (after_line (take n rest)) v b r
    → AfterSecond (after_line rest) v b r
second_of n rest v (Err e) r lt read h = h
second_of n rest v (Ok w) r lt read h =
    let small = is_within (until_newline rest) w read in
    let front = is_front n rest (omega arith) in
    same_rest (n - (length (until_newline rest) + 1)) (after_line rest) v w r (omega arith) (subst (λ (l : List ℕ). AfterBoth l v w r) front.rest h)

first_of : (n : ℕ) (input : List ℕ) (a : Result ReplicaValue Fault) (r : Result (List ℕ) Fault) → 2 * LINE_LIMIT + 2 < n → ReadsLine (until_newline input) a → AfterFirst (after_line (take n input)) a r → AfterFirst (after_line input) a r
first_of n input (Err e) r lt read h = h
first_of n input (Ok v) r lt read h =
    let small = is_within (until_newline input) v read in
    let front = is_front n input (omega arith) in
    let m = n - (length (until_newline input) + 1) in
    let moved = subst (λ (l : List ℕ). AfterFirst l (Ok v) r) front.rest h in
    let second = same_line m (after_line input) moved.0 (omega arith) moved.1 in
    (moved.0, second, second_of m (after_line input) v moved.0 r (omega arith) second moved.2)

pub joins_whole : (n : ℕ) (input : List ℕ) (r : Result (List ℕ) Fault) → 2 * LINE_LIMIT + 2 < n → JoinsTo (take n input) r → JoinsTo input r
joins_whole n input r lt h =
    let first = same_line n input h.0 (omega arith) h.1 in
    (h.0, first, first_of n input h.0 r lt first h.2)

pub may_join_whole : (n : ℕ) (input : List ℕ) (r : Result (List ℕ) Fault) → 2 * LINE_LIMIT + 2 < n → MayJoinTo (take n input) r → MayJoinTo input r
may_join_whole n input r lt h = elim h [ inl memory ↦ inl memory | inr joins ↦ inr (joins_whole n input r lt joins) ]

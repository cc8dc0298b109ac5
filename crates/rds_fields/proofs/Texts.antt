-- Texts that are compared part by part.
use Rattle.std.proofs.Common.{◌≡◌, ◌≢◌, ℕ, zero, suc, ◌<◌, Bool, true, false, ◌&&◌, nat_eq, bytes_eq, List, [], ◌∷◌, ◌++◌, length, take, drop, slice_index, refl, sym, ap, ◌∙◌, arith}
use Rattle.std.specs.Char.{to_ascii_lowercase}
use Rattle.std.specs.Str.{str_eq_ignore_ascii_case, str_to_ascii_lowercase}
use Rattle.std.proofs.lemmas.List.{length-map, take_all}

and-true : (b : Bool) → (b && true) ≡ b
and-true b = elim b as (λ v. (v && true) ≡ v) [ true ↦ refl | false ↦ refl ]

and-false : (b : Bool) → (b && false) ≡ false
and-false b = elim b as (λ v. (v && false) ≡ false) [ true ↦ refl | false ↦ refl ]

and-assoc : (a b c : Bool) → (a && (b && c)) ≡ ((a && b) && c)
and-assoc a b c = elim a as (λ v. (v && (b && c)) ≡ ((v && b) && c)) [ true ↦ refl | false ↦ refl ]

-- a text is two others, one behind the other
pub bytes_eq-append : (text start end : List ℕ)
    → bytes_eq text (start ++ end) ≡ (bytes_eq (take (length start) text) start && bytes_eq (drop (length start) text) end)
bytes_eq-append text [] end = refl
bytes_eq-append [] (s ∷ start) end = refl
bytes_eq-append (t ∷ text) (s ∷ start) end =
    ap (λ r. nat_eq t s && r) (bytes_eq-append text start end)
    ∙ and-assoc (nat_eq t s) (bytes_eq (take (length start) text) start) (bytes_eq (drop (length start) text) end)

-- one byte more of both
pub bytes_eq-more : (i : ℕ) (a b : List ℕ) → i < length a → i < length b
    → bytes_eq (take (suc i) a) (take (suc i) b) ≡ (bytes_eq (take i a) (take i b) && nat_eq (slice_index a i) (slice_index b i))
bytes_eq-more i [] b in_a in_b = absurd (omega arith)
bytes_eq-more i (x ∷ a) [] in_a in_b = absurd (omega arith)
bytes_eq-more zero (x ∷ a) (y ∷ b) in_a in_b = and-true (nat_eq x y)
bytes_eq-more (suc i) (x ∷ a) (y ∷ b) in_a in_b =
    ap (λ r. nat_eq x y && r) (bytes_eq-more i a b (omega arith) (omega arith))
    ∙ and-assoc (nat_eq x y) (bytes_eq (take i a) (take i b)) (nat_eq (slice_index a i) (slice_index b i))

-- texts of different lengths differ
pub bytes_eq-lengths : (a b : List ℕ) → length a ≢ length b → bytes_eq a b ≡ false
bytes_eq-lengths [] [] unlike = absurd (unlike refl)
bytes_eq-lengths [] (y ∷ b) unlike = refl
bytes_eq-lengths (x ∷ a) [] unlike = refl
bytes_eq-lengths (x ∷ a) (y ∷ b) unlike =
    ap (λ r. nat_eq x y && r) (bytes_eq-lengths a b (λ e. unlike (ap suc e))) ∙ and-false (nat_eq x y)

-- a text that is shorter than a name doesn't begin with it, in whatever case
pub shorter-than_name : (text name : List ℕ) → length text < length name
    → str_eq_ignore_ascii_case (take (length name) text) name ≡ false
shorter-than_name text name short =
    let whole : take (length name) text ≡ text = take_all (length name) text (omega (arith, short)) in
    bytes_eq-lengths (str_to_ascii_lowercase (take (length name) text)) (str_to_ascii_lowercase name)
    (λ e. omega (arith, short, e, ap length whole, length-map (take (length name) text) to_ascii_lowercase, length-map name to_ascii_lowercase))

-- a text that doesn't begin so
pub bytes_eq-other : (text start end : List ℕ) → bytes_eq (take (length start) text) start ≡ false → bytes_eq text (start ++ end) ≡ false
bytes_eq-other text start end other =
    bytes_eq-append text start end ∙ ap (λ b. b && bytes_eq (drop (length start) text) end) other

-- one that does
pub bytes_eq-rest : (text start end rest : List ℕ) → bytes_eq (take (length start) text) start ≡ true → rest ≡ drop (length start) text
    → bytes_eq text (start ++ end) ≡ bytes_eq rest end
bytes_eq-rest text start end rest begins is =
    bytes_eq-append text start end ∙ (ap (λ b. b && bytes_eq (drop (length start) text) end) begins ∙ ap (λ r. bytes_eq r end) (sym is))

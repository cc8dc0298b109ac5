-- A format: what is read is spelled so, and what is spelled so is read, whatever follows.
use Rattle.std.proofs.Common.{◌≡◌, ℕ, suc, ◌+◌, ◌^◌, ◌<◌, ◌≤◌, Bool, true, false, cond, ltb, List, [], ◌∷◌, ◌++◌, length, get_or, take, drop, Result, Ok, Err, Option, Some, None, refl, sym, ap, subst, ◌∙◌, ◌⊎◌, append_assoc, arith, inl, inr}
use Rattle.std.specs.Int.{Width, w16, w32, w64, byte_len, from_be_bytes, to_be_bytes}
use Rattle.std.proofs.lemmas.Bool.{cases_lt, ltb-false, le-ltb}
use Rattle.std.proofs.lemmas.List.{take_at, drop_at, take-append-drop, length-append, length-take, get_or-drop, get_or-take, get_or_past}
use Rattle.std.proofs.lemmas.Nat.{be_bytes_2, be_bytes_4, be_bytes_8, from_be_bytes-to_be_bytes_2, from_be_bytes-to_be_bytes_4, from_be_bytes-to_be_bytes_8}
use Rattle.rds_names.specs.declared.fault.Fault.{Fault}
use Rattle.rds_names.specs.declared.fault.Fault.TheVariants.{Cut, Bad}
use Rattle.rds_bytes.specs.Reading.{◌>>=◌, Reader, then_at, pair_at, made_at, or_bad, drawn_at, when_at, byte_at, number_at, bytes_at}

abbrev pub IsBytes : List ℕ → Type 0
IsBytes bytes = (i : ℕ) → get_or bytes i 0 < 256

pub IsBytes-drop : (n : ℕ) (bytes : List ℕ) → IsBytes bytes → IsBytes (drop n bytes)
IsBytes-drop n bytes h i = rw get_or-drop (h (n + i))

IsBytes-take : (n : ℕ) (bytes : List ℕ) → IsBytes bytes → IsBytes (take n bytes)
IsBytes-take n bytes h i =
    elim (cases_lt i n) [
      | inl lt ↦ rw (get_or-take n bytes i 0 lt) (h i)
      | inr le ↦ rw (get_or_past (take n bytes) i 0 (omega (arith, length-take n bytes))) (omega arith)
    ]

-- ---- steps that may fail

-- the value of a step that did not fail
pub bind_ok : {A B : Type 0} (r : Result A Fault) (f : A → Result B Fault) (y : B) → (r >>= f) ≡ Ok y → (x : A) × (r ≡ Ok x) × (f x ≡ Ok y)
bind_ok (Ok x) f y e = (x, refl, e)
bind_ok (Err d) f y e = absurd cc

abbrev pub failed : {A : Type 0} → Fault → Result A Fault
failed x = Err x

pub err_is : {A : Type 0} (d e : Fault) → failed {A = A} d ≡ Err e → d ≡ e
err_is d e h = cc

-- the fault of a step, or of the next
pub bind_err : {A B : Type 0} (r : Result A Fault) (f : A → Result B Fault) (d : Fault) → (r >>= f) ≡ Err d → (r ≡ Err d) ⊎ ((x : A) × (r ≡ Ok x) × (f x ≡ Err d))
bind_err {A} {B} (Ok x) f d e = inr (x, refl, e)
bind_err {A} {B} (Err c) f d e = inl (ap (λ (x : Fault). failed {A = A} x) (err_is {A = B} c d e))

-- which way a test went
pub chosen : {A : Type 0} (b : Bool) (x y z : A) → cond b x y ≡ z → ((b ≡ true) × (x ≡ z)) ⊎ ((b ≡ false) × (y ≡ z))
chosen true x y z e = inl (refl, e)
chosen false x y z e = inr (refl, e)

-- a test that did not fail
pub guard_ok : {A : Type 0} (b : Bool) (d : Fault) (x y : A) → cond b (Err d) (Ok x) ≡ Ok y → (b ≡ false) × (x ≡ y)
guard_ok true d x y e = absurd cc
guard_ok false d x y e = (refl, cc)

pub guard_err : {A : Type 0} (b : Bool) (d : Fault) (x : A) (e : Fault) → cond b (Err d) (Ok x) ≡ Err e → (b ≡ true) × (d ≡ e)
guard_err true d x e h = (refl, cc)
guard_err false d x e h = absurd cc

passed_ok : {A : Type 0} (b : Bool) (d : Fault) (x y : A) → cond b (Ok x) (Err d) ≡ Ok y → (b ≡ true) × (x ≡ y)
passed_ok true d x y e = (refl, cc)
passed_ok false d x y e = absurd cc

passed_err : {A : Type 0} (b : Bool) (d : Fault) (x : A) (e : Fault) → cond b (Ok x) (Err d) ≡ Err e → d ≡ e
passed_err true d x e h = absurd cc
passed_err false d x e h = cc

abbrev pub done : {A : Type 0} → A → Result A Fault
done x = Ok x

pub ok_is : {A : Type 0} (x y : A) → done x ≡ done y → x ≡ y
ok_is x y e = cc

-- what a reader took from the front
pub record Takes (bytes text rest : List ℕ) : Type 0 where
  pub parts : bytes ≡ text ++ rest
  pub rest_fits : IsBytes rest

pub Takes-then : (a x b y c : List ℕ) → Takes a x b → Takes b y c → Takes a (x ++ y) c
Takes-then a x b y c p q = record { parts = p.parts ∙ ap (λ (t : List ℕ). x ++ t) q.parts ∙ sym (append_assoc x y c); rest_fits = q.rest_fits }

abbrev pub CutOrBad : Fault → Type 0
CutOrBad e = (e ≡ Cut) ⊎ (e ≡ Bad)

pub record IsFormat {A : Type 0} (read : Reader A) (text : A → List ℕ) (Fits : A → Type 0) : Type 0 where
  pub takes : (bytes : List ℕ) (x : A × List ℕ) → IsBytes bytes → read bytes ≡ Ok x → Takes bytes (text x.0) x.1 × Fits x.0
  pub again : (a : A) (rest : List ℕ) → Fits a → read (text a ++ rest) ≡ Ok (a, rest)
  pub faults : (bytes : List ℕ) (e : Fault) → IsBytes bytes → read bytes ≡ Err e → CutOrBad e

-- the same values, said in other words
pub refit : {A : Type 0} (f : Reader A) (s : A → List ℕ) (F G : A → Type 0) → ((a : A) → F a → G a) → ((a : A) → G a → F a) → IsFormat f s F → IsFormat f s G
refit f s F G there back p = record {
  takes = λ bytes x fits e. (let t = p.takes bytes x fits e in (t.0, there x.0 t.1));
  again = λ a rest g. p.again a rest (back a g);
  faults = p.faults;
}

-- ---- a byte

byte_takes : (bytes : List ℕ) (x : ℕ × List ℕ) → IsBytes bytes → byte_at bytes ≡ Ok x → Takes bytes (x.0 ∷ []) x.1 × (x.0 < 256)
byte_takes [] x fits e = absurd cc
byte_takes (b ∷ rest) x fits e =
    subst (λ (y : ℕ × List ℕ). Takes (b ∷ rest) (y.0 ∷ []) y.1 × (y.0 < 256)) (ok_is (b, rest) x e) (record { parts = refl; rest_fits = λ i. fits (suc i) }, fits 0)

byte_faults : (bytes : List ℕ) (e : Fault) → byte_at bytes ≡ Err e → CutOrBad e
byte_faults [] e h = inl (sym (err_is {A = ℕ × List ℕ} Cut e h))
byte_faults (b ∷ rest) e h = absurd cc

pub byte_format : IsFormat byte_at (λ b. b ∷ []) (λ b. b < 256)
byte_format = record { takes = byte_takes; again = λ b rest h. refl; faults = λ bytes e fits h. byte_faults bytes e h }

-- ---- numbers

pub record IsWide (w : Width) (limit : ℕ) : Type 0 where
  pub len : (n : ℕ) → length (to_be_bytes w n) ≡ byte_len w
  pub back : (bytes : List ℕ) → length bytes ≡ byte_len w → IsBytes bytes → to_be_bytes w (from_be_bytes w bytes) ≡ bytes
  pub again : (n : ℕ) → n < limit → from_be_bytes w (to_be_bytes w n) ≡ n
  pub below : (bytes : List ℕ) → IsBytes bytes → from_be_bytes w bytes < limit

wide16 : IsWide w16 (2 ^ 16)
wide16 = record {
  len = λ n. refl;
  back = λ bytes len fits. be_bytes_2 bytes _ len fits refl;
  again = λ n lt. from_be_bytes-to_be_bytes_2 n lt;
  below = λ bytes fits. omega (arith, fits 0, fits 1);
}

wide32 : IsWide w32 (2 ^ 32)
wide32 = record {
  len = λ n. refl;
  back = λ bytes len fits. be_bytes_4 bytes _ len fits refl;
  again = λ n lt. from_be_bytes-to_be_bytes_4 n lt;
  below = λ bytes fits. omega (arith, fits 0, fits 1, fits 2, fits 3);
}

wide64 : IsWide w64 (2 ^ 64)
wide64 = record {
  len = λ n. refl;
  back = λ bytes len fits. be_bytes_8 bytes _ len fits refl;
  again = λ n lt. from_be_bytes-to_be_bytes_8 n lt;
  below = λ bytes fits. omega (arith, fits 0, fits 1, fits 2, fits 3, fits 4, fits 5, fits 6, fits 7);
}

module _ (w : Width) (limit : ℕ) (wide : IsWide w limit) where
  number_takes : (bytes : List ℕ) (x : ℕ × List ℕ) → IsBytes bytes → number_at w bytes ≡ Ok x → Takes bytes (to_be_bytes w x.0) x.1 × (x.0 < limit)
  number_takes bytes x fits e =
      let g = guard_ok (ltb (length bytes) (byte_len w)) Cut (from_be_bytes w (take (byte_len w) bytes), drop (byte_len w) bytes) x e in
      let long : byte_len w ≤ length bytes = ltb-false _ _ g.0 in
      let n-is : from_be_bytes w (take (byte_len w) bytes) ≡ x.0 = ap (λ (p : ℕ × List ℕ). p.0) g.1 in
      let rest-is : drop (byte_len w) bytes ≡ x.1 = ap (λ (p : ℕ × List ℕ). p.1) g.1 in
      let front : to_be_bytes w x.0 ≡ take (byte_len w) bytes = rw (← n-is) (wide.back (take (byte_len w) bytes) (omega (arith, length-take (byte_len w) bytes)) (IsBytes-take (byte_len w) bytes fits)) in
      (record { parts = rw (front, ← rest-is) (sym (take-append-drop (byte_len w) bytes)); rest_fits = rw (← rest-is) (IsBytes-drop (byte_len w) bytes fits) }, rw (← n-is) (wide.below (take (byte_len w) bytes) (IsBytes-take (byte_len w) bytes fits)))

  number_again : (n : ℕ) (rest : List ℕ) → n < limit → number_at w (to_be_bytes w n ++ rest) ≡ Ok (n, rest)
  number_again n rest lt =
      let len = wide.len n in
      let long : ltb (length (to_be_bytes w n ++ rest)) (byte_len w) ≡ false = le-ltb _ _ (omega (arith, length-append (to_be_bytes w n) rest)) in
      rw (long, take_at (to_be_bytes w n) rest (byte_len w) len, drop_at (to_be_bytes w n) rest (byte_len w) len, wide.again n lt) refl

  number_format : IsFormat (number_at w) (to_be_bytes w) (λ n. n < limit)
  number_format = record {
    takes = number_takes;
    again = number_again;
    faults = λ bytes e fits h. inl (sym (guard_err (ltb (length bytes) (byte_len w)) Cut (from_be_bytes w (take (byte_len w) bytes), drop (byte_len w) bytes) e h).1);
  }

pub number16 : IsFormat (number_at w16) (to_be_bytes w16) (λ n. n < 2 ^ 16)
number16 = number_format w16 (2 ^ 16) wide16

pub number32 : IsFormat (number_at w32) (to_be_bytes w32) (λ n. n < 2 ^ 32)
number32 = number_format w32 (2 ^ 32) wide32

pub number64 : IsFormat (number_at w64) (to_be_bytes w64) (λ n. n < 2 ^ 64)
number64 = number_format w64 (2 ^ 64) wide64

-- ---- bytes of a length that is known

known_takes : (n : ℕ) (bytes : List ℕ) (x : List ℕ × List ℕ) → IsBytes bytes → bytes_at n bytes ≡ Ok x → Takes bytes x.0 x.1 × (length x.0 ≡ n)
known_takes n bytes x fits e =
    let g = guard_ok (ltb (length bytes) n) Cut (take n bytes, drop n bytes) x e in
    let long : n ≤ length bytes = ltb-false _ _ g.0 in
    subst (λ (y : List ℕ × List ℕ). Takes bytes y.0 y.1 × (length y.0 ≡ n)) g.1
    (record { parts = sym (take-append-drop n bytes); rest_fits = IsBytes-drop n bytes fits }, omega (arith, length-take n bytes))

known_again : (n : ℕ) (t rest : List ℕ) → length t ≡ n → bytes_at n (t ++ rest) ≡ Ok (t, rest)
known_again n t rest e =
    let long : ltb (length (t ++ rest)) n ≡ false = le-ltb _ _ (omega (arith, length-append t rest)) in
    rw (long, take_at t rest n e, drop_at t rest n e) refl

pub known_format : (n : ℕ) → IsFormat (bytes_at n) (λ t. t) (λ t. length t ≡ n)
known_format n = record {
  takes = known_takes n;
  again = known_again n;
  faults = λ bytes e fits h. inl (sym (guard_err (ltb (length bytes) n) Cut (take n bytes, drop n bytes) e h).1);
}

-- ---- a part, and then one that may depend on it

module _ {A B : Type 0} (f : Reader A) (g : A → Reader B) (s : A → List ℕ) (t : A → B → List ℕ) (F : A → Type 0) (G : A → B → Type 0) (p : IsFormat f s F) (q : (a : A) → F a → IsFormat (g a) (t a) (G a)) where
  abbrev after : A × List ℕ → Result ((A × B) × List ℕ) Fault
  after a = g a.0 a.1 >>= λ b. Ok ((a.0, b.0), b.1)

  abbrev Taken : List ℕ → (A × B) × List ℕ → Type 0
  Taken bytes y = Takes bytes (s y.0.0 ++ t y.0.0 y.0.1) y.1 × (F y.0.0 × G y.0.0 y.0.1)

  then_takes : (bytes : List ℕ) (x : (A × B) × List ℕ) → IsBytes bytes → then_at f g bytes ≡ Ok x → Taken bytes x
  then_takes bytes x fits e =
      let a = bind_ok (f bytes) after x e in
      let b = bind_ok (g a.0.0 a.0.1) (λ b. Ok ((a.0.0, b.0), b.1)) x a.2 in
      let first = p.takes bytes a.0 fits a.1 in
      let second = (q a.0.0 first.1).takes a.0.1 b.0 first.0.rest_fits b.1 in
      subst (Taken bytes) (ok_is ((a.0.0, b.0.0), b.0.1) x b.2)
      (Takes-then bytes (s a.0.0) a.0.1 (t a.0.0 b.0.0) b.0.1 first.0 second.0, (first.1, second.1))

  then_again : (v : A × B) (rest : List ℕ) → F v.0 × G v.0 v.1 → then_at f g ((s v.0 ++ t v.0 v.1) ++ rest) ≡ Ok (v, rest)
  then_again v rest fits =
      let second = (q v.0 fits.0).again v.1 rest fits.1 in
      ap (then_at f g) (append_assoc (s v.0) (t v.0 v.1) rest) ∙ rw (p.again v.0 (t v.0 v.1 ++ rest) fits.0, second) refl

  then_faults : (bytes : List ℕ) (e : Fault) → IsBytes bytes → then_at f g bytes ≡ Err e → CutOrBad e
  then_faults bytes e fits h =
      elim (bind_err (f bytes) after e h) [
        | inl first ↦ p.faults bytes e fits first
        | inr a ↦
            let read = p.takes bytes a.0 fits a.1 in
            elim (bind_err (g a.0.0 a.0.1) (λ b. Ok ((a.0.0, b.0), b.1)) e a.2) [
              | inl second ↦ (q a.0.0 read.1).faults a.0.1 e read.0.rest_fits second
              | inr b ↦ absurd (let bad : done ((a.0.0, b.0.0), b.0.1) ≡ Err e = b.2 in cc)
            ]
      ]

  pub then_format : IsFormat (then_at f g) (λ v. s v.0 ++ t v.0 v.1) (λ v. F v.0 × G v.0 v.1)
  then_format = record { takes = then_takes; again = then_again; faults = then_faults }

pub pair_format : {A B : Type 0} (f : Reader A) (g : Reader B) (s : A → List ℕ) (t : B → List ℕ) (F : A → Type 0) (G : B → Type 0) → IsFormat f s F → IsFormat g t G → IsFormat (pair_at f g) (λ v. s v.0 ++ t v.1) (λ v. F v.0 × G v.1)
pair_format f g s t F G p q = then_format f (λ _. g) s (λ _. t) F (λ _. G) p (λ _ _. q)

-- ---- a part as another value

module _ {A B : Type 0} (make : A → B) (unmake : B → A) (f : Reader A) (s : A → List ℕ) (F : A → Type 0) (G : B → Type 0) (there : (b : B) → G b → F (unmake b) × (make (unmake b) ≡ b)) (back : (a : A) → F a → G (make a) × (unmake (make a) ≡ a)) (p : IsFormat f s F) where
  made_takes : (bytes : List ℕ) (x : B × List ℕ) → IsBytes bytes → made_at make f bytes ≡ Ok x → Takes bytes (s (unmake x.0)) x.1 × G x.0
  made_takes bytes x fits e =
      let a = bind_ok (f bytes) (λ a. Ok (make a.0, a.1)) x e in
      let read = p.takes bytes a.0 fits a.1 in
      let is = back a.0.0 read.1 in
      subst (λ (y : B × List ℕ). Takes bytes (s (unmake y.0)) y.1 × G y.0) (ok_is (make a.0.0, a.0.1) x a.2)
      (subst (λ (v : A). Takes bytes (s v) a.0.1) (sym is.1) read.0, is.0)

  made_again : (b : B) (rest : List ℕ) → G b → made_at make f (s (unmake b) ++ rest) ≡ Ok (b, rest)
  made_again b rest fits = let is = there b fits in rw (p.again (unmake b) rest is.0) (ap (λ (v : B). Ok (v, rest)) is.1)

  made_faults : (bytes : List ℕ) (e : Fault) → IsBytes bytes → made_at make f bytes ≡ Err e → CutOrBad e
  made_faults bytes e fits h =
      elim (bind_err (f bytes) (λ a. Ok (make a.0, a.1)) e h) [
        | inl first ↦ p.faults bytes e fits first
        | inr a ↦ absurd (let bad : done (make a.0.0, a.0.1) ≡ Err e = a.2 in cc)
      ]

  pub made_format : IsFormat (made_at make f) (λ b. s (unmake b)) G
  made_format = record { takes = made_takes; again = made_again; faults = made_faults }

-- ---- a part as another value, where it is one

or_bad_ok : {B : Type 0} (o : Option B) (rest : List ℕ) (x : B × List ℕ) → or_bad o rest ≡ Ok x → (o ≡ Some x.0) × (rest ≡ x.1)
or_bad_ok None rest x e = absurd cc
or_bad_ok {B} (Some b) rest x e = let is : ◌≡◌ {A = B × List ℕ} (b, rest) x = ok_is (b, rest) x e in (ap (λ (y : B × List ℕ). Some y.0) is, ap (λ (y : B × List ℕ). y.1) is)

or_bad_err : {B : Type 0} (o : Option B) (rest : List ℕ) (e : Fault) → or_bad o rest ≡ Err e → CutOrBad e
or_bad_err {B} None rest e h = inr (sym (err_is {A = B × List ℕ} Bad e h))
or_bad_err (Some b) rest e h = absurd cc

module _ {A B : Type 0} (make : A → Option B) (unmake : B → A) (f : Reader A) (s : A → List ℕ) (F : A → Type 0) (G : B → Type 0) (there : (b : B) → G b → F (unmake b) × (make (unmake b) ≡ Some b)) (back : (a : A) (b : B) → F a → make a ≡ Some b → G b × (unmake b ≡ a)) (p : IsFormat f s F) where
  drawn_takes : (bytes : List ℕ) (x : B × List ℕ) → IsBytes bytes → drawn_at make f bytes ≡ Ok x → Takes bytes (s (unmake x.0)) x.1 × G x.0
  drawn_takes bytes x fits e =
      let a = bind_ok (f bytes) (λ a. or_bad (make a.0) a.1) x e in
      let read = p.takes bytes a.0 fits a.1 in
      let is = or_bad_ok (make a.0.0) a.0.1 x a.2 in
      let same = back a.0.0 x.0 read.1 is.0 in
      (subst (λ (rest : List ℕ). Takes bytes (s (unmake x.0)) rest) is.1 (subst (λ (v : A). Takes bytes (s v) a.0.1) (sym same.1) read.0), same.0)

  drawn_again : (b : B) (rest : List ℕ) → G b → drawn_at make f (s (unmake b) ++ rest) ≡ Ok (b, rest)
  drawn_again b rest fits = let is = there b fits in let some = is.1 in rw (p.again (unmake b) rest is.0, some) refl

  drawn_faults : (bytes : List ℕ) (e : Fault) → IsBytes bytes → drawn_at make f bytes ≡ Err e → CutOrBad e
  drawn_faults bytes e fits h =
      elim (bind_err (f bytes) (λ a. or_bad (make a.0) a.1) e h) [
        | inl first ↦ p.faults bytes e fits first
        | inr a ↦ or_bad_err (make a.0.0) a.0.1 e a.2
      ]

  pub drawn_format : IsFormat (drawn_at make f) (λ b. s (unmake b)) G
  drawn_format = record { takes = drawn_takes; again = drawn_again; faults = drawn_faults }

-- ---- a part that passes a test

module _ {A : Type 0} (test : A → Bool) (f : Reader A) (s : A → List ℕ) (F : A → Type 0) (p : IsFormat f s F) where
  when_takes : (bytes : List ℕ) (x : A × List ℕ) → IsBytes bytes → when_at test f bytes ≡ Ok x → Takes bytes (s x.0) x.1 × (F x.0 × (test x.0 ≡ true))
  when_takes bytes x fits e =
      let a = bind_ok (f bytes) (λ a. cond (test a.0) (Ok a) (Err Bad)) x e in
      let t = passed_ok (test a.0.0) Bad a.0 x a.2 in
      let read = p.takes bytes a.0 fits a.1 in
      subst (λ (y : A × List ℕ). Takes bytes (s y.0) y.1 × (F y.0 × (test y.0 ≡ true))) t.1 (read.0, (read.1, t.0))

  when_again : (v : A) (rest : List ℕ) → F v × (test v ≡ true) → when_at test f (s v ++ rest) ≡ Ok (v, rest)
  when_again v rest fits = let passes : test v ≡ true = fits.1 in rw (p.again v rest fits.0, passes) refl

  when_faults : (bytes : List ℕ) (e : Fault) → IsBytes bytes → when_at test f bytes ≡ Err e → CutOrBad e
  when_faults bytes e fits h =
      elim (bind_err (f bytes) (λ a. cond (test a.0) (Ok a) (Err Bad)) e h) [
        | inl first ↦ p.faults bytes e fits first
        | inr a ↦ inr (sym (passed_err (test a.0.0) Bad a.0 e a.2))
      ]

  pub when_format : IsFormat (when_at test f) s (λ v. F v × (test v ≡ true))
  when_format = record { takes = when_takes; again = when_again; faults = when_faults }

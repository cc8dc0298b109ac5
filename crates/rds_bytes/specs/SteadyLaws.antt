-- Each way to put readers together keeps them steady.
use Rattle.std.proofs.Common.{◌≡◌, ℕ, zero, suc, ◌≤◌, Bool, true, false, cond, ltb, List, [], ◌∷◌, ◌++◌, length, take, drop, Result, Ok, Err, Option, Some, None, refl, arith}
use Rattle.std.specs.Int.{Width, byte_len, from_be_bytes}
use Rattle.std.proofs.lemmas.Bool.{ltb-false, le-ltb}
use Rattle.std.proofs.lemmas.List.{length-append, take-append-le, drop-append-le}
use Rattle.rds_names.specs.declared.fault.Fault.{Fault}
use Rattle.rds_names.specs.declared.fault.Fault.TheVariants.{Cut, Bad}
use Rattle.rds_bytes.specs.Reading.{◌>>=◌, Reader, then_at, pair_at, made_at, or_bad, drawn_at, when_at, rows_after, list_at, byte_at, number_at, bytes_at, string_at}
use Rattle.rds_bytes.specs.Steady.{Agrees, IsSteady}

-- every way to put readers together is this one
pub agrees_bind : {A B : Type 0} (more : List ℕ) (r later : Result (A × List ℕ) Fault) (k : A × List ℕ → Result (B × List ℕ) Fault)
    → Agrees more r later → ((a : A) (rest : List ℕ) → Agrees more (k (a, rest)) (k (a, rest ++ more))) → Agrees more (r >>= k) (later >>= k)
agrees_bind more (Ok x) later k h s = rw h (s x.0 x.1)
agrees_bind more (Err e) later k h s = λ n. rw (h n) refl

pub made_steady : {A B : Type 0} (make : A → B) (f : Reader A) → IsSteady f → IsSteady (made_at make f)
made_steady make f s bytes more = agrees_bind more (f bytes) (f (bytes ++ more)) (λ a. Ok (make a.0, a.1)) (s bytes more) (λ a rest. refl)

pub then_steady : {A B : Type 0} (f : Reader A) (g : A → Reader B) → IsSteady f → ((a : A) → IsSteady (g a)) → IsSteady (then_at f g)
then_steady f g s t bytes more =
    agrees_bind more (f bytes) (f (bytes ++ more)) (λ a. g a.0 a.1 >>= λ b. Ok ((a.0, b.0), b.1)) (s bytes more)
    (λ a rest. agrees_bind more (g a rest) (g a (rest ++ more)) (λ b. Ok ((a, b.0), b.1)) (t a rest more) (λ b after. refl))

pub pair_steady : {A B : Type 0} (f : Reader A) (g : Reader B) → IsSteady f → IsSteady g → IsSteady (pair_at f g)
pair_steady f g s t = then_steady f (λ _. g) s (λ _. t)

-- a part that passes a test, or is bad
tested_agrees : {A : Type 0} (more : List ℕ) (b : Bool) (x : A) (rest : List ℕ) → Agrees more (cond b (Ok (x, rest)) (Err Bad)) (cond b (Ok (x, rest ++ more)) (Err Bad))
tested_agrees more true x rest = refl
tested_agrees more false x rest = λ n. refl

pub when_steady : {A : Type 0} (test : A → Bool) (f : Reader A) → IsSteady f → IsSteady (when_at test f)
when_steady test f s bytes more =
    agrees_bind more (f bytes) (f (bytes ++ more)) (λ a. cond (test a.0) (Ok a) (Err Bad)) (s bytes more) (λ a rest. tested_agrees more (test a) a rest)

drawn_agrees : {B : Type 0} (more : List ℕ) (o : Option B) (rest : List ℕ) → Agrees more (or_bad o rest) (or_bad o (rest ++ more))
drawn_agrees more None rest = λ n. refl
drawn_agrees more (Some b) rest = refl

pub drawn_steady : {A B : Type 0} (make : A → Option B) (f : Reader A) → IsSteady f → IsSteady (drawn_at make f)
drawn_steady make f s bytes more =
    agrees_bind more (f bytes) (f (bytes ++ more)) (λ a. or_bad (make a.0) a.1) (s bytes more) (λ a rest. drawn_agrees more (make a) rest)

-- ---- parts of which a test chooses one

pub chosen_steady : {A : Type 0} (b : Bool) (f g : Reader A) → IsSteady f → IsSteady g → IsSteady (λ bytes. cond b (f bytes) (g bytes))
chosen_steady true f g s t = s
chosen_steady false f g s t = t

pub given_steady : {A : Type 0} (x : A) → IsSteady {A = A} (λ bytes. Ok (x, bytes))
given_steady x bytes more = refl

pub bad_steady : {A : Type 0} → IsSteady {A = A} (λ bytes. Err Bad)
bad_steady bytes more = λ n. refl

-- ---- many parts

pub rows_steady : {A : Type 0} (f : List A → Reader A) → ((before : List A) → IsSteady (f before)) → (before : List A) (n : ℕ) → IsSteady (rows_after f before n)
unfolding rows_after
rows_steady f s before zero bytes more = refl
rows_steady f s before (suc n) bytes more =
    agrees_bind more (f before bytes) (f before (bytes ++ more)) (λ a. rows_after f (before ++ a.0 ∷ []) n a.1) (s before bytes more)
    (λ a rest. rows_steady f s (before ++ a ∷ []) n rest more)

pub list_steady : {A : Type 0} (count : Reader ℕ) (f : List A → Reader A) → IsSteady count → ((before : List A) → IsSteady (f before)) → IsSteady (list_at count f)
list_steady count f c s bytes more =
    agrees_bind more (count bytes) (count (bytes ++ more)) (λ n. rows_after f [] n.0 n.1) (c bytes more) (λ n rest. rows_steady f s [] n rest more)

-- ---- bytes and numbers

pub byte_steady : IsSteady byte_at
byte_steady [] more = λ n. absurd (n refl)
byte_steady (b ∷ rest) more = refl

number_agrees : (w : Width) (bytes more : List ℕ) (b : Bool) → ltb (length bytes) (byte_len w) ≡ b
    → Agrees more (cond b (Err Cut) (Ok (from_be_bytes w (take (byte_len w) bytes), drop (byte_len w) bytes))) (number_at w (bytes ++ more))
number_agrees w bytes more true e = λ n. absurd (n refl)
number_agrees w bytes more false e =
    let long : byte_len w ≤ length bytes = ltb-false _ _ e in
    let longer : ltb (length (bytes ++ more)) (byte_len w) ≡ false = le-ltb _ _ (omega (arith, length-append bytes more)) in
    rw (longer, take-append-le, drop-append-le) refl

pub number_steady : (w : Width) → IsSteady (number_at w)
number_steady w bytes more = number_agrees w bytes more (ltb (length bytes) (byte_len w)) refl

bytes_agree : (n : ℕ) (bytes more : List ℕ) (b : Bool) → ltb (length bytes) n ≡ b
    → Agrees more (cond b (Err Cut) (Ok (take n bytes, drop n bytes))) (bytes_at n (bytes ++ more))
bytes_agree n bytes more true e = λ not-cut. absurd (not-cut refl)
bytes_agree n bytes more false e =
    let long : n ≤ length bytes = ltb-false _ _ e in
    let longer : ltb (length (bytes ++ more)) n ≡ false = le-ltb _ _ (omega (arith, length-append bytes more)) in
    rw (longer, take-append-le, drop-append-le) refl

pub bytes_steady : (n : ℕ) → IsSteady (bytes_at n)
bytes_steady n bytes more = bytes_agree n bytes more (ltb (length bytes) n) refl

pub string_steady : (count : Reader ℕ) → IsSteady count → IsSteady (string_at count)
string_steady count c bytes more =
    agrees_bind more (count bytes) (count (bytes ++ more)) (λ n. bytes_at n.0 n.1) (c bytes more) (λ n rest. bytes_steady n rest more)

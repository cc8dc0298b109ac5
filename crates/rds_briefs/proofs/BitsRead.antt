-- Bits that are read again.
use Rattle.std.proofs.Common.{◌≡◌, ℕ, ◌+◌, ◌-◌, ◌/◌, ◌%◌, ◌<◌, ◌≤◌, eqb, List, ◌∷◌, ◌++◌, Ok, Err, Result, refl, sym, subst, ◌∙◌, ap, arith}
use Rattle.rds_names.specs.declared.fault.Fault.{Fault}
use Rattle.rds_dots.specs.Dots.{Dots}
use Rattle.rds_bytes.specs.Reading.{byte_at}
use Rattle.rds_bytes.proofs.Format.{ok_is}
use Rattle.rds_briefs.specs.Lives.{Lives, byte_from, up_to_eight}
use Rattle.rds_briefs.specs.BriefTexts.{bits_text}
use Rattle.rds_briefs.specs.ReadLives.{HasLives}
use Rattle.rds_briefs.proofs.BitSteps.{next_byte, no_bits}
use Rattle.rds_briefs.proofs.ReadingLives.{lives_begin, lives_more, lowest, higher}

-- ---- in a byte

-- bits that were read up to a number, and those that are left
pub record IsByteRead (f : Lives) (replica p : ℕ) (old now : Dots) (bits seq left : ℕ) : Type 0 where
  pub told : bits ≡ byte_from f seq left
  pub lives : HasLives f replica p (seq - p) old now

pub byte_begins : (f : Lives) (replica p k byte : ℕ) (s : Dots) → byte ≡ byte_from f p k → IsByteRead f replica p s s byte p k
byte_begins f replica p k byte s is = record { told = is; lives = lives_begin f replica p s (p - p) (omega arith) }

pub byte_goes_on : (f : Lives) (replica p bits seq left : ℕ) (old now new : Dots) → p ≤ seq → 0 < left → IsByteRead f replica p old now bits seq left → HasLives (λ _. eqb (bits % 2) 1) replica seq 1 now new
    → IsByteRead f replica p old new (bits / 2) (seq + 1) (left - 1)
byte_goes_on f replica p bits seq left old now new from some is put =
    let at : seq ≡ p + (seq - p) = omega arith in
    let far : (seq - p) + 1 ≡ (seq + 1) - p = omega arith in
    let low = lowest f seq left bits some is.told in
    record {
      told = higher f seq left bits some is.told;
      lives = subst (λ (j : ℕ). HasLives f replica p j old new) far (lives_more f replica p seq (seq - p) 1 old now new (λ _. eqb (bits % 2) 1) at is.lives put (λ i q r. (let e : seq ≡ i = omega (arith, q, r) in sym low ∙ ap f e)));
    }

pub byte_ends : (f : Lives) (replica p bits seq left k : ℕ) (old now : Dots) → left ≡ 0 → seq + left ≡ p + k → IsByteRead f replica p old now bits seq left → HasLives f replica p k old now
byte_ends f replica p bits seq left k old now none place is = (let far : seq - p ≡ k = omega arith in subst (λ (j : ℕ). HasLives f replica p j old now) far is.lives)

-- ---- bytes

pub record AreBitsRead (f : Lives) (replica p : ℕ) (old now : Dots) (rest end : List ℕ) (seq left : ℕ) : Type 0 where
  pub bytes : rest ≡ bits_text f seq left ++ end
  pub lives : HasLives f replica p (seq - p) old now

pub bits_begin : (f : Lives) (replica p k : ℕ) (s : Dots) (bytes end : List ℕ) → bytes ≡ bits_text f p k ++ end → AreBitsRead f replica p s s bytes end p k
bits_begin f replica p k s bytes end is = record { bytes = is; lives = lives_begin f replica p s (p - p) (omega arith) }

-- a byte is there
pub no_byte : (bytes rest : List ℕ) (b : ℕ) (e : Fault) → bytes ≡ b ∷ rest → byte_at bytes ≡ Err e → ⊥
no_byte bytes rest b e is read = (let bad : ◌≡◌ {A = Result (ℕ × List ℕ) Fault} (Err e) (Ok (b, rest)) = sym read ∙ ap byte_at is in cc)

pub the_byte : (bytes after rest : List ℕ) (byte b : ℕ) → bytes ≡ b ∷ rest → byte_at bytes ≡ Ok (byte, after) → (byte ≡ b) × (after ≡ rest)
the_byte bytes after rest byte b is read =
    let e : (byte, after) ≡ (b, rest) = ok_is (byte, after) (b, rest) (sym read ∙ ap byte_at is) in
    (ap (λ (x : ℕ × List ℕ). x.0) e, ap (λ (x : ℕ × List ℕ). x.1) e)

module _ (f : Lives) (replica p : ℕ) (old now : Dots) (rest end : List ℕ) (seq left : ℕ) (is : AreBitsRead f replica p old now rest end seq left) where
  abbrev pub bits_behind : ℕ → List ℕ
  bits_behind n = bits_text f (seq + n) (left - n) ++ end

  pub bits_front : 0 < left → rest ≡ byte_from f seq (up_to_eight left) ∷ bits_behind (up_to_eight left)
  bits_front some = is.bytes ∙ ap (λ (l : List ℕ). l ++ end) (next_byte f seq left some)

  pub bits_go_on : (many : ℕ) (after : List ℕ) (new : Dots) → p ≤ seq → many ≡ up_to_eight left → after ≡ bits_behind (up_to_eight left) → HasLives f replica seq many now new → AreBitsRead f replica p old new after end (seq + many) (left - many)
  bits_go_on many after new from e rests put =
      let at : seq ≡ p + (seq - p) = omega arith in
      let far : (seq - p) + many ≡ (seq + many) - p = omega arith in
      record {
        bytes = rests ∙ ap bits_behind (sym e);
        lives = subst (λ (j : ℕ). HasLives f replica p j old new) far (lives_more f replica p seq (seq - p) many old now new f at is.lives put (λ i q r. refl));
      }

  pub bits_end : (k : ℕ) → left ≡ 0 → seq + left ≡ p + k → (rest ≡ end) × HasLives f replica p k old now
  bits_end k none place =
      let far : seq - p ≡ k = omega arith in
      (is.bytes ∙ ap (λ (l : List ℕ). l ++ end) (no_bits f seq left none), subst (λ (j : ℕ). HasLives f replica p j old now) far is.lives)

-- The first bytes of an input, by which a snapshot says its format.
use Rattle.std.proofs.Common.{◌≡◌, ℕ, ◌-◌, ◌<◌, ◌≤◌, inl, inr, ◌⊎◌, Bool, true, false, cond, ltb, List, ◌++◌, length, take, drop, Option, Some, None, Result, Ok, Err, refl, sym, ap, subst, ◌∙◌, arith}
use Rattle.std.specs.Prelude.{IfSome, if◌then◌else◌}
use Rattle.std.specs.Io.KnownBytes.{Consumes}
use Rattle.std.specs.Str.{bytes_eq}
use Rattle.std.proofs.lemmas.Bool.{ltb-true, ltb-false}
use Rattle.std.proofs.lemmas.Slice.Eq.{bytes_eq-Decides}
use Rattle.std.proofs.lemmas.List.{length-take, take_all}
use Rattle.rds_names.specs.declared.fault.Fault.{Fault}
use Rattle.rds_names.specs.declared.fault.Fault.TheVariants.{Cut, Bad}
use Rattle.rds_bytes.specs.Reading.{◌>>=◌, or_bad}
use Rattle.rds_codec.specs.FormatTexts.{format_of, format_at, magic_of}
use Rattle.rds_codec.specs.declared.formats.Format.{Format}
use Rattle.rds_codec.specs.declared.formats.Format.TheVariants.{One, Two}
use Rattle.rds_keep.specs.Counted.{most_read}
use Rattle.rds_keep.specs.Snapshots.{IsForeign, IsMagic, IsShort}

-- ---- the four bytes of a format

abbrev some : Format → Option Format
some f = Some f

abbrev none : Option Format
none = None

pub magic_has_four : (f : Format) → length (magic_of f) ≡ 4
magic_has_four One = refl
magic_has_four Two = refl

pub magic_says : (f : Format) → format_of (magic_of f) ≡ Some f
magic_says One = refl
magic_says Two = refl

which : (one two : Bool) (t : List ℕ) (f : Format) → bytes_eq (magic_of One) t ≡ one → bytes_eq (magic_of Two) t ≡ two → cond one (some One) (cond two (some Two) none) ≡ Some f → t ≡ magic_of f
which true two t f a b e = (let same : One ≡ f = cc in sym ((bytes_eq-Decides (magic_of One) t).0 a) ∙ ap magic_of same)
which false true t f a b e = (let same : Two ≡ f = cc in sym ((bytes_eq-Decides (magic_of Two) t).0 b) ∙ ap magic_of same)
which false false t f a b e = absurd (let no : ⊥ = cc in no)

says_magic : (t : List ℕ) (f : Format) → format_of t ≡ Some f → t ≡ magic_of f
says_magic t f e = which (bytes_eq (magic_of One) t) (bytes_eq (magic_of Two) t) t f refl refl e

-- ---- what reading a format says of the bytes

abbrev four_by : Bool → List ℕ → List ℕ → Result (List ℕ × List ℕ) Fault
four_by short t rest = if short then Err Cut else Ok (t, rest)

abbrev pub read_by : Bool → List ℕ → List ℕ → Result (Format × List ℕ) Fault
read_by short t rest = four_by short t rest >>= λ a. or_bad (format_of a.0) a.1

pub read_is : (bytes : List ℕ) → format_at bytes ≡ read_by (ltb (length bytes) 4) (take 4 bytes) (drop 4 bytes)
unfolding format_at
read_is bytes = refl

abbrev format_in : Result (Format × List ℕ) Fault → Option Format
format_in (Ok p) = Some p.0
format_in (Err e) = None

or_ok : (o : Option Format) (rest after : List ℕ) (f : Format) → or_bad o rest ≡ Ok (f, after) → o ≡ Some f
or_ok None rest after f e = ap format_in e
or_ok (Some g) rest after f e = ap format_in e

or_err : (o : Option Format) (rest : List ℕ) (e : Fault) → or_bad o rest ≡ Err e → (e ≡ Bad) × (o ≡ None)
or_err None rest e is = (let same : e ≡ Bad = cc in (same, refl))
or_err (Some g) rest e is = absurd (let no : ⊥ = cc in no)

pub or_none : (o : Option Format) (rest : List ℕ) → o ≡ None → or_bad o rest ≡ Err Bad
or_none None rest none = refl
or_none (Some g) rest none = absurd (let no : ⊥ = cc in no)

ok_by : (short : Bool) (t rest after : List ℕ) (f : Format) → read_by short t rest ≡ Ok (f, after) → format_of t ≡ Some f
ok_by true t rest after f is = absurd (let no : ⊥ = cc in no)
ok_by false t rest after f is = or_ok (format_of t) rest after f is

err_by : (short : Bool) (t rest : List ℕ) (e : Fault) → read_by short t rest ≡ Err e → ((e ≡ Cut) × (short ≡ true)) ⊎ ((e ≡ Bad) × (short ≡ false) × (format_of t ≡ None))
err_by true t rest e is = (let same : e ≡ Cut = cc in inl (same, refl))
err_by false t rest e is = (let no = or_err (format_of t) rest e is in inr (no.0, refl, no.1))

-- why the front of an input is refused
abbrev Refused : List ℕ → Fault → Type 0
Refused front e = ((e ≡ Cut) × (length front < 4)) ⊎ ((e ≡ Bad) × (4 ≤ length front) × (format_of (take 4 front) ≡ None))

refused_as : (front : List ℕ) (e : Fault) → format_at front ≡ Err e → Refused front e
refused_as front e is = elim (err_by (ltb (length front) 4) (take 4 front) (drop 4 front) e (sym (read_is front) ∙ is)) [
  | inl cut ↦ inl (cut.0, ltb-true (length front) 4 cut.1)
  | inr bad ↦ inr (bad.0, ltb-false (length front) 4 bad.1, bad.2)
]

-- ---- a front of four bytes at most

pub is_magic : (front after : List ℕ) (f : Format) → length front ≤ 4 → format_at front ≡ Ok (f, after) → IsMagic front
is_magic front after f le is =
    let says = ok_by (ltb (length front) 4) (take 4 front) (drop 4 front) after f (sym (read_is front) ∙ is) in
    (f, says_magic front f (subst (λ (t : List ℕ). format_of t ≡ Some f) (take_all 4 front le) says))

pub magic_is_four : (front : List ℕ) → IsMagic front → length front ≡ 4
magic_is_four front is = ap length is.1 ∙ magic_has_four is.0

pub refused_by : (front : List ℕ) (e : Fault) → format_at front ≡ Err e → (e ≡ Bad) ⊎ (e ≡ Cut)
refused_by front e is = elim (refused_as front e is) [ inl cut ↦ inr cut.0 | inr bad ↦ inl bad.0 ]

foreign : (input front : List ℕ) → front ≡ take 4 input → 4 ≤ length front → format_of (take 4 front) ≡ None → IsForeign input
foreign input front same le none =
    let few : length front ≤ 4 = omega (arith, ap length same, length-take 4 input) in
    let all : take 4 front ≡ take 4 input = take_all 4 front few ∙ same in
    (omega (arith, le, ap length same, length-take 4 input), subst (λ (t : List ℕ). format_of t ≡ None) all none)

pub is_foreign : (known : Option (List ℕ)) (front : List ℕ) (e : Fault) → IfSome known (λ input. front ≡ take 4 input) → format_at front ≡ Err e → e ≡ Bad → IfSome known IsForeign
is_foreign None front e same is bad = tt
is_foreign (Some input) front e same is bad = elim (refused_as front e is) [
  | inl cut ↦ absurd (let c = cut.0 in let no : ⊥ = cc in no)
  | inr why ↦ foreign input front same why.1 why.2
]

short : (input front : List ℕ) (budget left : ℕ) → front ≡ take 4 input → length front < 4 → length front ≤ most_read (budget - left) → IsShort budget input
short input front budget left same lt bound = (omega (arith, lt, ap length same, length-take 4 input), omega (arith, lt, ap length same, length-take 4 input, bound))

pub is_short : (known : Option (List ℕ)) (front : List ℕ) (e : Fault) (budget left : ℕ) → IfSome known (λ input. front ≡ take 4 input) → length front ≤ most_read (budget - left) → format_at front ≡ Err e → e ≡ Cut
    → IfSome known (IsShort budget)
is_short None front e budget left same bound is cut = tt
is_short (Some input) front e budget left same bound is cut = elim (refused_as front e is) [
  | inl why ↦ short input front budget left same why.1 bound
  | inr bad ↦ absurd (let b = bad.0 in let no : ⊥ = cc in no)
]

-- ---- what begins as a snapshot does

begins : (f : Format) (rest : List ℕ) → take 4 (magic_of f ++ rest) ≡ magic_of f
begins One rest = refl
begins Two rest = refl

pub none_foreign : (f : Format) (t : List ℕ) → t ≡ magic_of f → format_of t ≡ None → ⊥
none_foreign f t same none = let says = ap format_of same ∙ magic_says f in let no : ⊥ = cc in no

pub begins_own : (input front rest : List ℕ) → IsMagic front → input ≡ front ++ rest → IsForeign input → ⊥
begins_own input front rest is same foreign =
    none_foreign is.0 (take 4 input) (ap (take 4) (same ∙ ap (λ (t : List ℕ). t ++ rest) is.1) ∙ begins is.0 rest) foreign.1

pub never_foreign : (Q : Type 0) (first mid : Option (List ℕ)) (front : List ℕ) → IsMagic front → Consumes first mid front → IfSome first (λ input. IsForeign input → Q)
never_foreign Q None mid front is taken = tt
never_foreign Q (Some xs) None front is taken = absurd taken
never_foreign Q (Some xs) (Some ys) front is taken = λ foreign. absurd (begins_own xs front ys is taken foreign)

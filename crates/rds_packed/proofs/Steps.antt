-- Steps of reading and writing dots.
use Rattle.std.proofs.Common.{◌≡◌, ℕ, ◌-◌, Bool, true, false, cond, eqb, List, [], ◌∷◌, ◌++◌, Result, Ok, Err, refl, ap, ◌∙◌, append_assoc, arith}
use Rattle.std.specs.FinSet as set
use Rattle.std.proofs.lemmas.Bool.Decides.{nat_tests}
use Rattle.rds_names.specs.declared.fault.Fault.{Fault}
use Rattle.rds_names.specs.declared.fault.Fault.TheVariants.{Bad}
use Rattle.rds_names.specs.declared.entry.Entry.{Entry}
use Rattle.rds_dots.specs.declared.dot.Dot.{Dot}
use Rattle.rds_dots.specs.Dots.{Dots}
use Rattle.rds_bytes.specs.Packed.{packed_text_up_to, packed_at, packed_text}
use Rattle.rds_bytes.specs.Reading.{◌>>=◌, made_at, when_at, dot_by}
use Rattle.rds_bytes.specs.Writing.{Adds}
use Rattle.rds_packed.specs.PackedReading.{dot_before, place_after, step_by, dot_step_at, packed_dot_at}
use Rattle.rds_packed.specs.PackedTexts.{dot_step_text, other_place_text}

-- ---- texts

pub packed_zero : packed_text 0 ≡ 0 ∷ []
unfolding packed_text_up_to
packed_zero = refl

differs : (a b : ℕ) → (a ≡ b → ⊥) → (t : Bool) → eqb a b ≡ t → t ≡ false
differs a b h true e = absurd (h (grind (arith, nat_tests)))
differs a b h false e = refl

-- a dot of another replica
pub far_text : (from d : Dot) → (d.replica ≡ from.replica → ⊥) → dot_step_text from d ≡ 0 ∷ (d.replica ∷ packed_text d.seq)
far_text from d other =
    let no : eqb d.replica from.replica ≡ false = differs d.replica from.replica other (eqb d.replica from.replica) refl in
    let text : ℕ → List ℕ = λ n. packed_text n ++ other_place_text n (d.replica, d.seq) in
    ap (λ b. text (cond b (d.seq - from.seq) 0)) no ∙ ap (λ (t : List ℕ). t ++ (d.replica ∷ packed_text d.seq)) packed_zero

-- one text, another and a third
pub adds_three : {T E : Type 0} (r : Result T E) (old first second new x y z : List ℕ) → first ≡ old ++ x → second ≡ first ++ y → Adds second new z r → Adds old new (x ++ (y ++ z)) r
adds_three (Ok t) old first second new x y z p q last =
    last ∙ ap (λ (l : List ℕ). l ++ z) (q ∙ ap (λ (l : List ℕ). l ++ y) p) ∙ append_assoc (old ++ x) y z ∙ append_assoc old x (y ++ z)
adds_three (Err e) old first second new x y z p q last = tt

-- ---- reading

abbrev seen_only : Dots → Dot × List ℕ → Result (Dot × List ℕ) Fault
seen_only seen a = cond (set.contains seen a.0) (Ok a) (Err Bad)

abbrev Place : Type 0
Place = ℕ × ℕ

abbrev with_distance : ℕ → Place × List ℕ → Result ((ℕ × Place) × List ℕ) Fault
with_distance n b = Ok ((n, b.0), b.1)

abbrev dot_of_step : (ℕ × Place) × List ℕ → Result (Dot × List ℕ) Fault
dot_of_step a = Ok (step_by a.0, a.1)

abbrev dot_of_place : Place × List ℕ → Result (Dot × List ℕ) Fault
dot_of_place b = Ok (dot_by b.0, b.1)

in_two_steps : (seen : Dots) (n : ℕ) (r : Result (Place × List ℕ) Fault) → (((r >>= with_distance n) >>= dot_of_step) >>= seen_only seen) ≡ ((r >>= dot_of_place) >>= seen_only seen)
in_two_steps seen n (Ok x) = refl
in_two_steps seen n (Err e) = refl

module _ (seen : Dots) (before : List (Dot × Entry)) (bytes : List ℕ) where
  pub dot_fails : (e : Fault) → packed_at bytes ≡ Err e → packed_dot_at seen before bytes ≡ Err e
  unfolding packed_dot_at dot_step_at
  dot_fails e h = rw h refl

  -- after its distance
  pub dot_after : (n : ℕ) (rest : List ℕ) → packed_at bytes ≡ Ok (n, rest) → packed_dot_at seen before bytes ≡ when_at (set.contains seen) (made_at dot_by (place_after (dot_before before) n)) rest
  unfolding packed_dot_at dot_step_at
  dot_after n rest h = rw h (in_two_steps seen n (place_after (dot_before before) n rest))

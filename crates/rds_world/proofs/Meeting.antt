-- Rosters that begin one roster begin one another, and what is met by both is as long as the longer.
use Rattle.std.proofs.Common.{◌≡◌, ℕ, max, Bool, true, false, List, [], ◌∷◌, ◌++◌, length, Result, Ok, Err, IfOk, IfErr}
use Rattle.std.proofs.Common.{OnOk, refl, sym, ap, ◌∙◌, subst, inl, inr, ◌⊎◌, arith}
use Rattle.std.specs.Prelude.{nat_le, if◌then◌else◌}
use Rattle.std.proofs.lemmas.Bool.Decides.{nat_tests}
use Rattle.std.proofs.lemmas.List.{append_assoc}
use Rattle.rds_names.specs.Roster.{RosterValue, AreFirst, Begins, OneBegins, longer}
use Rattle.rds_names.specs.declared.fault.Fault.{Fault}
use Rattle.rds_world.specs.declared.event.Event.{Event}
use Rattle.rds_world.specs.declared.event.Event.TheVariants.{Edit, Save, Crash, Ask, Answer, Take, Grow}
use Rattle.rds_world.specs.declared.event.Done.{Done}
use Rattle.rds_world.specs.Events.{roster_after_event}
use Rattle.rds_world.specs.Steps.{IsStep, IsStopped}
use Rattle.rds_world.specs.Stored.{WorldValue}

pub begins_itself : (r : RosterValue) → Begins r r
begins_itself r = (refl, ([], sym (append_nil r.names)))
  where
    append_nil : (xs : List (List ℕ)) → xs ++ [] ≡ xs
    append_nil [] = refl
    append_nil (x ∷ xs) = ap (λ ys. x ∷ ys) (append_nil xs)

pub begins_on : (r s t : RosterValue) → Begins r s → Begins s t → Begins r t
begins_on r s t a b = (a.0 ∙ b.0, (a.1.0 ++ b.1.0, b.1.1 ∙ ap (λ xs. xs ++ b.1.0) a.1.1 ∙ append_assoc r.names a.1.0 b.1.0))

-- a step's roster begins with the one before it
pub begins_after : (r : RosterValue) (e : Event) → Begins r (roster_after_event r e)
begins_after r (Edit n c) = begins_itself r
begins_after r (Save n) = begins_itself r
begins_after r (Crash n) = begins_itself r
begins_after r (Ask n) = begins_itself r
begins_after r (Answer n k) = begins_itself r
begins_after r (Take k) = begins_itself r
begins_after r (Grow n name) = (refl, (name ∷ [], refl))

pub begins_then : (old new : WorldValue) (e : Event) (result : Result Done Fault) → IfOk result (λ done. IsStep old e done new) → IfErr result (λ fault. IsStopped old e fault new) → Begins old.roster new.roster
begins_then old new e (Ok done) ok err = subst (Begins old.roster) (sym ok.roster) (begins_after old.roster e)
begins_then old new e (Err fault) ok err = subst (λ (u : WorldValue). Begins old.roster u.roster) (sym err.same) (begins_itself old.roster)

pub roster_then : (old new : WorldValue) (e : Event) (result : Result Done Fault) → IfOk result (λ done. IsStep old e done new) → OnOk result (new.roster ≡ roster_after_event old.roster e)
roster_then old new e (Ok done) ok = ok.roster
roster_then old new e (Err fault) ok = tt

first_meet : (xs ys zs : List (List ℕ)) → AreFirst xs zs → AreFirst ys zs → AreFirst xs ys ⊎ AreFirst ys xs
first_meet [] ys zs a b = inl (ys, refl)
first_meet (x ∷ xs) [] zs a b = inr (x ∷ xs, refl)
first_meet (x ∷ xs) (y ∷ ys) [] a b = absurd (let bad : [] ≡ x ∷ (xs ++ a.0) = a.1 in cc)
first_meet (x ∷ xs) (y ∷ ys) (z ∷ zs) a b =
    let one : z ∷ zs ≡ x ∷ (xs ++ a.0) = a.1 in
    let two : z ∷ zs ≡ y ∷ (ys ++ b.0) = b.1 in
    let heads : x ≡ y = cc in
    let left : zs ≡ xs ++ a.0 = cc in
    let right : zs ≡ ys ++ b.0 = cc in
    elim (first_meet xs ys zs (a.0, left) (b.0, right)) [
      | inl c ↦ inl (c.0, (λ i. sym heads i ∷ c.1 i))
      | inr c ↦ inr (c.0, (λ i. heads i ∷ c.1 i))
    ]

pub one_begins : (r s t : RosterValue) → Begins r t → Begins s t → OneBegins r s
one_begins r s t a b = elim (first_meet r.names s.names t.names a.1 b.1) [
  | inl c ↦ inl (a.0 ∙ sym b.0, c)
  | inr c ↦ inr (b.0 ∙ sym a.0, c)
]

-- beginnings of one roster with as many names are equal
pub same_beginnings : (xs ys zs : List (List ℕ)) → AreFirst xs zs → AreFirst ys zs → length xs ≡ length ys → xs ≡ ys
same_beginnings [] [] zs a b len = refl
same_beginnings [] (y ∷ ys) zs a b len = absurd (omega (arith, len))
same_beginnings (x ∷ xs) [] zs a b len = absurd (omega (arith, len))
same_beginnings (x ∷ xs) (y ∷ ys) [] a b len = absurd (let bad : [] ≡ x ∷ (xs ++ a.0) = a.1 in cc)
same_beginnings (x ∷ xs) (y ∷ ys) (z ∷ zs) a b len =
    let one : z ∷ zs ≡ x ∷ (xs ++ a.0) = a.1 in
    let two : z ∷ zs ≡ y ∷ (ys ++ b.0) = b.1 in
    let heads : x ≡ y = cc in
    let left : zs ≡ xs ++ a.0 = cc in
    let right : zs ≡ ys ++ b.0 = cc in
    let tails = same_beginnings xs ys zs (a.0, left) (b.0, right) (omega (arith, len)) in
    λ i. heads i ∷ tails i

chosen_begins : (b : Bool) (r s t : RosterValue) → Begins r t → Begins s t → Begins (if b then r else s) t
chosen_begins true r s t a b = a
chosen_begins false r s t a b = b

pub longer_begins : (r s t : RosterValue) → Begins r t → Begins s t → Begins (longer r s) t
longer_begins r s t a b = chosen_begins (nat_le (length s.names) (length r.names)) r s t a b

chosen_length : (b : Bool) (r s : RosterValue) → nat_le (length s.names) (length r.names) ≡ b → length (if b then r else s).names ≡ max (length r.names) (length s.names)
chosen_length true r s e = grind (arith, nat_tests)
chosen_length false r s e = grind (arith, nat_tests)

pub longer_length : (r s : RosterValue) → length (longer r s).names ≡ max (length r.names) (length s.names)
longer_length r s = chosen_length (nat_le (length s.names) (length r.names)) r s refl

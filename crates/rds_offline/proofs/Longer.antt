-- The longer of two rosters.
use Rattle.std.proofs.Common.{◌≡◌, ◌∙◌, ◌+◌, ◌≤◌, ℕ, Bool, true, false, cond, nat_le, [], length, ap, append-nil, length-append, arith, refl, subst, sym, inl, inr}
use Rattle.std.proofs.lemmas.Bool.Decides.{nat_tests}
use Rattle.rds_names.specs.Roster.{Begins, OneBegins, RosterValue, longer}
use Rattle.rds_state.proofs.FitsLemmas.{fits_more}
use Rattle.rds_state.specs.Coordinates.{Coordinates}
use Rattle.rds_state.specs.Fits.{Fits}

begins_self : (r : RosterValue) → Begins r r
begins_self r = (refl, ([], sym (append-nil r.names)))

-- a roster that begins another has no more names
begins_length : (r s : RosterValue) → Begins r s → length r.names ≤ length s.names
begins_length r s b =
    let is : length s.names ≡ length r.names + length b.1.0 = ap length b.1.1 ∙ length-append r.names b.1.0 in
    omega (arith, is)

module _ (r s : RosterValue) where
  abbrev pub fits_first : Bool
  fits_first = nat_le (length s.names) (length r.names)

  abbrev chosen : Bool → RosterValue
  chosen b = cond b r s

  pub longer_begins : OneBegins r s → Begins r (longer r s)
  longer_begins (inl h) = by fits_first
    where
      by : (b : Bool) → Begins r (chosen b)
      by true = begins_self r
      by false = h
  longer_begins (inr h) = subst (λ b. Begins r (chosen b)) (sym (le_true _ _ (begins_length s r h))) (begins_self r)
    where
      le_true : (n m : ℕ) → n ≤ m → nat_le n m ≡ true
      le_true n m h = grind (arith, nat_tests)

  pub longer_fits : (t : RosterValue) (a : Coordinates) → t ≡ longer r s → Fits (length s.names) a → Fits (length t.names) a
  longer_fits t a is fits = subst (λ (x : RosterValue). Fits (length x.names) a) (sym is) (by fits_first refl)
    where
      le_of : (n m : ℕ) → nat_le n m ≡ true → n ≤ m
      le_of n m h = grind (arith, nat_tests)

      by : (b : Bool) → fits_first ≡ b → Fits (length (chosen b).names) a
      by true is = fits_more (length s.names) (length r.names) a (le_of (length s.names) (length r.names) is) fits
      by false is = fits

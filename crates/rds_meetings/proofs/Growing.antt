-- What changed a replica that took a delta.
use Rattle.std.proofs.Common.{◌≡◌, ◌≤◌, true, false, [], length, inl, inr, refl, sym, ap, subst, arith, length-append}
use Rattle.std.specs.Prelude.{nat_le}
use Rattle.std.proofs.lemmas.Bool.{cases_lt, lt-leb, le-leb}
use Rattle.std.proofs.lemmas.List.{append-nil}
use Rattle.rds_names.specs.Roster.{RosterValue, Begins, OneBegins, longer}
use Rattle.rds_state.specs.Fits.{Fits, ReplicaValue}
use Rattle.rds_state.specs.Value.{StateValue, coordinates, size}
use Rattle.rds_state.proofs.FitsLemmas.{fits_more}
use Rattle.rds_meetings.specs.Settling.{HasTaken, JoinsWith}

-- ---- rosters

begins_self : (r : RosterValue) → Begins r r
begins_self r = (refl, ([], sym (append-nil r.names)))

-- one begins the longer of the two
begins_longer : (r s : RosterValue) → OneBegins r s → Begins r (longer r s)
begins_longer r s one =
    elim (cases_lt (length r.names) (length s.names)) [
      | inl less ↦
          let test : nat_le (length s.names) (length r.names) ≡ false = lt-leb _ _ less in
          rw test (elim one [
            | inl begins ↦ begins
            | inr begun ↦ absurd (omega (arith, less, ap length begun.1.1, length-append s.names begun.1.0))
          ])
      | inr most ↦ let test : nat_le (length s.names) (length r.names) ≡ true = le-leb _ _ most in rw test (begins_self r)
    ]

most_names : (r s : RosterValue) → length s.names ≤ length (longer r s).names
most_names r s =
    elim (cases_lt (length r.names) (length s.names)) [
      | inl less ↦ let test : nat_le (length s.names) (length r.names) ≡ false = lt-leb _ _ less in rw test (omega arith)
      | inr most ↦ let test : nat_le (length s.names) (length r.names) ≡ true = le-leb _ _ most in rw test (omega (arith, most))
    ]

-- ---- changes

-- what took a delta that fits into the roster that came was changed by it
pub taken : (old : ReplicaValue) (came : RosterValue) (delta : StateValue) (new : ReplicaValue) → JoinsWith old came delta new → Fits (length came.names) (coordinates delta) → HasTaken old delta new
taken old came delta new joined fits = record {
  roster = refl;
  begins = subst (λ (r : RosterValue). Begins old.roster r) (sym joined.roster) (begins_longer old.roster came joined.rosters);
  own = joined.own;
  joined = joined.joined;
  fits = subst (λ (r : RosterValue). Fits (length r.names) (coordinates delta)) (sym joined.roster)
      (fits_more (length came.names) (length (longer old.roster came).names) (coordinates delta) (most_names old.roster came) fits);
}

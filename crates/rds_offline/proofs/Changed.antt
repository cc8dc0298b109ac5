-- What a replica took, as a change of it.
use Rattle.std.proofs.Common.{◌≡◌, ◌∙◌, ℕ, Bool, true, false, cond, nat_le, length, ap, refl, subst, sym}
use Rattle.std.specs.Prelude.{None, Some}
use Rattle.rds_names.specs.Roster.{Begins, OneBegins, RosterValue, longer}
use Rattle.rds_keep.specs.Changes.{ChangeValue, IsChanged, roster_after}
use Rattle.rds_state.specs.Coordinates.{join}
use Rattle.rds_state.specs.Fits.{Fits, ReplicaValue}
use Rattle.rds_state.specs.Value.{StateValue, coordinates}
use Rattle.rds_offline.proofs.Longer.{fits_first, longer_begins}

-- a delta that came with a roster, joined in
pub is_changed : (old new : ReplicaValue) (came : RosterValue) (delta : StateValue) (replicas : ℕ) (c : ChangeValue) → replicas ≡ length old.roster.names → c.roster ≡ cond (nat_le (length came.names) replicas) None (Some came) → c.delta ≡ delta
    → OneBegins old.roster came → new.roster ≡ longer old.roster came → new.own ≡ old.own → coordinates new.state ≡ join (coordinates old.state) (coordinates delta) → Fits (length new.roster.names) (coordinates delta) → IsChanged old c new
is_changed old new came delta replicas c many told is_delta rosters roster own joined fits = record {
  roster = roster ∙ after (fits_first old.roster came) ∙ ap (roster_after old.roster) (sym (told ∙ ap (λ (n : ℕ). cond (nat_le (length came.names) n) None (Some came)) many));
  begins = subst (Begins old.roster) (sym roster) (longer_begins old.roster came rosters);
  own = own;
  joined = joined ∙ ap (λ (d : StateValue). join (coordinates old.state) (coordinates d)) (sym is_delta);
  fits = subst (λ (d : StateValue). Fits (length new.roster.names) (coordinates d)) (sym is_delta) fits;
}
  where
    after : (b : Bool) → cond b old.roster came ≡ roster_after old.roster (cond b None (Some came))
    after true = refl
    after false = refl

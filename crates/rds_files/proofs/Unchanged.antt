-- What changes nothing.
use Rattle.std.proofs.Common.{◌≡◌, ℕ, None, sym, ap, ◌∙◌}
use Rattle.rds_names.specs.Roster.{RosterValue}
use Rattle.rds_state.specs.Fits.{ReplicaValue}
use Rattle.rds_state.specs.Value.{StateValue, size}
use Rattle.rds_state.proofs.JoinLaws.{same_value}
use Rattle.rds_state.proofs.Nothing.{joins_nothing}
use Rattle.rds_keep.specs.Changes.{ChangeValue, IsChanged, roster_after}

same_parts : (v w : ReplicaValue) → v.roster ≡ w.roster → v.own ≡ w.own → v.state ≡ w.state → v ≡ w
same_parts v w roster own state =
    ap (λ (r : RosterValue). let t : ReplicaValue = record { roster = r; own = v.own; state = v.state } in t) roster
    ∙ (ap (λ (n : ℕ). let t : ReplicaValue = record { roster = w.roster; own = n; state = v.state } in t) own
    ∙ ap (λ (s : StateValue). let t : ReplicaValue = record { roster = w.roster; own = w.own; state = s } in t) state)

-- nothing changes where no roster came, and no component
pub unchanged : (old : ReplicaValue) (c : ChangeValue) (new : ReplicaValue) → IsChanged old c new → c.roster ≡ None → size c.delta ≡ 0 → new ≡ old
unchanged old c new is none nothing =
    same_parts new old
    (is.roster ∙ ap (roster_after old.roster) none)
    is.own
    (same_value new.state old.state (is.joined ∙ sym (joins_nothing c.delta nothing old.state)))

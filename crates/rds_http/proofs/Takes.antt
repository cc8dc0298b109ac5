-- Takes that bring nothing.
use Rattle.std.proofs.Common.{◌≡◌, ◌∙◌, ℕ, ◌≤◌, Bool, true, false, List, cond, length, refl, sym, ap, arith}
use Rattle.std.specs.Prelude.{nat_le}
use Rattle.std.proofs.lemmas.Bool.{le-leb}
use Rattle.rds_names.specs.Roster.{RosterValue, longer}
use Rattle.rds_offline.specs.Letters.{IsTakenFrom, TakesResponse}
use Rattle.rds_questions.specs.Receiving.{ReceivedValue}
use Rattle.rds_state.specs.Fits.{ReplicaValue}
use Rattle.rds_state.specs.Value.{StateValue, size}
use Rattle.rds_state.proofs.JoinLaws.{same_value}
use Rattle.rds_state.proofs.Nothing.{joins_nothing}

of_test : (t : Bool) (r s : RosterValue) → nat_le (length s.names) (length r.names) ≡ t → length (cond t r s).names ≤ length r.names
    → cond t r s ≡ r
of_test true r s is few = refl
of_test false r s is few = absurd (cc (le-leb (length s.names) (length r.names) few, is))

-- a roster that isn't longer is the same
same_roster : (r s : RosterValue) → length (longer r s).names ≤ length r.names → longer r s ≡ r
same_roster r s few = of_test (nat_le (length s.names) (length r.names)) r s refl few

same_parts : (v w : ReplicaValue) → v.roster ≡ w.roster → v.own ≡ w.own → v.state ≡ w.state → v ≡ w
same_parts v w roster own state =
    ap (λ (r : RosterValue). let t : ReplicaValue = record { roster = r; own = v.own; state = v.state } in t) roster
    ∙ (ap (λ (n : ℕ). let t : ReplicaValue = record { roster = w.roster; own = n; state = v.state } in t) own
    ∙ ap (λ (s : StateValue). let t : ReplicaValue = record { roster = w.roster; own = w.own; state = s } in t) state)

taken_nothing : (received : ReceivedValue) (before after : ReplicaValue) → IsTakenFrom received before after → size received.delta ≡ 0
    → length after.roster.names ≤ length before.roster.names → after ≡ before
taken_nothing received before after taken none few =
    let names : length (longer before.roster received.roster).names ≤ length before.roster.names =
    rw (← taken.roster) few in
    same_parts after before
    (taken.roster ∙ same_roster before.roster received.roster names)
    taken.own
    (same_value after.state before.state (taken.joined ∙ sym (joins_nothing received.delta none before.state)))

-- where no component came, and no name, nothing changes
pub takes_nothing : (question answer : List ℕ) (before after : ReplicaValue) (components : ℕ) → TakesResponse question answer before after components → components ≡ 0
    → length after.roster.names ≡ length before.roster.names → after ≡ before
takes_nothing question answer before after components takes none same =
    taken_nothing takes.received before after takes.taken (sym takes.count ∙ none) (omega (arith, same))

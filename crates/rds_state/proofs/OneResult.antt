-- A merge, a take and an edit have one result each, where there is memory.
use Rattle.std.proofs.Common.{◌≡◌, ℕ, Option, Some, Result, Ok, Err, refl, sym, ◌∙◌, ap}
use Rattle.std.specs.Prelude.{◌≢◌}
use Rattle.rds_names.specs.declared.fault.Fault.{Fault}
use Rattle.rds_names.specs.declared.fault.Fault.TheVariants.{Memory}
use Rattle.rds_life.proofs.LivedLemmas.{one_answer}
use Rattle.rds_state.specs.Coordinates.{Coordinates, join}
use Rattle.rds_state.specs.Edit.{effect, refusal, IsDue, JoinsEffect}
use Rattle.rds_state.specs.Results.{IsEdited, IsJoined, IsMerged, IsTaken}
use Rattle.rds_state.specs.Value.{StateValue, coordinates}
use Rattle.rds_state.specs.declared.command.Command.{Command}
use Rattle.rds_state.specs.declared.command.Edited.{Edited}
use Rattle.rds_state.proofs.JoinLaws.{same_value}
use Rattle.rds_state.proofs.MadeLemmas.{made_is}
use Rattle.rds_state.proofs.OneAhead.{one_take}

one_state : (a b v w : StateValue) (r s : Result (Unit {0}) Fault) → r ≡ s → IsJoined a b r v → IsJoined a b s w → v ≡ w
one_state a b v w (Ok x) (Ok y) same one other = same_value v w (one.ok ∙ sym other.ok)
one_state a b v w (Ok x) (Err f) same one other = absurd (cc)
one_state a b v w (Err e) (Ok y) same one other = absurd (cc)
one_state a b v w (Err e) (Err f) same one other = one.err ∙ sym other.err

pub one_merge : (a b v w : StateValue) (r s : Result (Unit {0}) Fault) → IsMerged a b r v → IsMerged a b s w → r ≢ Err Memory → s ≢ Err Memory → (r ≡ s) × (v ≡ w)
one_merge a b v w r s one other room_r room_s =
    let same = one_answer a.lives b.lives r s one.gives other.gives room_r room_s in
    (same, one_state a b v w r s same one.joined other.joined)

pub one_taken : (a d v w : StateValue) (own : ℕ) (r s : Result (Unit {0}) Fault) → IsTaken a own d r v → IsTaken a own d s w → r ≢ Err Memory → s ≢ Err Memory → (r ≡ s) × (v ≡ w)
one_taken a d v w own r s one other room_r room_s =
    let same = one_take a own d r s one.gives other.gives room_r room_s in
    (same, one_state a d v w r s same one.joined other.joined)

-- a command has one effect
one_effect : (a b c : Coordinates) (own : ℕ) (command : Command) → JoinsEffect a own command b → JoinsEffect a own command c → b ≡ c
one_effect a b c own command one other =
    let same = made_is command one.made one.is_made ∙ sym (made_is command other.made other.is_made) in
    one.joined ∙ ap (λ made. join a (effect a own command made)) same ∙ sym other.joined

due_is : (due : Option Fault) (f : Fault) → IsDue due f → f ≢ Memory → due ≡ Some f
due_is due Memory is room = absurd (room refl)
due_is due f is room = is

pub one_edit : (a v w : StateValue) (own : ℕ) (command : Command) (r s : Result Edited Fault) → IsEdited a own command r v → IsEdited a own command s w → r ≢ Err Memory → s ≢ Err Memory → (r ≡ s) × (v ≡ w)
one_edit a v w own command (Ok x) (Ok y) one other _ _ =
    let dot : x.dot ≡ y.dot = one.dot ∙ sym other.dot in
    let killed : x.killed ≡ y.killed = one.killed ∙ sym other.killed in
    ((λ i. Ok (record { dot = dot i; killed = killed i })), same_value v w (one_effect (coordinates a) (coordinates v) (coordinates w) own command one.joined other.joined))
one_edit a v w own command (Ok x) (Err f) one other _ room =
    let due = due_is (refusal (coordinates a) own command) f other.due (λ is. room (ap Err is)) in absurd (cc (due, one.due))
one_edit a v w own command (Err e) (Ok y) one other room _ =
    let due = due_is (refusal (coordinates a) own command) e one.due (λ is. room (ap Err is)) in absurd (cc (due, other.due))
one_edit a v w own command (Err e) (Err f) one other room_e room_f =
    let first = due_is (refusal (coordinates a) own command) e one.due (λ is. room_e (ap Err is)) in
    let second = due_is (refusal (coordinates a) own command) f other.due (λ is. room_f (ap Err is)) in
    let same : e ≡ f = cc (first, second) in
    (ap Err same, one.err ∙ sym other.err)

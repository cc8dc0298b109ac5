-- A step of a world has one result, where there is memory.
use Rattle.std.proofs.Common.{◌≡◌, ℕ, ◌<◌, ◌∙◌, List, [], ◌∷◌, ◌++◌, length, Option, Some, None, Ok, Err, refl, sym, ap}
use Rattle.std.proofs.Common.{subst, slice_get}
use Rattle.std.specs.Prelude.{◌≢◌, nat_lt, is_some}
use Rattle.rds_names.specs.declared.fault.Fault.{Fault}
use Rattle.rds_names.specs.declared.fault.Fault.TheVariants.{Memory, TooLong}
use Rattle.rds_state.specs.Edit.{refusal}
use Rattle.rds_state.specs.Value.{StateValue, coordinates}
use Rattle.rds_state.specs.declared.command.Command.{Command}
use Rattle.rds_state.specs.declared.command.Edited.{Edited as Effected}
use Rattle.rds_world.specs.declared.event.Event.{Event}
use Rattle.rds_world.specs.declared.event.Event.TheVariants.{Edit, Save, Crash, Ask, Answer, Take, Grow}
use Rattle.rds_world.specs.declared.event.Done.{Done}
use Rattle.rds_world.specs.declared.event.Done.TheVariants.{Edited, Plain, Asked, Answered}
use Rattle.rds_world.specs.World.{World, Question, after, after_answer, refusal_of, reply, unless_there}
use Rattle.rds_world.specs.Stored.{WorldValue}
use Rattle.rds_world.specs.Stands.{HoldsAnswer, Stands}
use Rattle.rds_world.specs.Events.{IsAccepted, IsAnswerMade, IsDone, IsEffected, RefusesEvent, NoMemory, Due, Long}
use Rattle.rds_world.specs.Steps.{StepsHaveOneResult}
use Rattle.rds_world.proofs.Coherent.{is_there, there}
use Rattle.rds_world.proofs.Tables.{get_last, matched_at, member_there, same_some, together_some}
use Rattle.rds_world.proofs.Values.{one_value}

-- ---- what an event did

edited_is : (v : WorldValue) (w : World) (r : ℕ) (c : Command) (a : Done) → IsDone v w (Edit r c) a → (e : Effected) × (a ≡ Edited e) × IsEffected v w r c e
edited_is v w r c (Edited e) h = (e, refl, h)
edited_is v w r c a h = absurd h

saved_is : (v : WorldValue) (w : World) (r : ℕ) (a : Done) → IsDone v w (Save r) a → a ≡ Plain
saved_is v w r Plain h = refl
saved_is v w r a h = absurd h

crashed_is : (v : WorldValue) (w : World) (r : ℕ) (a : Done) → IsDone v w (Crash r) a → a ≡ Plain
crashed_is v w r Plain h = refl
crashed_is v w r a h = absurd h

asked_is : (v : WorldValue) (w : World) (r : ℕ) (a : Done) → IsDone v w (Ask r) a → a ≡ Asked (length w.asks)
asked_is v w r (Asked k) h = ap Asked h
asked_is v w r a h = absurd h

answered_is : (v : WorldValue) (w : World) (s k : ℕ) (a : Done) → IsDone v w (Answer s k) a → (at many : ℕ) × (a ≡ Answered at many) × IsAnswerMade w s k at many
answered_is v w s k (Answered at many) h = (at, many, refl, h)
answered_is v w s k a h = absurd h

taken_is : (v : WorldValue) (w : World) (k : ℕ) (a : Done) → IsDone v w (Take k) a → a ≡ Plain
taken_is v w k Plain h = refl
taken_is v w k a h = absurd h

grown_is : (v : WorldValue) (w : World) (r : ℕ) (name : List ℕ) (a : Done) → IsDone v w (Grow r name) a → a ≡ Plain
grown_is v w r name Plain h = refl
grown_is v w r name a h = absurd h

one_edit : (v : WorldValue) (w : World) (r : ℕ) (c : Command) → r < length v.memory → (d e : Effected) → IsEffected v w r c d → IsEffected v w r c e → d ≡ e
one_edit v w r c below d e h k =
    let here = member_there v.memory r below in
    let dot : d.dot ≡ e.dot = h.dot ∙ sym k.dot in
    let killed : d.killed ≡ e.killed = h.killed here.0 here.1 ∙ sym (k.killed here.0 here.1) in
    λ i. record { dot = dot i; killed = killed i }

asked_there : (o : Option Question) → unless_there (is_some o) None ≡ None → (q : Question) × (o ≡ Some q)
asked_there None h = absurd cc
asked_there (Some q) h = (q, refl)

-- the delta of a new answer is that of a state
delta_there : (x : WorldValue) (w : World) (s k : ℕ) (o : Option Question) (q : Question) → o ≡ Some q → Stands x (after_answer w s k o) → (d : StateValue) × (coordinates d ≡ (reply w s k q).state)
delta_there x w s k None q is t = absurd cc
delta_there x w s k (Some p) q is t =
    let answers = w.answers ++ reply w s k p ∷ [] in
    let both = matched_at (HoldsAnswer x.roster w.asks) answers x.answers (length w.answers) t.answers in
    let held = together_some (HoldsAnswer x.roster w.asks) (slice_get answers (length w.answers)) (slice_get x.answers (length w.answers)) (reply w s k p) both (get_last w.answers (reply w s k p)) in
    (held.2.value, held.2.state ∙ ap (λ (y : Question). (reply w s k y).state) (same_some p q is))

one_answer : (x : WorldValue) (w : World) (s k : ℕ) → refusal_of w (Answer s k) ≡ None → Stands x (after w (Answer s k)) → (i j m n : ℕ) → IsAnswerMade w s k i m → IsAnswerMade w s k j n → Answered i m ≡ Answered j n
one_answer x w s k due t i j m n h g =
    let asked = asked_there (slice_get w.asks k) (there (nat_lt s w.replicas) (unless_there (is_some (slice_get w.asks k)) None) due) in
    let delta = delta_there x w s k (slice_get w.asks k) asked.0 asked.1 t in
    let number : i ≡ j = h.number ∙ sym g.number in
    let many : m ≡ n = h.components asked.0 delta.0 asked.1 delta.1 ∙ sym (g.components asked.0 delta.0 asked.1 delta.1) in
    λ z. Answered (number z) (many z)

-- what an event did that isn't refused
one_done : (v x : WorldValue) (w : World) (e : Event) → Stands v w → Stands x (after w e) → refusal_of w e ≡ None → (a b : Done) → IsDone v w e a → IsDone v w e b → a ≡ b
one_done v x w (Edit r c) s t due a b h k =
    let below = is_there r w.replicas (refusal (w.memory r) r c) due in
    let first = edited_is v w r c a h in
    let second = edited_is v w r c b k in
    first.1 ∙ ap Edited (one_edit v w r c (subst (λ (n : ℕ). r < n) s.replicas below) first.0 second.0 first.2 second.2) ∙ sym second.1
one_done v x w (Save r) s t due a b h k = saved_is v w r a h ∙ sym (saved_is v w r b k)
one_done v x w (Crash r) s t due a b h k = crashed_is v w r a h ∙ sym (crashed_is v w r b k)
one_done v x w (Ask r) s t due a b h k = asked_is v w r a h ∙ sym (asked_is v w r b k)
one_done v x w (Answer r j) s t due a b h k =
    let first = answered_is v w r j a h in
    let second = answered_is v w r j b k in
    first.2 ∙ one_answer x w r j due t first.0 second.0 first.1 second.1 first.3 second.3 ∙ sym second.2
one_done v x w (Take k) s t due a b h g = taken_is v w k a h ∙ sym (taken_is v w k b g)
one_done v x w (Grow r name) s t due a b h k = grown_is v w r name a h ∙ sym (grown_is v w r name b k)

-- ---- why an event is refused

-- what is accepted is refused with Memory alone
accepted_too : (v : WorldValue) (w : World) (e : Event) → IsAccepted v w e → (f : Fault) → RefusesEvent v w e f
    → f ≡ Memory
accepted_too v w e a f (NoMemory due takes) = refl
accepted_too v w e a f (Due g is) = absurd (cc (is, a.due))
accepted_too v w e a f (Long due long) = absurd (a.short long)

data Why (v : WorldValue) (w : World) (e : Event) (f : Fault) : Type 0 where
  by_memory : f ≡ Memory → Why v w e f
  by_model : refusal_of w e ≡ Some f → Why v w e f
  by_length : refusal_of w e ≡ None → f ≡ TooLong → Why v w e f

why : (v : WorldValue) (w : World) (e : Event) (f : Fault) → RefusesEvent v w e f → Why v w e f
why v w e f (NoMemory due takes) = by_memory refl
why v w e f (Due g is) = by_model is
why v w e f (Long due long) = by_length due refl

one_fault : (v : WorldValue) (w : World) (e : Event) (f g : Fault) → f ≢ Memory → g ≢ Memory → Why v w e f → Why v w e g → f ≡ g
one_fault v w e f g room_f room_g (by_memory is) _ = absurd (room_f is)
one_fault v w e f g room_f room_g (by_model is) (by_memory memory) = absurd (room_g memory)
one_fault v w e f g room_f room_g (by_model is) (by_model other) = same_some f g (sym is ∙ other)
one_fault v w e f g room_f room_g (by_model is) (by_length due long) = absurd (cc (is, due))
one_fault v w e f g room_f room_g (by_length due long) (by_memory memory) = absurd (room_g memory)
one_fault v w e f g room_f room_g (by_length due long) (by_model other) = absurd (cc (due, other))
one_fault v w e f g room_f room_g (by_length due long) (by_length again too) = long ∙ sym too

pub one_step : StepsHaveOneResult
one_step v x y w e (Ok a) (Ok b) s one other _ _ =
    let done = one_done v x w e s (one.stands w s) (one.accepted w s).due a b (one.done w s) (other.done w s) in
    (ap Ok done, one_value x y (after w e) (one.roster ∙ sym other.roster) (one.stands w s) (other.stands w s))
one_step v x y w e (Ok a) (Err g) s one other _ room = absurd (room (ap Err (accepted_too v w e (one.accepted w s) g (other.refused w s))))
one_step v x y w e (Err f) (Ok b) s one other room _ = absurd (room (ap Err (accepted_too v w e (other.accepted w s) f (one.refused w s))))
one_step v x y w e (Err f) (Err g) s one other room_f room_g =
    let same = one_fault v w e f g (λ is. room_f (ap Err is)) (λ is. room_g (ap Err is)) (why v w e f (one.refused w s)) (why v w e g (other.refused w s)) in
    (ap Err same, one.same ∙ sym other.same)

-- What the law says of the states of the model's world holds of the replicas that stand for them.
use Rattle.std.proofs.Common.{◌≡◌, ℕ, ◌<◌, ◌≤◌, ◌∙◌, true, Ok, Err, List, [], length, map, Some, None, refl, sym, ap, subst}
use Rattle.std.proofs.Common.{inl, inr, slice_get}
use Rattle.std.specs.Prelude.{is_some}
use Rattle.rds_names.specs.Roster.{RosterValue}
use Rattle.rds_state.specs.Coordinates.{Coordinates, AtMost, AreCompatible, join}
use Rattle.rds_state.specs.Fits.{ReplicaValue}
use Rattle.rds_state.specs.Friends.{AreFriends, KnowsItsOwn}
use Rattle.rds_state.specs.Value.{coordinates}
use Rattle.rds_state.proofs.JoinLaws.{same_value}
use Rattle.rds_codec.specs.AnswerTexts.{answer, answer_text}
use Rattle.rds_world.specs.declared.event.Event.{Event}
use Rattle.rds_world.specs.World.{World, Happening, Of, lend, reply}
use Rattle.rds_world.specs.Coherent.{IsCoherent, Position, AtMemory, AtKept, Store, Memory, Kept, state_at_position}
use Rattle.rds_world.specs.Coherent.{state_in}
use Rattle.rds_world.specs.Law.{Law, world_after, held_after, held_in, bases_after, effects_after}
use Rattle.rds_world.specs.Reached.{AnswersBringTheirAskers, OfAnswered, ReplicasAreCoherent, ReplicasAreJoins}
use Rattle.rds_world.specs.Reached.{ReplicasExplainTheirDots, ReplicasShowTheirUpdates, ReplicasStayFriends}
use Rattle.rds_world.specs.Reached.{SameUpdatesSameReplicas, replicas_in}
use Rattle.rds_world.specs.Simulation.{Reaches}
use Rattle.rds_world.specs.Stands.{HoldsAnswer, state_of}
use Rattle.rds_world.specs.Stored.{WorldValue}
use Rattle.rds_world.specs.Updates.{IsExplained, IsJoinOf, ShowsUpdates}
use Rattle.rds_world.proofs.Friends.{kept_known}
use Rattle.rds_world.proofs.Simulated.{obeyed, of_stored, stored}
use Rattle.rds_world.proofs.Tables.{matched_at, member_there, together_some}

-- a state of a world has a position there
position_of : Store → ℕ → Position
position_of Memory r = AtMemory r
position_of Kept r = AtKept r

at_position : (w : World) (x : Store) (r : ℕ) → state_at_position w (position_of x r) ≡ Some (state_in w x r)
unfolding position_of
at_position w Memory r = refl
at_position w Kept r = refl

module _ (roster : RosterValue) (events : List Event) (v : WorldValue) (r : Reaches roster events v) where
  abbrev es : List Happening
  es = map Of events

  abbrev w : World
  w = world_after roster.names es

  abbrev its : Law roster.names es
  its = obeyed roster events v r

  abbrev coherent : IsCoherent w
  coherent = its.coherent

  pub joins_here : ReplicasAreJoins roster.names es v
  joins_here x k m at = of_stored roster events v r (IsJoinOf (effects_after roster.names es) (held_in (held_after es) x k)) x k m at (its.joins x k)

  pub documents_here : length roster.names ≤ 256 → ReplicasShowTheirUpdates roster.names es v
  documents_here few x k m at = of_stored roster events v r (ShowsUpdates (held_after es).update (held_after es).size (held_in (held_after es) x k)) x k m at (its.documents few x k)

  pub same_here : SameUpdatesSameReplicas roster.names es v
  same_here x y k j a b at_a at_b held = same_value a.state b.state (sym (stored roster events v r x k a at_a) ∙ its.same x y k j held ∙ stored roster events v r y j b at_b)

  pub dots_here : ReplicasExplainTheirDots roster.names es v
  dots_here x k m d at seen =
      let there = subst (λ (a : Coordinates). is_some (a.life d) ≡ true) (sym (stored roster events v r x k m at)) seen in
      of_stored roster events v r (λ a. IsExplained (held_after es).update (bases_after roster.names es) (held_in (held_after es) x k) a d) x k m at (its.dots x k d there)

  coherent_here : ReplicasAreCoherent v
  coherent_here = record {
    compatible = λ x y k j a b at_a at_b.
        let both = coherent.compatible (position_of x k) (position_of y j) (state_in w x k) (state_in w y j) (at_position w x k) (at_position w y j) in
        of_stored roster events v r (λ c. AreCompatible c (coordinates b.state)) x k a at_a (of_stored roster events v r (AreCompatible (state_in w x k)) y j b at_b both);
    kept_below = λ k m n at_m at_n. of_stored roster events v r (λ c. AtMost c (coordinates m.state)) Kept k n at_n (of_stored roster events v r (AtMost (w.kept k)) Memory k m at_m (coherent.kept_below k));
    known = λ x k j a n apart at_a at_n.
        of_stored roster events v r (λ c. KnowsItsOwn j c (coordinates a.state)) Kept j n at_n (of_stored roster events v r (KnowsItsOwn j (w.kept j)) x k a at_a (kept_known w coherent x k j apart));
  }

  friends_here : ReplicasStayFriends v
  friends_here x y k j a b apart at_a at_b =
      of_stored roster events v r (λ c. AreFriends k c j (coordinates b.state)) x k a at_a (of_stored roster events v r (AreFriends k (state_in w x k) j) y j b at_b (its.friends x y k j apart))

  pub answers_here : AnswersBringTheirAskers roster.names es v
  answers_here before later s k q is e =
      let old = world_after roster.names before in
      let at = length old.answers in
      let brings = its.answers before later s k q is e in
      let ask = coherent.answers_its at (reply old s k q) brings.stands in
      let below : q.asker < w.replicas = subst (λ n. n < w.replicas) (sym ask.asker) (coherent.askers (reply old s k q).question ask.question ask.asked) in
      let asker = member_there v.memory q.asker (subst (λ n. q.asker < n) r.stands.replicas below) in
      let memory : w.memory q.asker ≡ coordinates asker.0.state = r.stands.memory q.asker ∙ ap state_of asker.1 in
      let both = matched_at (HoldsAnswer v.roster w.asks) w.answers v.answers at r.stands.answers in
      let held = together_some (HoldsAnswer v.roster w.asks) (slice_get w.answers at) (slice_get v.answers at) (reply old s k q) both brings.stands in
      record {
        asker = asker.0;
        in_memory = asker.1;
        text = held.0;
        there = held.1;
        delta = held.2.value;
        rows = held.2.rows;
        bytes = held.2.text ∙ ap (λ (n : ℕ). answer_text (answer n held.2.value held.2.rows)) held.2.asker;
        compatible = subst (λ (c : Coordinates). AreCompatible c (old.kept s)) memory brings.compatible;
        effect = ap (λ (c : Coordinates). join c (coordinates held.2.value)) (sym memory) ∙ ap (λ (c : Coordinates). join (w.memory q.asker) c) held.2.state ∙ brings.effect
            ∙ ap (λ (c : Coordinates). join c (old.kept s)) memory;
        least = λ c compatible same. subst (λ (d : Coordinates). AtMost d c) (sym held.2.state) (brings.least c compatible same);
      }

-- ---- whether all events happened or not

-- of the world that is answered, in each case
answered : (P : WorldValue → Type 0) → ((roster : RosterValue) (es : List Event) (v : WorldValue) → Reaches roster es v → P v) → ((v : WorldValue) → v.memory ≡ [] → v.kept ≡ [] → P v) → OfAnswered P
answered P here empty roster es (Ok v) reached stopped = here roster es v reached
answered P here empty roster es (Err e) reached stopped = elim stopped [ inl x ↦ here roster x.before e.0 x.reached | inr x ↦ empty e.0 x.memory x.kept ]

none_there : {P : Type 0} (v : WorldValue) → v.memory ≡ [] → v.kept ≡ [] → (x : Store) (k : ℕ) (m : ReplicaValue) → slice_get (replicas_in v x) k ≡ Some m → P
none_there v memory kept Memory k m at = let bad : None ≡ Some m = ap (λ (xs : List ReplicaValue). slice_get xs k) (sym memory) ∙ at in absurd cc
none_there v memory kept Kept k m at = let bad : None ≡ Some m = ap (λ (xs : List ReplicaValue). slice_get xs k) (sym kept) ∙ at in absurd cc

pub coherent_answered : OfAnswered ReplicasAreCoherent
coherent_answered = answered ReplicasAreCoherent coherent_here (λ v memory kept. record {
  compatible = λ x y k j a b at_a at_b. none_there v memory kept x k a at_a;
  kept_below = λ k m n at_m at_n. none_there v memory kept Memory k m at_m;
  known = λ x k j a n apart at_a at_n. none_there v memory kept x k a at_a;
})

pub friends_answered : OfAnswered ReplicasStayFriends
friends_answered = answered ReplicasStayFriends friends_here (λ v memory kept x y k j a b apart at_a at_b. none_there v memory kept x k a at_a)

-- A run goes on by one event; and what holds of the model's run holds of the world that stands for it.
use Rattle.std.proofs.Common.{◌≡◌, Result, Ok, Err, IfOk, IfErr, MatchResult, ℕ, ◌<◌, ◌≤◌, ◌+◌, suc, zero, List, []}
use Rattle.std.proofs.Common.{◌∷◌, ◌++◌, length, map, take, drop, get_or, Option, Some, None, refl, sym, ap, ◌∙◌, subst}
use Rattle.std.proofs.Common.{arith, slice_get, inl, inr}
use Rattle.std.proofs.lemmas.List.{take_more}
use Rattle.rds_names.specs.Roster.{RosterValue}
use Rattle.rds_names.specs.declared.fault.Fault.{Fault}
use Rattle.rds_state.specs.Coordinates.{Coordinates}
use Rattle.rds_state.specs.Fits.{ReplicaValue}
use Rattle.rds_state.specs.Value.{coordinates}
use Rattle.rds_world.specs.declared.event.Event.{Event}
use Rattle.rds_world.specs.declared.event.Event.TheVariants.{Edit, Save, Crash, Ask, Answer, Take, Grow}
use Rattle.rds_world.specs.World.{World, Of, Question, Reply, after, after_answer, after_take, run, initial_world, Accepted}
use Rattle.rds_world.specs.Coherent.{Store, Memory, Kept, state_in}
use Rattle.rds_world.specs.Events.{IsAccepted, RefusesEvent, roster_after_event}
use Rattle.rds_world.specs.Law.{Afterwards, Law, bases_after, held_after, world_after}
use Rattle.rds_world.specs.Reached.{replicas_in}
use Rattle.rds_world.specs.Replies.{EachAnswerIsCertified}
use Rattle.rds_world.specs.Simulation.{roster_with_names, AllHappen, Happens, Reaches, Stops}
use Rattle.rds_world.specs.Stands.{state_of, Stands}
use Rattle.rds_world.specs.Stored.{AnswerText, WorldValue}
use Rattle.rds_world.proofs.Answering.{each_answer_brings, each_lent_brings}
use Rattle.rds_world.proofs.Certified.{each_certified}
use Rattle.rds_world.proofs.Coherent.{coherent_start, run_coherent}
use Rattle.rds_world.proofs.Counters.{store_shows}
use Rattle.rds_world.proofs.Facts.{store_join, explained, same_states}
use Rattle.rds_world.proofs.Friends.{friends}
use Rattle.rds_world.proofs.Rosters.{few_run, rosters_start, run_rosters}
use Rattle.rds_world.proofs.Steps.{lawful}

-- ---- one event more

pub reaches_start : (roster : RosterValue) (v : WorldValue) (es : List Event) → es ≡ [] → v.roster ≡ roster → Stands v (initial_world roster.names) → Reaches roster es v
reaches_start roster v es is same s = subst (λ fs. Reaches roster fs v) (sym is) (record { happened = tt; stands = s; of_roster = same })

answer_roster : (w : World) (s k : ℕ) (o : Option Question) → (after_answer w s k o).roster ≡ w.roster
answer_roster w s k None = refl
answer_roster w s k (Some q) = refl

take_roster : (w : World) (o : Option Reply) → (after_take w o).roster ≡ w.roster
take_roster w None = refl
take_roster w (Some m) = refl

pub roster_goes_on : (roster : RosterValue) (w : World) (e : Event) → roster_with_names roster (after w e) ≡ roster_after_event (roster_with_names roster w) e
roster_goes_on roster w (Edit r c) = refl
roster_goes_on roster w (Save r) = refl
roster_goes_on roster w (Crash r) = refl
roster_goes_on roster w (Ask r) = refl
roster_goes_on roster w (Answer s k) = ap (λ names. record roster { names = names }) (answer_roster w s k (slice_get w.asks k))
roster_goes_on roster w (Take k) = ap (λ names. record roster { names = names }) (take_roster w (slice_get w.answers k))
roster_goes_on roster w (Grow r name) = refl

happens_last : (roster : RosterValue) (es : List Event) (e : Event) (w : World) → AllHappen roster es w → Happens roster (run (map Of es) w) e → AllHappen roster (es ++ e ∷ []) w
happens_last roster [] e w all last = (last, tt)
happens_last roster (x ∷ es) e w all last = (all.0, happens_last roster es e (after w x) all.1 last)

-- what happens, the model doesn't refuse
accepted_by_model : (roster : RosterValue) (es : List Event) (w : World) → AllHappen roster es w → Accepted (map Of es) w
accepted_by_model roster [] w all = tt
accepted_by_model roster (e ∷ es) w all = (all.0.accepted.due, accepted_by_model roster es (after w e) all.1)

run_last : (es : List Event) (e : Event) (w : World) → run (map Of (es ++ e ∷ [])) w ≡ after (run (map Of es) w) e
run_last [] e w = refl
run_last (x ∷ es) e w = run_last es e (after w x)

module _ (roster : RosterValue) (xs : List Event) (i : ℕ) (e : Event) (lt : i < length xs) (is : get_or xs i e ≡ e) (v : WorldValue) (reached : Reaches roster (take i xs) v) where
  abbrev n : List (List ℕ)
  n = roster.names

  abbrev w : World
  w = world_after n (map Of (take i xs))

  pub reaches_more : (u : WorldValue) → u.roster ≡ roster_after_event v.roster e → IsAccepted v w e → Stands u (after w e) → Reaches roster (take (i + 1) xs) u
  reaches_more u same accepted stands =
      let more : take (i + 1) xs ≡ take i xs ++ e ∷ [] = take_more xs i e lt ∙ ap (λ x. take i xs ++ x ∷ []) is in
      let last : world_after n (map Of (take i xs ++ e ∷ [])) ≡ after w e = run_last (take i xs) e (initial_world n) in
      subst (λ es. Reaches roster es u) (sym more) (record {
        happened = happens_last roster (take i xs) e (initial_world n) reached.happened (record { value = v; of_roster = reached.of_roster; stands = reached.stands; accepted = accepted });
        stands = subst (Stands u) (sym last) stands;
        of_roster = same ∙ ap (λ r. roster_after_event r e) reached.of_roster ∙ sym (roster_goes_on roster w e) ∙ ap (roster_with_names roster) (sym last);
      })

  pub stops_here : (u : WorldValue) (f : Fault) → u ≡ v → RefusesEvent v w e f → Stops roster xs u f
  stops_here u f same refused = inl (record {
    before = take i xs;
    last = e;
    later = drop (suc i) xs;
    whole = split xs i e lt is;
    reached = subst (Reaches roster (take i xs)) (sym same) reached;
    refused = subst (λ z. RefusesEvent z w e f) (sym same) refused;
  })
    where
      split : (xs : List Event) (i : ℕ) (e : Event) → i < length xs → get_or xs i e ≡ e → xs ≡ take i xs ++ e ∷ drop (suc i) xs
      split [] i e lt is = absurd (omega (arith, lt))
      split (x ∷ xs) zero e lt is = ap (λ y. y ∷ xs) is
      split (x ∷ xs) (suc i) e lt is = ap (λ ys. x ∷ ys) (split xs i e (omega (arith, lt)) is)

-- ---- the law

pub law_holds : Afterwards Law
law_holds n es a =
    let coherent = run_coherent es (initial_world n) (coherent_start n) a in
    let its = lawful n es a in
    record {
      coherent = coherent;
      rosters = run_rosters es (initial_world n) (rosters_start n) a;
      friends = friends (world_after n es) coherent;
      joins = store_join (held_after es).update (bases_after n es) (held_after es) (world_after n es) its;
      dots = explained (held_after es).update (bases_after n es) (held_after es) (world_after n es) its;
      documents = λ le. store_shows (held_after es).update (bases_after n es) (held_after es) (world_after n es) its 256 refl (few_run es (initial_world n) (rosters_start n) a le);
      same = same_states (held_after es).update (bases_after n es) (held_after es) (world_after n es) its;
      answers = each_answer_brings n es a;
      lent = each_lent_brings n es a;
    }

-- ---- the world that was reached

module _ (roster : RosterValue) (es : List Event) (v : WorldValue) (r : Reaches roster es v) where
  pub obeyed : Law roster.names (map Of es)
  obeyed = law_holds roster.names (map Of es) (accepted_by_model roster es (initial_world roster.names) r.happened)

  pub stored : (x : Store) (k : ℕ) (m : ReplicaValue) → slice_get (replicas_in v x) k ≡ Some m → state_in (world_after roster.names (map Of es)) x k ≡ coordinates m.state
  stored Memory k m e = r.stands.memory k ∙ ap state_of e
  stored Kept k m e = r.stands.kept k ∙ ap state_of e

  -- what the law says of a state, it says of the replica that stands for it
  pub of_stored : (P : Coordinates → Type 0) (x : Store) (k : ℕ) (m : ReplicaValue) → slice_get (replicas_in v x) k ≡ Some m → P (state_in (world_after roster.names (map Of es)) x k) → P (coordinates m.state)
  of_stored P x k m e = subst P (stored x k m e)

  certified_where : EachAnswerIsCertified v
  certified_where = each_certified v (record { world = world_after roster.names (map Of es); stands = r.stands; coherent = obeyed.coherent; rosters = obeyed.rosters })

no_answers : (v : WorldValue) → v.answers ≡ [] → EachAnswerIsCertified v
no_answers v is k a e = let bad : None ≡ Some a = ap (λ (xs : List AnswerText). slice_get xs k) (sym is) ∙ e in cc

-- in a world that was reached, to the end or not, the certificate of each answer is accepted
pub certified : (roster : RosterValue) (es : List Event) (r : Result WorldValue (WorldValue × Fault)) → IfOk r (λ v. Reaches roster es v) → IfErr r (λ e. Stops roster es e.0 e.1)
    → MatchResult r EachAnswerIsCertified (λ e. EachAnswerIsCertified e.0)
certified roster es (Ok v) h s = certified_where roster es v h
certified roster es (Err e) h s = elim s [ inl x ↦ certified_where roster x.before e.0 x.reached | inr x ↦ no_answers e.0 x.answers ]

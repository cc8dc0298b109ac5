-- What edits do to a world, and how changes of a file end in it.
use Rattle.std.proofs.Common.{◌≡◌, ◌≢◌, ◌<◌, ◌∙◌, ℕ, true, List, [], ◌∷◌, ◌++◌, length, ltb, refl, sym, ap, subst}
use Rattle.std.proofs.lemmas.Bool.{lt-ltb}
use Rattle.rds_names.specs.Roster.{RosterValue}
use Rattle.rds_state.specs.Coordinates.{Coordinates}
use Rattle.rds_state.specs.Fits.{ReplicaValue}
use Rattle.rds_state.specs.Value.{coordinates}
use Rattle.rds_state.specs.declared.command.Command.{Command}
use Rattle.rds_world.specs.World.{World, Happening, Of, Accepted, after, after_edit, run}
use Rattle.rds_world.specs.declared.event.Event.TheVariants.{Crash, Edit, Save}
use Rattle.rds_world.proofs.Runs.{accepted_on, run_on}
use Rattle.rds_world.proofs.Tables.{put_here, put_there}
use Rattle.rds_world.specs.Replicas.{AreDone, IsInMemory, IsKeptIn, IsMadeBy, LeadsTo, MakeInMemory, edits}

-- ---- edits

-- the one replica's memory has come to this state, and all else is as it was
record Edits (w u : World) (r : ℕ) (b : Coordinates) : Type 0 where
  replicas : u.replicas ≡ w.replicas
  names : u.memory_names r ≡ w.memory_names r
  state : u.memory r ≡ b
  kept : u.kept ≡ w.kept
  kept_names : u.kept_names ≡ w.kept_names

edits_run : (commands : List Command) (w : World) (r : ℕ) (b : Coordinates) → r < w.replicas → AreDone r (w.memory r) commands b → Accepted (edits r commands) w × Edits w (run (edits r commands) w) r b
edits_run [] w r b there same = (tt, record { replicas = refl; names = refl; state = sym same; kept = refl; kept_names = refl })
edits_run (c ∷ commands) w r b there done =
    let w1 : World = after w (Edit r c) in
    let now : w1.memory r ≡ after_edit (w.memory r) r c = put_here w.memory r (after_edit (w.memory r) r c) in
    let test : ltb r w.replicas ≡ true = lt-ltb _ _ there in
    let later = edits_run commands w1 r b there (subst (λ (a : Coordinates). AreDone r a commands b) (sym now) done.1) in
    let its = later.1 in
    ((rw test done.0, later.0), record { replicas = its.replicas; names = its.names; state = its.state; kept = its.kept; kept_names = its.kept_names })

-- commands make in memory what they made of the replica there
pub edits_in_memory : (w : World) (before : ReplicaValue) (commands : List Command) (v : ReplicaValue) → IsInMemory w before → IsMadeBy before commands v → MakeInMemory w (edits before.own commands) v
edits_in_memory w before commands v held made =
    let r : ℕ = before.own in
    let u : World = run (edits r commands) w in
    let all = edits_run commands w r (coordinates v.state) held.there (subst (λ (a : Coordinates). AreDone r a commands (coordinates v.state)) (sym held.state) made.done) in
    let its = all.1 in
    record {
      accepted = all.0;
      replicas = its.replicas;
      names = ap u.memory_names made.own ∙ its.names ∙ held.names ∙ ap (λ (s : RosterValue). length s.names) (sym made.roster);
      state = ap u.memory made.own ∙ its.state;
      kept = its.kept;
      kept_names = its.kept_names;
    }

-- what was kept is read again by a crash
pub read_again : (w : World) (v : ReplicaValue) → IsKeptIn w v → IsInMemory (after w (Crash v.own)) v
read_again w v keeps = record {
  there = keeps.there;
  names = put_here w.memory_names v.own (w.kept_names v.own) ∙ keeps.names;
  state = put_here w.memory v.own (w.kept v.own) ∙ keeps.state;
}

pub edits_make : (w : World) (before : ReplicaValue) (commands : List Command) (v : ReplicaValue) → IsKeptIn w before → IsMadeBy before commands v → MakeInMemory (after w (Crash before.own)) (edits before.own commands) v
edits_make w before commands v keeps made = edits_in_memory (after w (Crash before.own)) before commands v (read_again w before keeps) made

-- ---- how changes end

-- what comes behind is accepted there, and leads where it leads
module _ (w : World) (before : ReplicaValue) (events : List Happening) (keeps : IsKeptIn w before) (accepted : Accepted events (after w (Crash before.own))) where
  abbrev r : ℕ
  r = before.own

  abbrev w0 : World
  w0 = after w (Crash before.own)

  abbrev u : World
  u = run events w0

  abbrev all : List Happening → List Happening
  all ending = Of (Crash r) ∷ (events ++ ending)

  leads : (ending : List Happening) (v : ReplicaValue) → Accepted ending u → IsKeptIn (run ending u) v → ((s : ℕ) → s ≢ v.own → (run ending u).kept s ≡ w.kept s) → LeadsTo w (all ending) v
  leads ending v ends kept others =
      let test : ltb r w.replicas ≡ true = lt-ltb _ _ keeps.there in
      let same : run (all ending) w ≡ run ending u = run_on events ending w0 in
      record {
        accepted = (rw test refl, (accepted_on events ending w0).1 (accepted, ends));
        kept = subst (λ (x : World). IsKeptIn x v) (sym same) kept;
        others = λ s other. ap (λ (x : World). x.kept s) same ∙ others s other;
      }

module _ (w : World) (before after_it : ReplicaValue) (events : List Happening) (keeps : IsKeptIn w before) (own : after_it.own ≡ before.own) (made : MakeInMemory (after w (Crash before.own)) events after_it) where
  abbrev mid : World
  mid = run events (after w (Crash before.own))

  replicas : mid.replicas ≡ w.replicas
  replicas = made.replicas

  there : before.own < mid.replicas
  there = subst (λ (n : ℕ). before.own < n) (sym replicas) keeps.there

  test : ltb before.own mid.replicas ≡ true
  test = lt-ltb _ _ there

  abbrev saved_world : World
  saved_world = after mid (Save before.own)

  saved_there : IsKeptIn saved_world after_it
  saved_there = record {
    there = subst (λ (n : ℕ). n < mid.replicas) (sym own) there;
    names = ap saved_world.kept_names own ∙ put_here mid.kept_names before.own (mid.memory_names before.own) ∙ ap mid.memory_names (sym own) ∙ made.names;
    state = ap saved_world.kept own ∙ put_here mid.kept before.own (mid.memory before.own) ∙ ap mid.memory (sym own) ∙ made.state;
  }

  saved_others : (s : ℕ) → s ≢ after_it.own → saved_world.kept s ≡ w.kept s
  saved_others s other = put_there mid.kept before.own (mid.memory before.own) s (λ same. other (same ∙ sym own)) ∙ ap (λ (f : ℕ → Coordinates). f s) made.kept

  -- acknowledged
  pub saved : LeadsTo w (Of (Crash before.own) ∷ (events ++ Of (Save before.own) ∷ [])) after_it
  saved = leads w before events keeps made.accepted (Of (Save before.own) ∷ []) after_it (rw test refl, tt) saved_there saved_others

  -- there, though it wasn't
  pub found : LeadsTo w (Of (Crash before.own) ∷ (events ++ Of (Save before.own) ∷ Of (Crash before.own) ∷ [])) after_it
  found =
      leads w before events keeps made.accepted (Of (Save before.own) ∷ Of (Crash before.own) ∷ []) after_it (rw test refl, (rw test refl, tt))
      (record { there = saved_there.there; names = saved_there.names; state = saved_there.state }) saved_others

  -- gone
  pub lost : LeadsTo w (Of (Crash before.own) ∷ (events ++ Of (Crash before.own) ∷ [])) before
  lost =
      leads w before events keeps made.accepted (Of (Crash before.own) ∷ []) before (rw test refl, tt)
      (record { there = there; names = ap (λ (f : ℕ → ℕ). f before.own) made.kept_names ∙ keeps.names; state = ap (λ (f : ℕ → Coordinates). f before.own) made.kept ∙ keeps.state })
      (λ s other. ap (λ (f : ℕ → Coordinates). f s) made.kept)

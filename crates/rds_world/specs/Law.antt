-- The law over all lists of events.
use Rattle.std.specs.Prelude.{◌≡◌, ℕ, ◌≤◌, Bool, true, is_some, length, List, ◌∷◌, ◌++◌, Some, slice_get}
use Rattle.rds_dots.specs.declared.dot.Dot.{Dot}
use Rattle.rds_state.specs.Coordinates.{Coordinates, AtMost, AreCompatible, join}
use Rattle.rds_world.specs.declared.event.Event.TheVariants.{Answer}
use Rattle.rds_world.specs.World.{World, Happening, Of, AnswerLent, Question, empty, initial_world, lend, reply_from, run}
use Rattle.rds_world.specs.World.{Accepted}
use Rattle.rds_world.specs.Held.{Holdings, nothing_held, holdings_after}
use Rattle.rds_world.specs.Coherent.{Store, Memory, Kept, state_in, HasRosters, IsCoherent, ReplicasAreFriends}
use Rattle.rds_world.specs.Updates.{bases, effect_of, IsJoinOf, IsExplained, ShowsUpdates}

-- what is said of these first names and of what happens where nothing is refused
abbrev pub Afterwards : (List (List ℕ) → List Happening → Type 0) → Type 0
Afterwards P = (ns : List (List ℕ)) (es : List Happening) → Accepted es (initial_world ns) → P ns es

abbrev pub world_after : List (List ℕ) → List Happening → World
world_after ns es = run es (initial_world ns)

abbrev pub held_after : List Happening → Holdings
held_after es = holdings_after es nothing_held

abbrev pub bases_after : List (List ℕ) → List Happening → ℕ → Coordinates
bases_after ns es = bases es (λ u. empty) nothing_held (initial_world ns)

abbrev pub effects_after : List (List ℕ) → List Happening → ℕ → Coordinates
effects_after ns es = effect_of (held_after es).update (bases_after ns es)

-- which updates a replica's memory holds, or what it has kept
abbrev pub held_in : Holdings → Store → ℕ → ℕ → Bool
held_in h Memory r = h.memory r
held_in h Kept r = h.kept r

-- which updates are held there after the events, and the state
abbrev pub held_at : List Happening → Store → ℕ → ℕ → Bool
held_at es = held_in (held_after es)

abbrev pub state_after : List (List ℕ) → List Happening → Store → ℕ → Coordinates
state_after ns es = state_in (world_after ns es)

-- The answer, of what was lent, to ask k has this number for good. The asker's memory has a join with what was lent, and that
-- is its join with the delta, which lies below every state with this effect on the asked state.
pub record BringsWhatWasKept (later : World) (number : ℕ) (lent : Question) (k : ℕ) (q : Question) : Type 0 where
  pub stands : slice_get later.answers number ≡ Some (reply_from lent k q)
  pub compatible : AreCompatible (later.memory q.asker) lent.state
  pub effect : join (later.memory q.asker) (reply_from lent k q).state ≡ join (later.memory q.asker) lent.state
  pub least : (c : Coordinates) → AreCompatible q.state c → join q.state c ≡ join q.state lent.state
      → AtMost (reply_from lent k q).state c

-- what holds after this has happened to a group that began with these names
pub record Law (ns : List (List ℕ)) (es : List Happening) : Type 0 where
  -- what every event keeps of the states, and of the rosters beside them
  pub coherent : IsCoherent (world_after ns es)
  pub rosters : HasRosters (world_after ns es)
  -- every state of one replica and every state of another are friends
  pub friends : ReplicasAreFriends (world_after ns es)
  -- each state is the join of the effects of the updates that it holds
  pub joins : (x : Store) (r : ℕ) → IsJoinOf (effects_after ns es) (held_at es x r) (state_after ns es x r)
  -- each seen dot is that of one update held, and dead exactly where an update held that held that one covers its entry
  pub dots : (x : Store) (r : ℕ) (d : Dot) → is_some ((state_after ns es x r).life d) ≡ true
      → IsExplained (held_after es).update (bases_after ns es) (held_at es x r) (state_after ns es x r) d
  -- each document is that of the updates held; a roster names at most 256 replicas
  pub documents : length ns ≤ 256 → (x : Store) (r : ℕ)
      → ShowsUpdates (held_after es).update (held_after es).size (held_at es x r) (state_after ns es x r)
  -- states that hold the same updates are equal
  pub same : (x y : Store) (r s : ℕ) → ((u : ℕ) → held_at es x r u ≡ held_at es y s u)
      → state_after ns es x r ≡ state_after ns es y s
  -- each answer brings what its maker had kept, at the answer or when it asked
  pub answers : (before later : List Happening) (s k : ℕ) (q : Question) → es ≡ before ++ Of (Answer s k) ∷ later
      → slice_get (world_after ns before).asks k ≡ Some q
      → BringsWhatWasKept (world_after ns es) (length (world_after ns before).answers) (lend (world_after ns before) s) k q
  pub lent : (before later : List Happening) (j k : ℕ) (p q : Question) → es ≡ before ++ AnswerLent j k ∷ later
      → slice_get (world_after ns before).asks j ≡ Some p → slice_get (world_after ns before).asks k ≡ Some q
      → BringsWhatWasKept (world_after ns es) (length (world_after ns before).answers) p k q

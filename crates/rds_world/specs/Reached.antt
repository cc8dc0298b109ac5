-- The law, as it is of the replicas that a list of events leaves.
use Rattle.std.specs.Prelude.{◌≡◌, ◌≢◌, ◌≤◌, ℕ, true, is_some, length, List, ◌∷◌, ◌++◌, Some, map, slice_get}
use Rattle.std.specs.Prelude.{Result, IfOk, IfErr, MatchResult}
use Rattle.rds_dots.specs.declared.dot.Dot.{Dot}
use Rattle.rds_names.specs.declared.fault.Fault.{Fault}
use Rattle.rds_names.specs.Roster.{RosterValue}
use Rattle.rds_state.specs.Coordinates.{Coordinates, AtMost, AreCompatible, join}
use Rattle.rds_state.specs.Fits.{ReplicaValue}
use Rattle.rds_state.specs.Friends.{AreFriends, KnowsItsOwn}
use Rattle.rds_state.specs.Value.{StateValue, coordinates}
use Rattle.rds_delta.specs.declared.row.Row.{Row}
use Rattle.rds_codec.specs.AnswerTexts.{answer, answer_text}
use Rattle.rds_world.specs.declared.event.Event.{Event}
use Rattle.rds_world.specs.declared.event.Event.TheVariants.{Answer}
use Rattle.rds_world.specs.World.{World, Happening, Of, Question}
use Rattle.rds_world.specs.Stored.{AnswerText, WorldValue}
use Rattle.rds_world.specs.Coherent.{Store, Memory as InMemory, Kept as AsKept}
use Rattle.rds_world.specs.Law.{world_after, held_after, held_at, bases_after, effects_after}
use Rattle.rds_world.specs.Simulation.{Reaches, Stops}
use Rattle.rds_world.specs.Updates.{IsExplained, IsJoinOf, ShowsUpdates}

-- what is said of each world that was reached; a roster names at most 256 replicas
abbrev pub OfReached : (List (List ℕ) → List Happening → WorldValue → Type 0) → Type 0
OfReached P = (roster : RosterValue) (es : List Event) (v : WorldValue) → length roster.names ≤ 256 → Reaches roster es v
    → P roster.names (map Of es) v

-- what is said of each world that is answered, whether all events happened or not
abbrev pub OfAnswered : (WorldValue → Type 0) → Type 0
OfAnswered P = (roster : RosterValue) (es : List Event) (result : Result WorldValue (WorldValue × Fault))
    → IfOk result (λ v. Reaches roster es v) → IfErr result (λ e. Stops roster es e.0 e.1) → MatchResult result P (λ e. P e.0)

abbrev pub replicas_in : WorldValue → Store → List ReplicaValue
replicas_in v InMemory = v.memory
replicas_in v AsKept = v.kept

-- each replica's state is the join of the effects of the updates that it holds
abbrev pub ReplicasAreJoins : List (List ℕ) → List Happening → WorldValue → Type 0
ReplicasAreJoins ns es v = (x : Store) (r : ℕ) (m : ReplicaValue) → slice_get (replicas_in v x) r ≡ Some m
    → IsJoinOf (effects_after ns es) (held_at es x r) (coordinates m.state)

-- each replica's document is that of the updates that it holds
abbrev pub ReplicasShowTheirUpdates : List (List ℕ) → List Happening → WorldValue → Type 0
ReplicasShowTheirUpdates ns es v = (x : Store) (r : ℕ) (m : ReplicaValue) → slice_get (replicas_in v x) r ≡ Some m
    → ShowsUpdates (held_after es).update (held_after es).size (held_at es x r) (coordinates m.state)

-- replicas that hold the same updates have equal states
abbrev pub SameUpdatesSameReplicas : List (List ℕ) → List Happening → WorldValue → Type 0
SameUpdatesSameReplicas ns es v = (x y : Store) (r s : ℕ) (a b : ReplicaValue) → slice_get (replicas_in v x) r ≡ Some a
    → slice_get (replicas_in v y) s ≡ Some b → ((u : ℕ) → held_at es x r u ≡ held_at es y s u) → a.state ≡ b.state

-- every two states are compatible, what is kept lies below memory, and what others have of a replica, it has kept
pub record ReplicasAreCoherent (v : WorldValue) : Type 0 where
  pub compatible : (x y : Store) (r s : ℕ) (a b : ReplicaValue) → slice_get (replicas_in v x) r ≡ Some a
      → slice_get (replicas_in v y) s ≡ Some b → AreCompatible (coordinates a.state) (coordinates b.state)
  pub kept_below : (r : ℕ) (m k : ReplicaValue) → slice_get v.memory r ≡ Some m → slice_get v.kept r ≡ Some k
      → AtMost (coordinates k.state) (coordinates m.state)
  pub known : (x : Store) (r s : ℕ) (a k : ReplicaValue) → r ≢ s → slice_get (replicas_in v x) r ≡ Some a
      → slice_get v.kept s ≡ Some k → KnowsItsOwn s (coordinates k.state) (coordinates a.state)

-- every state of one replica and every state of another are friends
abbrev pub ReplicasStayFriends : WorldValue → Type 0
ReplicasStayFriends v = (x y : Store) (r s : ℕ) (a b : ReplicaValue) → r ≢ s → slice_get (replicas_in v x) r ≡ Some a
    → slice_get (replicas_in v y) s ≡ Some b → AreFriends r (coordinates a.state) s (coordinates b.state)

-- each dot that a replica has seen is that of one update that it holds
abbrev pub ReplicasExplainTheirDots : List (List ℕ) → List Happening → WorldValue → Type 0
ReplicasExplainTheirDots ns es v = (x : Store) (r : ℕ) (m : ReplicaValue) (d : Dot)
    → slice_get (replicas_in v x) r ≡ Some m → is_some ((coordinates m.state).life d) ≡ true
    → IsExplained (held_after es).update (bases_after ns es) (held_at es x r) (coordinates m.state) d

-- The bytes of the answer that s made in a world are the text of a delta. What the asker has in memory has a join with
-- what s had kept, and that is its join with the delta, which lies below every state with this effect on the asked
-- state.
pub record BringsItsAsker (v : WorldValue) (w : World) (s : ℕ) (q : Question) : Type 0 where
  pub asker : ReplicaValue
  pub in_memory : slice_get v.memory q.asker ≡ Some asker
  pub text : AnswerText
  pub there : slice_get v.answers (length w.answers) ≡ Some text
  pub delta : StateValue
  pub rows : List Row
  pub bytes : text.bytes ≡ answer_text (answer q.asker delta rows)
  pub compatible : AreCompatible (coordinates asker.state) (w.kept s)
  pub effect : join (coordinates asker.state) (coordinates delta) ≡ join (coordinates asker.state) (w.kept s)
  pub least : (c : Coordinates) → AreCompatible q.state c → join q.state c ≡ join q.state (w.kept s)
      → AtMost (coordinates delta) c

-- so of each answer among the events
abbrev pub AnswersBringTheirAskers : List (List ℕ) → List Happening → WorldValue → Type 0
AnswersBringTheirAskers ns es v = (before later : List Happening) (s k : ℕ) (q : Question)
    → es ≡ before ++ Of (Answer s k) ∷ later → slice_get (world_after ns before).asks k ≡ Some q
    → BringsItsAsker v (world_after ns before) s q

-- Which world of the model the replicas, asks and answers that code holds stand for.
use Rattle.std.specs.Prelude.{◌≡◌, ◌⊎◌, ◌≤◌, ◌<◌, ℕ, max, List, Option, Some, None, length, take, slice_get}
use Rattle.std.specs.List.{AllZip}
use Rattle.std.specs.FinMap as map
use Rattle.rds_names.specs.Roster.{RosterValue, Begins}
use Rattle.rds_state.specs.Coordinates.{Coordinates}
use Rattle.rds_state.specs.Fits.{ReplicaValue}
use Rattle.rds_state.specs.Value.{StateValue, coordinates}
use Rattle.rds_delta.specs.declared.row.Row.{Row}
use Rattle.rds_delta.specs.Claims.{IsCertificate}
use Rattle.rds_delta.specs.Digested.{DigestValue, IsInside, ranks_in}
use Rattle.rds_delta.specs.Ranks.{ranks}
use Rattle.rds_codec.specs.AnswerTexts.{IsAnswerOf, answer, answer_text}
use Rattle.rds_codec.specs.DigestTexts.{IsDigestOf, digest_text}
use Rattle.rds_codec.specs.declared.limits.TheConstants.{LIMIT}
use Rattle.rds_world.specs.World.{World, Question, Reply, empty}
use Rattle.rds_world.specs.Coherent.{IsCoherent, HasRosters}
use Rattle.rds_world.specs.Stored.{AskText, AnswerText, WorldValue}

-- a replica's state, and the empty one where no replica is
abbrev pub state_of : Option ReplicaValue → Coordinates
state_of None = empty
state_of (Some m) = coordinates m.state

-- The bytes are the text of a digest with the ranks of the asked state, among the replicas that the asker's roster named.
pub record HoldsAsk (q : Question) (a : AskText) : Type 0 where
  pub asker : a.asker ≡ q.asker
  pub names : a.names ≡ q.names
  pub digest : DigestValue
  pub ranks : ranks_in digest ≡ ranks q.state
  pub inside : IsInside digest.live digest.seen
  pub text : a.bytes ≡ digest_text digest
  pub within : length a.bytes ≤ LIMIT
  pub again : IsDigestOf q.names digest

-- The bytes are the text of the asker, the answer's state and the certificate of that against what was asked from,
-- among the replicas of the longer of the two rosters.
pub record HoldsAnswer (roster : RosterValue) (asks : List Question) (m : Reply) (a : AnswerText) : Type 0 where
  pub question : a.question ≡ m.question
  pub asker : a.asker ≡ m.asker
  pub begins : Begins a.roster roster
  pub names : length a.roster.names ≡ m.names
  pub asked : Question
  pub ask : slice_get asks m.question ≡ Some asked
  pub value : StateValue
  pub state : coordinates value ≡ m.state
  pub rows : List Row
  pub certificate : IsCertificate (ranks asked.state) value rows
  pub text : a.bytes ≡ answer_text (answer a.asker value rows)
  pub within : length a.bytes ≤ LIMIT
  pub again : IsAnswerOf (max m.names asked.names) (answer a.asker value rows)

-- each replica's roster begins the world's, and its number is its place
abbrev pub AreAtTheirPlaces : RosterValue → List ReplicaValue → Type 0
AreAtTheirPlaces roster replicas = (r : ℕ) (m : ReplicaValue) → slice_get replicas r ≡ Some m → Begins m.roster roster × (m.own ≡ r)

-- each replica's roster has so many names
abbrev pub HaveNames : (ℕ → ℕ) → List ReplicaValue → Type 0
HaveNames names replicas = (r : ℕ) (m : ReplicaValue) → slice_get replicas r ≡ Some m → length m.roster.names ≡ names r

-- The replicas are the roster's, with their numbers; their rosters are as long as the model's, and their states are its
-- states; and the bytes are the texts of its asks and answers.
pub record Stands (v : WorldValue) (w : World) : Type 0 where
  pub roster : w.roster ≡ take (length v.memory) v.roster.names
  pub replicas : w.replicas ≡ length v.memory
  pub same_length : length v.kept ≡ length v.memory
  pub memory_places : AreAtTheirPlaces v.roster v.memory
  pub kept_places : AreAtTheirPlaces v.roster v.kept
  pub memory_names : HaveNames w.memory_names v.memory
  pub kept_names : HaveNames w.kept_names v.kept
  pub memory : (r : ℕ) → w.memory r ≡ state_of (slice_get v.memory r)
  pub kept : (r : ℕ) → w.kept r ≡ state_of (slice_get v.kept r)
  pub asks : AllZip HoldsAsk w.asks v.asks
  pub answers : AllZip (HoldsAnswer v.roster w.asks) w.answers v.answers

-- of one roster, one value alone stands for a world of the model
abbrev pub WorldsHaveOneValue : Type 0
WorldsHaveOneValue = (v u : WorldValue) (w : World) → v.roster ≡ u.roster → Stands v w → Stands u w → v ≡ u

-- a coherent world of the model that the value stands for, with its rosters
pub record HasModel (v : WorldValue) : Type 0 where
  pub world : World
  pub stands : Stands v world
  pub coherent : IsCoherent world
  pub rosters : HasRosters world

-- who asked is of the roster, and so is who asked for an answer, whose ask is there and whose maker's roster begins the world's
abbrev pub AreAsks : WorldValue → Type 0
AreAsks v = (k : ℕ) (a : AskText) → slice_get v.asks k ≡ Some a → a.asker < length v.memory

abbrev pub AreAnswers : WorldValue → Type 0
AreAnswers v = (k : ℕ) (a : AnswerText) → slice_get v.answers k ≡ Some a → (a.asker < length v.memory) × ((a.question < length v.asks) × Begins a.roster v.roster)

-- one replica for each name of the roster, or none at all
abbrev pub IsWhole : RosterValue → List ReplicaValue → Type 0
IsWhole roster replicas = (length replicas ≡ 0) ⊎ (length replicas ≡ length roster.names)

-- what a world in code always is: whole in memory and as kept; and some coherent world is that which it stands for
pub record IsWorld (v : WorldValue) : Type 0 where
  pub memory : AreAtTheirPlaces v.roster v.memory
  pub kept : AreAtTheirPlaces v.roster v.kept
  pub same_length : length v.kept ≡ length v.memory
  pub whole : IsWhole v.roster v.memory
  pub asks : AreAsks v
  pub answers : AreAnswers v
  pub model : ∥ HasModel v ∥₁

-- the replica with this number, without any component
pub record IsNew (roster : RosterValue) (number : ℕ) (m : ReplicaValue) : Type 0 where
  pub same_roster : m.roster ≡ roster
  pub own : m.own ≡ number
  pub lives : m.state.lives ≡ map.empty
  pub counts : m.state.counts ≡ map.empty

-- the replicas with the first numbers, without any component
pub record AreNew (roster : RosterValue) (replicas : List ReplicaValue) (number : ℕ) : Type 0 where
  pub count : length replicas ≡ number
  pub each : (r : ℕ) (m : ReplicaValue) → slice_get replicas r ≡ Some m → IsNew roster r m

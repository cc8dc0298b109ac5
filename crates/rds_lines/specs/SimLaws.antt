-- What lines of `sim` came to: events in their order, that the model accepts, and documents of the updates held by then.
use Rattle.std.specs.Prelude.{◌≡◌, ◌⊎◌, ℕ, Bool, true, false, List, ◌∷◌, ◌++◌, map, option_map, Option, Some, None, Ok}
use Rattle.std.specs.List.{All, filter_map, flat_map, list_any}
use Rattle.rds_names.specs.AndThen.{◌>>=◌}
use Rattle.rds_names.specs.Roster.{RosterValue}
use Rattle.rds_state.specs.Value.{StateValue, coordinates}
use Rattle.rds_json.specs.declared.line.Line.TheVariants as lines
use Rattle.rds_world.specs.Law.{held_after, world_after}
use Rattle.rds_world.specs.Simulation.{roster_with_names}
use Rattle.rds_world.specs.Updates.{ShowsUpdates}
use Rattle.rds_world.specs.World.{Happening, Of, Accepted, initial_world}
use Rattle.rds_world.specs.declared.event.Event.{Event}
use Rattle.rds_output.specs.Reply.{is_refusal, reply_line}
use Rattle.rds_output.specs.declared.reply.Reply.{Reply}
use Rattle.rds_output.specs.declared.reply.Reply.TheVariants.{Done}
use Rattle.rds_lines.specs.Sim.{MayBeSimulated, line_of_bytes, request_of}
use Rattle.rds_lines.specs.Views.{ShowsView}
use Rattle.rds_lines.specs.declared.sim.Request.{Request}
use Rattle.rds_lines.specs.declared.sim.Request.TheVariants as requests
use Rattle.rds_lines.specs.declared.views.Layout.TheVariants.{Compact}

-- a line, what it was answered, and the event that happened by it, if one did
pub record AnsweredLine : Type 0 where
  pub line : List ℕ
  pub answer : Reply
  pub event : Option Event

-- the events, in the order of their lines
abbrev pub events_of : List AnsweredLine → List Happening
events_of answered = filter_map (λ a. option_map Of a.event) answered

-- it was refused, and nothing happened by it
abbrev pub WasRefused : AnsweredLine → Type 0
WasRefused a = (is_refusal a.answer ≡ true) × (a.event ≡ None)

-- what the bytes of a line ask of the replicas that there are after these events, if the group began with this roster
abbrev pub AsksFor : RosterValue → List Happening → List ℕ → Request → Type 0
AsksFor roster es bytes request =
    (line_of_bytes bytes >>= request_of (roster_with_names roster (world_after roster.names es))) ≡ Ok request

-- the view at a path of the document of those updates that a replica's memory holds after these events
pub record ShowsHeld (es : List Happening) (number : ℕ) (path : List (List ℕ)) (answer : Reply) : Type 0 where
  pub state : StateValue
  pub updates : ShowsUpdates (held_after es).update (held_after es).size ((held_after es).memory number)
      (coordinates state)
  pub shown : ShowsView Compact state path answer

-- What a line came to after other lines of its group: it was refused, or the event that it asks for happened, or the
-- replica that it asks for was shown.
pub data CameTo (roster : RosterValue) (before : List AnsweredLine) (a : AnsweredLine) : Type 0 where
  Refused : WasRefused a → CameTo roster before a
  Happened : (e : Event) → AsksFor roster (events_of before) a.line (requests.Event e) → a.event ≡ Some e
      → is_refusal a.answer ≡ false → CameTo roster before a
  Shown : (number : ℕ) (path : List (List ℕ)) → AsksFor roster (events_of before) a.line (requests.Show number path)
      → a.event ≡ None → ShowsHeld (events_of before) number path a.answer → CameTo roster before a

-- The first line that isn't refused names a roster. The model accepts the events of the lines after it, from the world
-- without events on, and each of these lines came to what it asks for.
pub record NamesGroup (answered : List AnsweredLine) : Type 0 where
  pub before : List AnsweredLine
  pub first : AnsweredLine
  pub behind : List AnsweredLine
  pub whole : answered ≡ before ++ first ∷ behind
  pub refused : All WasRefused before
  pub roster : RosterValue
  pub named : line_of_bytes first.line ≡ Ok (lines.Roster roster)
  pub done : (first.answer ≡ Done) × (first.event ≡ None)
  pub accepted : Accepted (events_of behind) (initial_world roster.names)
  pub came : (earlier later : List AnsweredLine) (a : AnsweredLine) → behind ≡ earlier ++ a ∷ later
      → CameTo roster earlier a

-- the answers of the lines are what was written; all are refusals, or a line names a group
pub record ShowsTheirUpdates (lines : List (List ℕ)) (out : List ℕ) (refused : Bool) : Type 0 where
  pub answered : List AnsweredLine
  pub of_lines : lines ≡ map (λ a. a.line) answered
  pub is_written : out ≡ flat_map (λ a. reply_line a.answer) answered
  pub is_refused : refused ≡ list_any (λ a. is_refusal a.answer) answered
  pub came : All WasRefused answered ⊎ NamesGroup answered

abbrev pub SimShowsUpdates : Type 0
SimShowsUpdates = (lines : List (List ℕ)) (out : List ℕ) (refused : Bool) → MayBeSimulated lines out refused
    → ShowsTheirUpdates lines out refused

-- What the lines of `sim` are answered, over the model of all replicas.
use Rattle.std.specs.Prelude.{
  ◌≡◌,
  ◌⊎◌,
  ◌||◌,
  ◌≤◌,
  ℕ,
  Bool,
  false,
  List,
  [],
  ◌∷◌,
  ◌++◌,
  Option,
  Some,
  None,
  Result,
  Ok,
  Err,
  if◌then◌else◌,
}
use Rattle.rds_names.specs.declared.fault.Fault.{Fault}
use Rattle.rds_names.specs.declared.fault.Fault.TheVariants.{Memory, BadLine, BadRoster, NoSuch}
use Rattle.rds_names.specs.Roster.{RosterValue, number_named}
use Rattle.rds_state.specs.Value.{StateValue, coordinates}
use Rattle.rds_json.specs.Line.{line_of}
use Rattle.rds_names.specs.AndThen.{◌>>=◌}
use Rattle.rds_lines.specs.declared.sim.Request.{Request}
use Rattle.rds_lines.specs.declared.sim.Request.TheVariants as requests
use Rattle.rds_json.specs.declared.line.Line.{Line}
use Rattle.rds_json.specs.declared.line.Line.TheVariants as lines
use Rattle.rds_world.specs.Events.{IsAccepted, IsDone, RefusesEvent, roster_after_event}
use Rattle.rds_world.specs.Stands.{Stands}
use Rattle.rds_world.specs.Stored.{WorldValue}
use Rattle.rds_world.specs.World.{World, after, initial_world}
use Rattle.rds_world.specs.declared.event.Event.{Event}
use Rattle.rds_world.specs.declared.event.Event.TheVariants as events
use Rattle.rds_world.specs.declared.event.Done.{Done as Outcome}
use Rattle.rds_world.specs.declared.event.Done.TheVariants as outcomes
use Rattle.rds_output.specs.Reply.{edit_reply, is_refusal, reply_line}
use Rattle.rds_lines.specs.Views.{ShowsView}
use Rattle.rds_lines.specs.declared.views.Layout.TheVariants.{Compact}
use Rattle.rds_lines.specs.Lines.{is_text_line, lines_in}
use Rattle.rds_output.specs.declared.reply.Reply.{Reply}
use Rattle.rds_output.specs.declared.reply.Reply.TheVariants.{Done, Asked, Answered, Refused}

-- the roster that was accepted, and all its replicas
pub record Group : Type 0 where
  pub roster : RosterValue
  pub world : World

abbrev pub opening_group : RosterValue → Group
opening_group roster = record { roster = roster; world = initial_world roster.names }

-- a line is refused, and changes nothing
abbrev pub LineIsRefused : Option Group → Fault → Reply → Option Group → Type 0
LineIsRefused now fault answer next = (answer ≡ Refused fault) × (next ≡ now)

abbrev pub done_reply : RosterValue → Outcome → Reply
done_reply roster (outcomes.Edited e) = edit_reply roster e.dot e.killed
done_reply roster outcomes.Plain = Done
done_reply roster (outcomes.Asked k) = Asked k
done_reply roster (outcomes.Answered k components) = Answered k components

-- the group after an event that isn't refused
abbrev pub group_after : Group → Event → Group
group_after g e = record { roster = roster_after_event g.roster e; world = after g.world e }

-- the event happens, and what it did is answered
pub record EventHappens (v : WorldValue) (g : Group) (e : Event) (answer : Reply) (next : Option Group) : Type 0 where
  pub accepted : IsAccepted v g.world e
  pub outcome : Outcome
  pub done : IsDone v g.world e outcome
  pub told : answer ≡ done_reply (group_after g e).roster outcome
  pub next_is : next ≡ Some (group_after g e)

-- it is refused as the replicas refuse it
pub record StopsAtEvent (v : WorldValue) (g : Group) (e : Event) (answer : Reply) (next : Option Group) : Type 0 where
  pub fault : Fault
  pub refused : RefusesEvent v g.world e fault
  pub told : LineIsRefused (Some g) fault answer next

-- what an event is answered by replicas that stand for the group
pub record MeetsEvent (g : Group) (e : Event) (answer : Reply) (next : Option Group) : Type 0 where
  pub value : WorldValue
  pub stands : Stands value g.world
  pub roster : value.roster ≡ g.roster
  pub met : EventHappens value g e answer next ⊎ StopsAtEvent value g e answer next

-- the view of what a replica has in memory
pub record Viewed (g : Group) (number : ℕ) (path : List (List ℕ)) (answer : Reply) (next : Option Group) : Type 0 where
  pub state : StateValue
  pub memory : coordinates state ≡ g.world.memory number
  pub shown : ShowsView Compact state path answer
  pub next_is : next ≡ Some g

abbrev pub MeetsShow : Group → ℕ → List (List ℕ) → Reply → Option Group → Type 0
MeetsShow g number path answer next =
    ((g.world.replicas ≤ number) × LineIsRefused (Some g) NoSuch answer next) ⊎ Viewed g number path answer next

abbrev pub event_of : RosterValue → List ℕ → (ℕ → Event) → Result Request Fault
event_of roster name event = number_named roster name >>= λ number. Ok (requests.Event (event number))

-- what a line asks of replicas that are there: no other roster, and names of theirs alone
abbrev pub request_of : RosterValue → Line → Result Request Fault
request_of roster (lines.Roster other) = Err BadRoster
request_of roster (lines.Edit name command) = event_of roster name (λ number. events.Edit number command)
request_of roster (lines.Save name) = event_of roster name events.Save
request_of roster (lines.Crash name) = event_of roster name events.Crash
request_of roster (lines.Ask name) = event_of roster name events.Ask
request_of roster (lines.Answer name k) = event_of roster name (λ number. events.Answer number k)
request_of roster (lines.Take k) = Ok (requests.Event (events.Take k))
request_of roster (lines.Grow name newcomer) = event_of roster name (λ number. events.Grow number newcomer)
request_of roster (lines.Show name path) = number_named roster name >>= λ number. Ok (requests.Show number path)

abbrev pub MeetsRequest : Group → Result Request Fault → Reply → Option Group → Type 0
MeetsRequest g (Ok (requests.Event event)) answer next = MeetsEvent g event answer next
MeetsRequest g (Ok (requests.Show number path)) answer next = MeetsShow g number path answer next
MeetsRequest g (Err fault) answer next = LineIsRefused (Some g) fault answer next

-- before a roster there is no replica
abbrev pub MeetsLine : Option Group → Line → Reply → Option Group → Type 0
MeetsLine None (lines.Roster roster) answer next = (answer ≡ Done) × (next ≡ Some (opening_group roster))
MeetsLine None line answer next = LineIsRefused None NoSuch answer next
MeetsLine (Some g) line answer next = MeetsRequest g (request_of g.roster line) answer next

abbrev pub MeetsRead : Option Group → Result Line Fault → Reply → Option Group → Type 0
MeetsRead now (Ok line) answer next = MeetsLine now line answer next
MeetsRead now (Err fault) answer next = LineIsRefused now fault answer next

-- what the bytes of a line ask for, or their fault
abbrev pub line_of_bytes : List ℕ → Result Line Fault
line_of_bytes bytes = if is_text_line bytes then line_of bytes else Err BadLine

-- the answer that is due, or Memory, which changes nothing
abbrev pub MeetsBytes : Option Group → List ℕ → Reply → Option Group → Type 0
MeetsBytes now bytes answer next = LineIsRefused now Memory answer next
    ⊎ MeetsRead now (line_of_bytes bytes) answer next

-- one line's answer, and what is written for the lines after it
pub record MeetsFirst (now : Option Group) (bytes : List ℕ) (After : Option Group → List ℕ → Bool → Type 0)
    (out : List ℕ) (refused : Bool) : Type 0 where
  pub answer : Reply
  pub next : Option Group
  pub met : MeetsBytes now bytes answer next
  pub rest : List ℕ
  pub more : Bool
  pub later : After next rest more
  pub out_is : out ≡ reply_line answer ++ rest
  pub refused_is : refused ≡ (is_refusal answer || more)

-- what a read line is answered, or Memory, which changes nothing
abbrev pub MayMeet : Option Group → Line → Reply → Option Group → Type 0
MayMeet now line answer next = LineIsRefused now Memory answer next ⊎ MeetsLine now line answer next

-- what is written for lines, from a group on, and whether one of them is refused
abbrev pub MeetsLines : List (List ℕ) → Option Group → List ℕ → Bool → Type 0
MeetsLines [] now out refused = (out ≡ []) × (refused ≡ false)
MeetsLines (bytes ∷ rest) now out refused = MeetsFirst now bytes (MeetsLines rest) out refused

-- what `sim` may write for lines, and whether one of them is refused
abbrev pub MayBeSimulated : List (List ℕ) → List ℕ → Bool → Type 0
MayBeSimulated lines = MeetsLines lines None

-- what `sim` writes for an input, and whether one of its lines is refused
abbrev pub IsSimOutput : List ℕ → List ℕ → Bool → Type 0
IsSimOutput input = MayBeSimulated (lines_in input)

-- Which group of the model the replicas in code stand for.
use Rattle.std.specs.Prelude.{◌≡◌, length, Option, Some, None, Result, Ok, Err}
use Rattle.rds_names.specs.declared.fault.Fault.{Fault}
use Rattle.rds_json.specs.declared.line.Line.{Line}
use Rattle.rds_world.specs.Stands.{Stands}
use Rattle.rds_world.specs.Stored.{WorldValue}
use Rattle.rds_world.specs.declared.event.Event.{Event}
use Rattle.rds_lines.specs.Sim.{Group, MayMeet, MeetsEvent}
use Rattle.rds_output.specs.declared.reply.Reply.{Reply}
use Rattle.rds_output.specs.declared.reply.Reply.TheVariants.{Refused}

-- the group's roster, and a world of the model that they stand for, with all its replicas
pub record StandsForGroup (v : WorldValue) (g : Group) : Type 0 where
  pub stands : Stands v g.world
  pub roster : v.roster ≡ g.roster
  pub whole : g.world.replicas ≡ length g.roster.names

abbrev pub IsGroup : Option WorldValue → Option Group → Type 0
IsGroup None None = Unit {0}
IsGroup None (Some g) = ⊥
IsGroup (Some v) None = ⊥
IsGroup (Some v) (Some g) = StandsForGroup v g

-- a fault is answered as a refusal
abbrev pub reply_of : Result Reply Fault → Reply
reply_of (Ok answer) = answer
reply_of (Err fault) = Refused fault

-- the replicas stand for a group that the event leads to
abbrev pub LeadsGroupTo : WorldValue → Group → Event → Result Reply Fault → WorldValue → Type 0
LeadsGroupTo old g event result new =
    StandsForGroup old g → (next : Group) × StandsForGroup new next × MeetsEvent g event (reply_of result) (Some next)

-- the same of a line
abbrev pub LineLeadsTo : Option WorldValue → Option Group → Line → Result Reply Fault → Option WorldValue → Type 0
LineLeadsTo old now line result new =
    IsGroup old now → (next : Option Group) × IsGroup new next × MayMeet now line (reply_of result) next

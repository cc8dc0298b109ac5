-- What two replicas lack of one another's, as a question tells.
use Rattle.std.specs.Prelude.{◌≡◌, ◌≤◌, ◌↔◌, ℕ, false, true, List, length, Result, Ok, Err}
use Rattle.std.specs.FinSet as set
use Rattle.std.specs.List.{AllByRecursion}
use Rattle.rds_counts.specs.Counted.{place}
use Rattle.rds_counts.specs.Place.{Place}
use Rattle.rds_counts.specs.declared.row.CountRow.{CountRow}
use Rattle.rds_counts.specs.declared.row.Which.TheVariants.{P, N}
use Rattle.rds_delta.specs.Digested.{digest_of, ranks_in}
use Rattle.rds_delta.specs.Least.{IsNothing, least}
use Rattle.rds_dots.specs.Dots.{Dots}
use Rattle.rds_dots.specs.declared.dot.Dot.{Dot}
use Rattle.rds_names.specs.declared.fault.Fault.{Fault}
use Rattle.rds_names.specs.declared.fault.Fault.TheVariants.{Memory}
use Rattle.rds_state.specs.Fits.{ReplicaValue}
use Rattle.rds_state.specs.Value.{coordinates}
use Rattle.rds_questions.specs.Greeting.{GreetGives}
use Rattle.rds_questions.specs.Questions.{IsQuestion, QuestionValue}
use Rattle.rds_questions.specs.Taking.{HasAllOf}
use Rattle.rds_questions.specs.declared.lacking.Lacks.{Lacks}

-- ---- how far dots and counters have come

-- a dot of the first set that the second has is in the third
abbrev pub StayLive : Dots → Dots → Dots → Type 0
StayLive live seen still =
    (d : Dot) → set.contains live d ≡ true → set.contains seen d ≡ true → set.contains still d ≡ true

-- both numbers of a row are at most those here
abbrev pub IsRowReached : (Place → ℕ) → CountRow → Type 0
IsRowReached here r = (r.p ≤ here (place r.key r.replica P)) × (r.n ≤ here (place r.key r.replica N))

abbrev pub AreRowsReached : (Place → ℕ) → List CountRow → Type 0
AreRowsReached here rows = AllByRecursion (IsRowReached here) rows

-- ---- what is lacking

-- the replica has all that the question tells, and no shorter roster
pub record LacksNothingHere (q : QuestionValue) (held : ReplicaValue) : Type 0 where
  pub roster : length q.hello.roster.names ≤ length held.roster.names
  pub state : HasAllOf q.digest held.state

-- the least delta for the one that asked has no component, and that has no shorter roster
pub record LacksNothingThere (q : QuestionValue) (held : ReplicaValue) : Type 0 where
  pub roster : length held.roster.names ≤ length q.hello.roster.names
  pub delta : IsNothing (least (coordinates held.state) (ranks_in q.digest))

pub record TellsLacks (q : QuestionValue) (held : ReplicaValue) (lacks : Lacks) : Type 0 where
  pub here : (lacks.here ≡ false) ↔ LacksNothingHere q held
  pub there : (lacks.there ≡ false) ↔ LacksNothingThere q held

-- what is lacking, or why it isn't reported: first what the greeting gives, then Memory
abbrev pub LacksGives : QuestionValue → ReplicaValue → Result Lacks Fault → Type 0
LacksGives q held (Ok lacks) =
    GreetGives {T = Unit {0}} held.roster held.own q.hello (Ok tt) × TellsLacks q held lacks
LacksGives q held (Err Memory) = GreetGives {T = Unit {0}} held.roster held.own q.hello (Ok tt)
LacksGives q held (Err f) = GreetGives {T = Unit {0}} held.roster held.own q.hello (Err f)

-- ---- replicas that are level

-- the one that asked has the roster and the digest of the other
pub record IsLevel (q : QuestionValue) (held : ReplicaValue) : Type 0 where
  pub roster : q.hello.roster ≡ held.roster
  pub digest : q.digest ≡ digest_of held.state

pub record LackNothing (lacks : Lacks) : Type 0 where
  pub here : lacks.here ≡ false
  pub there : lacks.there ≡ false

-- neither of two lacks anything exactly where they are level
abbrev pub LevelReplicasLackNothing : Type 0
LevelReplicasLackNothing =
    (q : QuestionValue) (held : ReplicaValue) (lacks : Lacks) → IsQuestion q → LacksGives q held (Ok lacks)
    → LackNothing lacks ↔ IsLevel q held

-- What becomes of a response in the replica that asked.
use Rattle.std.specs.Prelude.{◌≡◌, ◌≤◌, ◌⊎◌, ℕ, Option, Some, None, Result, Ok, Err}
use Rattle.rds_names.specs.declared.fault.Fault.{Fault}
use Rattle.rds_names.specs.declared.fault.Fault.TheVariants.{Memory, WrongAsker, OwnAhead}
use Rattle.rds_names.specs.declared.fault.Own.{Own}
use Rattle.rds_names.specs.declared.fault.Own.TheVariants.{Seq, Plus, Minus}
use Rattle.rds_dots.specs.declared.dot.Dot.{Dot}
use Rattle.rds_dots.specs.Lacking.{IsLacking}
use Rattle.rds_counts.specs.Counted.{number}
use Rattle.rds_counts.specs.Place.{Place}
use Rattle.rds_counts.specs.declared.row.Which.TheVariants.{P, N}
use Rattle.rds_life.specs.Life.{seen_of}
use Rattle.rds_state.specs.Ahead.{IsNumberAhead, KnowsNumbers}
use Rattle.rds_state.specs.Fits.{ReplicaValue}
use Rattle.rds_state.specs.Grown.{TakeWithGives}
use Rattle.rds_names.specs.Roster.{OneBegins}
use Rattle.rds_state.specs.Value.{StateValue, coordinates}
use Rattle.rds_delta.specs.Digested.{DigestValue, ranks_in}
use Rattle.rds_delta.specs.Ranks.{Ranks, ranks}
use Rattle.rds_questions.specs.Questions.{QuestionValue}
use Rattle.rds_questions.specs.Receiving.{ReceivedValue}

-- the replica that asked, whatever it holds: the same group and number, and of the two rosters one begins the other
pub record IsAsker (q : QuestionValue) (held : ReplicaValue) : Type 0 where
  pub rosters : OneBegins q.hello.roster held.roster
  pub own : held.own ≡ q.hello.own

-- no rank and no number of the first is above the second's
pub record AreReached (told here : Ranks) : Type 0 where
  pub ranks : (d : Dot) → told.rank d ≤ here.rank d
  pub numbers : (q : Place) → told.number q ≤ here.number q

-- a state has come as far as a digest says: what was seen is seen, what was dead is dead, and no number is below
abbrev pub HasAllOf : DigestValue → StateValue → Type 0
HasAllOf g v = AreReached (ranks_in g) (ranks (coordinates v))

-- a replica that is what another was, or what that has become since
pub record IsGrownFrom (asked held : ReplicaValue) : Type 0 where
  pub rosters : OneBegins asked.roster held.roster
  pub own : held.own ≡ asked.own
  pub reached : AreReached (ranks (coordinates asked.state)) (ranks (coordinates held.state))

-- what a digest has of the replica's own and its state lacks: the least dot, else the first number, else nothing
abbrev pub OwnLacking : StateValue → ℕ → DigestValue → Option Own → Type 0
OwnLacking v own g None =
    IsLacking (seen_of v.lives) g.seen own None × KnowsNumbers (number v.counts) own (number g.counts)
OwnLacking v own g (Some (Seq n)) = IsLacking (seen_of v.lives) g.seen own (Some n)
OwnLacking v own g (Some (Plus n)) =
    IsLacking (seen_of v.lives) g.seen own None × IsNumberAhead (number v.counts) own (number g.counts) P n
OwnLacking v own g (Some (Minus n)) =
    IsLacking (seen_of v.lives) g.seen own None × IsNumberAhead (number v.counts) own (number g.counts) N n

-- another replica, or one that has all of its own and lacks something else that it had when it asked
abbrev pub IsOther : QuestionValue → ReplicaValue → Type 0
IsOther q held =
    ¬ (IsAsker q held)
    ⊎ (IsAsker q held × (OwnLacking held.state held.own q.digest None × ¬ (HasAllOf q.digest held.state)))

-- whether a replica is the one that asked and has all that it had then, and which fault is given: first that it is
-- another, then what it lacks of its own, then that it lacks something else
abbrev pub HeldGives : {T : Type 0} → QuestionValue → ReplicaValue → Result T Fault → Type 0
HeldGives q held (Ok x) = IsAsker q held × HasAllOf q.digest held.state
HeldGives q held (Err WrongAsker) = IsOther q held
HeldGives q held (Err (OwnAhead own)) = IsAsker q held × OwnLacking held.state held.own q.digest (Some own)
HeldGives q held (Err Memory) = IsAsker q held × OwnLacking held.state held.own q.digest None
HeldGives q held (Err f) = ⊥

-- when what was received is taken, and which fault is given: first what the held replica gives, then what a take gives
abbrev pub TakesReceived : QuestionValue → ReplicaValue → ReceivedValue → Result (Unit {0}) Fault → Type 0
TakesReceived q held x (Ok u) =
    HeldGives {T = Unit {0}} q held (Ok u)
    × TakeWithGives {T = Unit {0}} held.roster x.roster held.state held.own x.delta (Ok u)
TakesReceived q held x (Err f) =
    HeldGives {T = Unit {0}} q held (Err f)
    ⊎ ((IsAsker q held × HasAllOf q.digest held.state)
    × ((f ≡ Memory) ⊎ TakeWithGives {T = Unit {0}} held.roster x.roster held.state held.own x.delta (Err f)))

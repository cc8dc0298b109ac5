-- What a session may receive.
use Rattle.std.specs.Prelude.{◌≡◌, ◌<◌, ℕ, List, length, Option, Some, None, Ok, IfSome, IsSome}
use Rattle.rds_names.specs.Roster.{RosterValue, Begins}
use Rattle.rds_state.specs.Fits.{Fits, ReplicaValue}
use Rattle.rds_state.specs.Value.{StateValue, coordinates}
use Rattle.rds_state.specs.declared.mark.Mark.{Mark}
use Rattle.rds_delta.specs.Least.{IsAbove}
use Rattle.rds_delta.specs.Ranks.{ranks}
use Rattle.rds_session.specs.declared.step.Ended.{Ended}
use Rattle.rds_session.specs.declared.step.Ended.TheVariants.{Done}
use Rattle.rds_session.specs.declared.talk.Act.{Act}
use Rattle.rds_session.specs.declared.talk.Act.TheVariants as acts
use Rattle.rds_session.specs.declared.talk.Peer.{Peer}
use Rattle.rds_session.specs.Marked.{told_mark}
use Rattle.rds_session.specs.Judging.{Awaited, ForDigest, ForWhole, ForDelta, ForBye, Receives, delta_came, replicas_of}

-- a delta, and the peer's roster where that is longer than the own one
abbrev pub Delivery : Type 0
Delivery = StateValue × Option RosterValue

-- what was received, of its parts
abbrev pub delivery_of : Option StateValue → Option RosterValue → Option Delivery
delivery_of None roster = None
delivery_of (Some delta) roster = Some (delta, roster)

abbrev pub delta_of : Option Delivery → Option StateValue
delta_of None = None
delta_of (Some d) = Some d.0

abbrev pub roster_received : Option Delivery → Option RosterValue
roster_received None = None
roster_received (Some d) = d.1

-- the own roster begins the other, which has more names
pub record IsLonger (own other : RosterValue) : Type 0 where
  pub begins : Begins own other
  pub more : length own.names < length other.names

-- no roster, or a longer one
abbrev pub IsLongerIfThere : RosterValue → Option RosterValue → Type 0
IsLongerIfThere own roster = IfSome roster (IsLonger own)

-- a delta of replicas of the longer roster, all of whose components are above what was kept here, for which the body
-- of a DELTA is accepted here from a peer with that roster: the rows in that body are its certificate. Which body was
-- heard is said by the clauses on streams
pub record IsChecked (kept : ReplicaValue) (d : Delivery) : Type 0 where
  pub fits : Fits (replicas_of kept d.1) (coordinates d.0)
  pub grows : IsLongerIfThere kept.roster d.1
  pub above : IsAbove (coordinates d.0) (ranks (coordinates kept.state))
  pub came : (peer : Peer) × (body : List ℕ)
      × (delta_came kept peer body ≡ Ok (Receives d.0 d.1 (told_mark peer.version kept.state d.0)))

-- nothing, or such a delta
abbrev pub HasChecked : ReplicaValue → Option Delivery → Type 0
HasChecked kept received = IfSome received (IsChecked kept)

-- where the session is done a delta was received
abbrev pub IsDoneBy : Ended → Option Delivery → Type 0
IsDoneBy ended received = ended ≡ Done → IsSome received

-- the peer's roster, as far as it is known, is a longer one where it is there
abbrev pub KnowsPeer : ReplicaValue → Awaited → Type 0
KnowsPeer kept (ForDigest peer) = IsLongerIfThere kept.roster peer.roster
KnowsPeer kept (ForWhole peer) = IsLongerIfThere kept.roster peer.roster
KnowsPeer kept (ForDelta peer digest) = IsLongerIfThere kept.roster peer.roster
KnowsPeer kept _ = Unit {0}

-- what a session holds: nothing but a checked delta was received, and one was before a BYE is waited for; and no roster
-- of the peer, or a longer one
pub record IsSound (kept : ReplicaValue) (turn : Awaited) (ended : Ended) (received : Option Delivery) : Type 0 where
  pub checked : HasChecked kept received
  pub before_bye : (mark : Option Mark) → turn ≡ ForBye mark → IsSome received
  pub done : IsDoneBy ended received
  pub peer : KnowsPeer kept turn

-- a message brings no delta, or a checked one, and no roster, or a longer one; it ends the session only where a BYE is
-- waited for
abbrev pub Brings : {S : Type 0} → ReplicaValue → Awaited → Act S → Type 0
Brings kept turn (acts.Greet peer) = IsLongerIfThere kept.roster peer.roster
Brings kept turn (acts.Learn peer digest) = IsLongerIfThere kept.roster peer.roster
Brings kept turn (acts.Share peer digest) = IsLongerIfThere kept.roster peer.roster
Brings kept turn (acts.Miss peer) = IsLongerIfThere kept.roster peer.roster
Brings kept turn (acts.Receive delta roster mark) = IsChecked kept (delta, roster)
Brings kept turn acts.Finish = (mark : Option Mark) × (turn ≡ ForBye mark)
Brings kept turn acts.Fork = Unit {0}

-- What joining an input of two lines answers: a text, or the first fault that is due.
use Rattle.std.specs.Prelude.{◌≡◌, ◌≢◌, ℕ, ◌⊎◌, nat_lt, List, [], ◌∷◌, length, Result, Ok, Err, MatchBool}
use Rattle.hex.specs.Hex.{decode_of}
use Rattle.rds_names.specs.declared.fault.Fault.{Fault}
use Rattle.rds_names.specs.declared.fault.Fault.TheVariants.{
  Memory,
  Conflict,
  Bad,
  Extra,
  TooLong,
  WrongGroup,
  WrongRoster,
}
use Rattle.rds_life.specs.Life.{IsFirstConflict}
use Rattle.rds_state.specs.Coordinates.{AreCompatible, join}
use Rattle.rds_state.specs.Value.{coordinates}
use Rattle.rds_codec.specs.DecodedSnapshots.{DecodesSnapshot}
use Rattle.rds_codec.specs.StateTexts.{snapshot_text}
use Rattle.rds_lines.specs.Lines.{until_newline, after_line}
use Rattle.rds_state.specs.Fits.{ReplicaValue}
use Rattle.rds_names.specs.Roster.{OneBegins, longer}
use Rattle.rds_codec.specs.declared.limits.TheConstants.{LIMIT}
use Rattle.rds_lines.specs.declared.join.TheConstants.{LINE_LIMIT}

-- the bytes of the digits are read from the left, in the format that they say, or there are other characters
abbrev pub DigitsRead : {E : Type 0} → Result (List ℕ) E → Result ReplicaValue Fault → Type 0
DigitsRead (Ok bytes) r = DecodesSnapshot bytes r
DigitsRead (Err e) r = r ≡ Err Bad

-- a line over the limit is too long, whatever it holds
abbrev pub LineRead : List ℕ → Result ReplicaValue Fault → Type 0
LineRead line r = MatchBool (nat_lt LINE_LIMIT (length line)) (r ≡ Err TooLong) (DigitsRead (decode_of line) r)

-- what a line is read as, where there is memory
abbrev pub ReadsLine : List ℕ → Result ReplicaValue Fault → Type 0
ReadsLine line r = (r ≢ Err Memory) × LineRead line r

-- the join of the states, with the longer roster and the first one's number
pub record JoinsReplicas (first second both : ReplicaValue) : Type 0 where
  pub meet : OneBegins first.roster second.roster
  pub compatible : AreCompatible (coordinates first.state) (coordinates second.state)
  pub roster : both.roster ≡ longer first.roster second.roster
  pub own : both.own ≡ first.own
  pub state : coordinates both.state ≡ join (coordinates first.state) (coordinates second.state)

-- what two snapshots are joined to, or why they can't be
abbrev pub JoinedTo : ReplicaValue → ReplicaValue → Result ReplicaValue Fault → Type 0
JoinedTo v w (Ok both) = JoinsReplicas v w both
JoinedTo v w (Err WrongGroup) = v.roster.group ≢ w.roster.group
JoinedTo v w (Err WrongRoster) = (v.roster.group ≡ w.roster.group) × ¬ (OneBegins v.roster w.roster)
JoinedTo v w (Err (Conflict replica seq)) =
    OneBegins v.roster w.roster × IsFirstConflict v.state.lives w.state.lives (record { replica = replica; seq = seq })
JoinedTo v w (Err _) = ⊥

-- the text of what was joined, in format 2, where it is within the limit
abbrev pub TextOfJoined : Result ReplicaValue Fault → Result (List ℕ) Fault → Type 0
TextOfJoined (Ok both) r =
    MatchBool (nat_lt LIMIT (length (snapshot_text both))) (r ≡ Err TooLong) (r ≡ Ok (snapshot_text both))
TextOfJoined (Err e) r = r ≡ Err e

-- nothing may follow the second line
abbrev pub AfterBoth : List ℕ → ReplicaValue → ReplicaValue → Result (List ℕ) Fault → Type 0
AfterBoth (b ∷ rest) v w r = r ≡ Err Extra
AfterBoth [] v w r = (joined : Result ReplicaValue Fault) × JoinedTo v w joined × TextOfJoined joined r

abbrev pub AfterSecond : List ℕ → ReplicaValue → Result ReplicaValue Fault → Result (List ℕ) Fault → Type 0
AfterSecond rest v (Ok w) r = AfterBoth rest v w r
AfterSecond rest v (Err e) r = r ≡ Err e

abbrev pub AfterFirst : List ℕ → Result ReplicaValue Fault → Result (List ℕ) Fault → Type 0
AfterFirst rest (Ok v) r =
    (second : Result ReplicaValue Fault) × ReadsLine (until_newline rest) second
    × AfterSecond (after_line rest) v second r
AfterFirst rest (Err e) r = r ≡ Err e

-- the first line is read first; a fault of it is the answer
abbrev pub JoinsTo : List ℕ → Result (List ℕ) Fault → Type 0
JoinsTo input r =
    (first : Result ReplicaValue Fault) × ReadsLine (until_newline input) first × AfterFirst (after_line input) first r

-- the same, or memory ran out
abbrev pub MayJoinTo : List ℕ → Result (List ℕ) Fault → Type 0
MayJoinTo input r = (r ≡ Err Memory) ⊎ JoinsTo input r

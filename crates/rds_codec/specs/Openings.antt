-- What a snapshot in either format begins with, the state after it, and the replica of both.
use Rattle.std.specs.Prelude.{ℕ, if◌then◌else◌, length, Result, Ok, Err}
use Rattle.rds_names.specs.declared.fault.Fault.{Fault}
use Rattle.rds_names.specs.declared.fault.Fault.TheVariants.{Bad}
use Rattle.rds_names.specs.Roster.{RosterValue}
use Rattle.rds_state.specs.Value.{StateValue}
use Rattle.rds_state.specs.Fits.{ReplicaValue}
use Rattle.rds_bytes.specs.Reading.{Reader, pair_at, made_at, bytes_at, member_at}
use Rattle.rds_bytes.specs.Steady.{IsSteady}
use Rattle.rds_bytes.specs.SteadyLaws.{pair_steady, drawn_steady, bytes_steady}
use Rattle.rds_bytes.specs.SteadyParts.{member_steady}
use Rattle.rds_codec.specs.FormatTexts.{Snapshot, format_of, format_at, state_at_in}
use Rattle.rds_codec.specs.StateTexts.{snapshot_by}
use Rattle.rds_codec.specs.declared.formats.Format.{Format}
use Rattle.rds_codec.specs.Replicas.{is_replica}

-- a roster, and the number of one of its replicas
abbrev pub Member : Type 0
Member = RosterValue × ℕ

-- a format, and a member in it
abbrev pub Opening : Type 0
Opening = Format × Member

abbrev pub opening_at : Reader Opening
opening_at = pair_at format_at member_at

abbrev pub opening_as_it_is : Reader Opening
opening_as_it_is = made_at (λ (o : Opening). o) opening_at

-- the state in that format, of as many replicas as the roster has names, beside what stands before it
abbrev pub state_after_opening : Opening → Reader (Opening × StateValue)
state_after_opening o = made_at (λ (state : StateValue). (o, state)) (state_at_in o.0 (length o.1.0.names))

-- an opening and a state as a replica, if they are one
abbrev pub replica_by : Opening × StateValue → ReplicaValue
replica_by p = snapshot_by (p.0.1, p.1)

-- the replica of an opening and a state, where they are one, beside the format
abbrev pub snapshot_of_parts : Opening × StateValue → Result Snapshot Fault
snapshot_of_parts p = if is_replica (replica_by p) then Ok (p.0.0, replica_by p) else Err Bad

-- ---- more bytes change nothing of what was read

format_steady : IsSteady format_at
unfolding format_at
format_steady = drawn_steady format_of (bytes_at 4) (bytes_steady 4)

pub opening_steady : IsSteady opening_at
opening_steady = pair_steady format_at member_at format_steady member_steady

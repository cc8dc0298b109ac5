-- Steps of the loops over records.
use Rattle.std.proofs.Common.{◌≡◌, ℕ, ◌+◌, ◌≤◌, ◌⊎◌, inl, List, [], ◌++◌, length, Option, sym, ap, subst, arith}
use Rattle.std.proofs.KnownBytes.{Consumes-nil, Consumes-trans}
use Rattle.std.proofs.lemmas.List.{length-append}
use Rattle.rds_names.specs.declared.fault.Fault.{Fault}
use Rattle.rds_names.specs.declared.fault.Fault.TheVariants.{Memory, Device}
use Rattle.rds_bytes.specs.Values.{IsMember}
use Rattle.rds_state.specs.Fits.{ReplicaValue}
use Rattle.rds_journal.specs.Records.{IsPayload, record_text}
use Rattle.rds_keep.specs.Parts.{ConsumesAtMost}
use Rattle.rds_keep.specs.Replay.{HoldsMore, Loses, ReadsRecords, Redoes, ReplayValue, StopsReading, TakesRecords}
use Rattle.rds_keep.proofs.Replaying.{IsTakenSoFar, lost_read, nothing_taken, one_taken, records_read, taken_member}

-- a record that was redone
pub taken_on : (old mid after new : ReplayValue) (bytes rest payload behind : List ℕ) → TakesRecords old mid bytes rest → rest ≡ record_text payload ++ behind → IsPayload payload → Redoes mid.replica payload after.replica
    → new.replica ≡ after.replica → new.whole ≡ mid.whole + length (record_text payload) → IsMember old.replica.roster old.replica.own → IsTakenSoFar old new bytes behind
taken_on old mid after new bytes rest payload behind taken first short redoes same whole member =
    let redone : Redoes mid.replica payload new.replica = subst (λ (v : ReplicaValue). Redoes mid.replica payload v) (sym same) redoes in
    let all = one_taken old mid new bytes rest payload behind taken first short redone whole in
    record { taken = all; member = taken_member old new bytes behind all member }

-- no record is left
pub read_all : (old mid new : ReplayValue) (before after : Option (List ℕ)) (behind held rest : List ℕ) → ReadsRecords old mid before after behind held → TakesRecords mid new held rest → length rest ≡ length held → ReadsRecords old new before after behind held
read_all old mid new before after behind held rest read taken same =
    subst (λ (t : List ℕ). ReadsRecords old new before after behind t) (nothing_taken mid new held rest taken same) (records_read old mid new before after behind held rest read taken)

-- memory ran out before more was read
pub memory_stops : (old mid new : ReplayValue) (before after : Option (List ℕ)) (behind held rest : List ℕ) (e : Fault) → ReadsRecords old mid before after behind held → TakesRecords mid new held rest → e ≡ Memory → StopsReading old new before after behind e
memory_stops old mid new before after behind held rest e read taken memory =
    lost_read old new before after after behind rest [] e (records_read old mid new before after behind held rest read taken) (Consumes-nil after) (inl memory)

-- a call failed, or memory ran out, while more was read
pub reading_stops : (old mid new : ReplayValue) (before now after : Option (List ℕ)) (behind held rest : List ℕ) (e : Fault) → ReadsRecords old mid before now behind held → TakesRecords mid new held rest → Loses now after
    → (e ≡ Memory) ⊎ (e ≡ Device) → StopsReading old new before after behind e
reading_stops old mid new before now after behind held rest e read taken loses why =
    lost_read old new before now after behind rest loses.0 e (records_read old mid new before now behind held rest read taken) loses.1 why

-- so many bytes more
pub spent_within : (first now next : Option (List ℕ)) (held rest : List ℕ) (most more total : ℕ) → ConsumesAtMost first now most → HoldsMore now next rest held → length held ≤ length rest + more → most + more ≤ total → ConsumesAtMost first next total
spent_within first now next held rest most more total spent hold few le =
    let within = spent.1 in
    let parts = ap length hold.held in
    (spent.0 ++ hold.given, omega (arith, within, few, le, parts, length-append rest hold.given, length-append spent.0 hold.given), Consumes-trans first now next spent.0 hold.given spent.2 hold.consumed)

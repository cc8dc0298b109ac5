-- Why an exchange with a node broke off: the fault that this is, and how the node stands then.
use Rattle.std.specs.Prelude.{◌≡◌, ℕ, Bool, true, false, Option}
use Rattle.rds_names.specs.Fault.{number_of}
use Rattle.rds_names.specs.declared.fault.Fault.{Fault}
use Rattle.rds_names.specs.declared.fault.Fault.TheVariants as faults
use Rattle.rds_client.specs.declared.troubles.Standing.{Standing}
use Rattle.rds_client.specs.declared.troubles.Standing.TheVariants as standings
use Rattle.rds_client.specs.declared.troubles.Trouble.{Trouble}
use Rattle.rds_client.specs.declared.troubles.Trouble.TheVariants.{Memory, System, Ended, Silence, Slow, Garbled, Unframed, Foreign, TooLong, Refused, Unfit}

-- the fault that it is for who met the node
abbrev pub fault_of : Trouble → Fault
fault_of Memory = faults.Memory
fault_of (System error) = faults.Device
fault_of Ended = faults.PeerEnded
fault_of (Silence seconds) = faults.Device
fault_of (Slow moved seconds) = faults.Device
fault_of (Garbled error) = faults.OutOfTurn
fault_of (Unframed error) = faults.OutOfTurn
fault_of Foreign = faults.OutOfTurn
fault_of TooLong = faults.TooLong
fault_of (Refused response) = faults.PeerEnded
fault_of (Unfit fault) = fault

-- one of the two sides refused the other
abbrev pub is_refused_standing : Standing → Bool
is_refused_standing (standings.Refused status fault) = true
is_refused_standing (standings.Unfit fault) = true
is_refused_standing _ = false

-- the node stands so after it
abbrev pub StandsAfter : Trouble → Standing → Type 0
StandsAfter (Refused response) standing = (fault : Option ℕ) × (standing ≡ standings.Refused response.head.status fault)
StandsAfter (Unfit fault) standing = standing ≡ standings.Unfit (number_of fault)
StandsAfter _ standing = standing ≡ standings.Lost

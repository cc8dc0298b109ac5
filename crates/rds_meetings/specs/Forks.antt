-- Forks: one dot with two entries.
use Rattle.std.specs.Prelude.{Bool, List, [], ℕ, Option, Some, if◌then◌else◌}
use Rattle.rds_names.specs.Roster.{OneBegins}
use Rattle.rds_names.specs.declared.fault.Fault.TheVariants.{Forked}
use Rattle.rds_output.specs.Output.{fault_line}
use Rattle.rds_state.specs.Coordinates.{AreCompatible}
use Rattle.rds_state.specs.Fits.{ReplicaValue}
use Rattle.rds_state.specs.Value.{coordinates}
use Rattle.rds_files.specs.Files.{ReplacedValue}

-- two replicas of one group: of their rosters one begins the other, and a dot is live in both with different entries
pub record AreForked (one other : ReplicaValue) : Type 0 where
  pub rosters : OneBegins one.roster other.roster
  pub entries : ¬ (AreCompatible (coordinates one.state) (coordinates other.state))

-- both files took what they received, and what they hold since is forked
abbrev pub EndForked : Option ReplacedValue → Option ReplacedValue → Type 0
EndForked (Some one) (Some other) = AreForked one.kept other.kept
EndForked one other = ⊥

-- the line of the fault, where it is reported
abbrev pub fork_text : Bool → List ℕ
fork_text told = if told then fault_line Forked else []

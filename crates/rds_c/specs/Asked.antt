-- The commands that calls without JSON ask for.
use Rattle.std.specs.Prelude.{ℕ, List, Result, Ok}
use Rattle.rds_names.specs.AndThen.{◌>>=◌}
use Rattle.rds_names.specs.Key.{key_of}
use Rattle.rds_names.specs.Path.{path_of}
use Rattle.rds_names.specs.declared.fault.Fault.{Fault}
use Rattle.rds_names.specs.declared.scalar.Scalar.{Scalar}
use Rattle.rds_state.specs.declared.command.Command.{Command}
use Rattle.rds_state.specs.declared.command.Command.TheVariants as commands
use Rattle.rds_c.specs.declared.asking.Verb.{Verb}
use Rattle.rds_c.specs.declared.asking.Verb.TheVariants.{Set, Add, Del}

abbrev pub command_by : Verb → List (List ℕ) → Scalar → Command
command_by Set path value = commands.Set path value
command_by Add path value = commands.Add path value
command_by Del path value = commands.Del path value

-- a value, set or added or deleted at the path that a text is
abbrev pub valued_of : Verb → List ℕ → Result Scalar Fault → Result Command Fault
valued_of verb path value = path_of path >>= λ p. value >>= λ v. Ok (command_by verb p v)

abbrev pub cleared_of : List ℕ → Result Command Fault
cleared_of path = path_of path >>= λ p. Ok (commands.Clear p)

abbrev pub raised_of : List ℕ → ℕ → Result Command Fault
raised_of key by = key_of key >>= λ k. Ok (commands.Inc k by)

abbrev pub lowered_of : List ℕ → ℕ → Result Command Fault
lowered_of key by = key_of key >>= λ k. Ok (commands.Dec k by)

-- What the copy of a command takes memory for.
use Rattle.std.specs.Prelude.{[], ◌≢◌, ◌⊎◌}
use Rattle.rds_names.specs.Scalar.{IsText}
use Rattle.rds_state.specs.declared.command.Command.{Command}
use Rattle.rds_state.specs.declared.command.Command.TheVariants.{Set, Add, Del, Clear, Inc, Dec}

abbrev pub HasKeysOrText : Command → Type 0
HasKeysOrText (Set path value) = (path ≢ []) ⊎ IsText value
HasKeysOrText (Add path value) = (path ≢ []) ⊎ IsText value
HasKeysOrText (Del path value) = (path ≢ []) ⊎ IsText value
HasKeysOrText (Clear path) = path ≢ []
HasKeysOrText (Inc key by) = Unit {0}
HasKeysOrText (Dec key by) = Unit {0}

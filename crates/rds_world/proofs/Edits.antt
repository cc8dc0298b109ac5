-- The entry that a command makes is determined by the command.
use Rattle.std.proofs.Common.{◌≡◌, ℕ, ap, ◌∙◌}
use Rattle.rds_state.proofs.MadeLemmas.{made_is}
use Rattle.rds_state.specs.Coordinates.{Coordinates, join}
use Rattle.rds_state.specs.Edit.{effect, JoinsEffect}
use Rattle.rds_state.specs.declared.command.Command.{Command}
use Rattle.rds_world.specs.World.{after_edit}

pub edit_is : (a b : Coordinates) (own : ℕ) (c : Command) → JoinsEffect a own c b → b ≡ after_edit a own c
edit_is a b own c h = h.joined ∙ ap (λ m. join a (effect a own c m)) (made_is c h.made h.is_made)

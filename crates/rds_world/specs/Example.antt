-- Events in which a crash loses an edit, and its dot is used again with another entry.
use Rattle.std.specs.Prelude.{ℕ, pos, List, [], ◌∷◌, map}
use Rattle.rds_names.specs.declared.scalar.Scalar.TheVariants as scalars
use Rattle.rds_state.specs.declared.command.Command.{Command}
use Rattle.rds_state.specs.declared.command.Command.TheVariants.{Add}
use Rattle.rds_world.specs.declared.event.Event.TheVariants.{Edit, Save, Crash, Ask, Answer, Take}
use Rattle.rds_world.specs.World.{Happening, Of}

-- the set "s" gets a number
abbrev pub add_to_s : ℕ → Command
add_to_s n = Add ((115 ∷ []) ∷ []) (scalars.Int (pos n))

-- three names
abbrev pub three : List (List ℕ)
three = (97 ∷ []) ∷ (98 ∷ []) ∷ (99 ∷ []) ∷ []

-- Replica 0 adds 1, and replica 1 asks it and is answered. After a crash replica 0 adds 2, keeps that, and answers again.
-- Replica 1 takes the later answer, then the earlier one.
abbrev pub lost_and_again : List Happening
lost_and_again =
    map Of (Edit 0 (add_to_s 1) ∷ Ask 1 ∷ Answer 0 0 ∷ Crash 0 ∷ Edit 0 (add_to_s 2) ∷ Save 0 ∷ Ask 1 ∷ Answer 0 1 ∷ Take 1 ∷ Take 0 ∷ [])

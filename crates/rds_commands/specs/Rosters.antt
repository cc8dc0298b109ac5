-- Files of new replicas, and rosters that grow, as events of the model.
use Rattle.std.specs.Prelude.{◌≡◌, ◌≤◌, ℕ, List, [], ◌∷◌, ◌++◌, length}
use Rattle.std.specs.FinMap as map
use Rattle.rds_state.specs.Fits.{ReplicaValue}
use Rattle.rds_output.specs.declared.reply.Reply.{Reply}
use Rattle.rds_words.specs.declared.tasks.GrowWords.{GrowWords}
use Rattle.rds_words.specs.declared.tasks.InitWords.{InitWords}
use Rattle.rds_files.specs.Files.{KeptFile, ReplacedValue}
use Rattle.rds_offline.specs.Copies.{InitsFrom}
use Rattle.rds_world.specs.Coherent.{HasRosters}
use Rattle.rds_world.specs.Replicas.{IsAskedIn, IsKeptIn, LeadsTo, grows}
use Rattle.rds_world.specs.World.{World, Happening, Of, initial_world}
use Rattle.rds_world.specs.declared.event.Event.TheVariants.{Crash, Save}
use Rattle.rds_commands.specs.Changing.{merging_events}
use Rattle.rds_commands.specs.Edits.{GrowsFile, InitsFile}
use Rattle.rds_commands.specs.Sessions.{LeavesFile}

-- the file that is made for a name of a roster is that replica's in the world that starts with the roster
abbrev pub InitsAreStarts : Type 0
InitsAreStarts = (words : InitWords) (file : KeptFile) (answer : Reply) → InitsFile words file answer
    → IsKeptIn (initial_world file.kept.roster.names) file.kept

-- the state has no component
pub record HasNothing (v : ReplicaValue) : Type 0 where
  pub no_lives : v.state.lives ≡ map.empty
  pub no_counts : v.state.counts ≡ map.empty

-- the file that is made of a copy of another is that of a replica which had nothing yet, asked, was answered with what
-- the other lent when it was copied, took that, and was saved
abbrev pub CopiesAreTakes : Type 0
CopiesAreTakes = (w : World) (lent : ℕ) (path from own : List ℕ) (unused : ReplicaValue) (file : KeptFile)
    → (inits : InitsFrom path from own file) → IsAskedIn w lent inits.source.kept → IsKeptIn w unused
    → HasNothing unused → file.kept.own ≡ unused.own → length unused.roster.names ≤ length file.kept.roster.names
    → LeadsTo w (merging_events w unused lent) file.kept

-- a file is read, its roster grows, and it is kept
abbrev pub growing_events : ReplicaValue → List (List ℕ) → List Happening
growing_events read names = Of (Crash read.own) ∷ (grows read.own names ++ Of (Save read.own) ∷ [])

-- a file whose replica knows the whole roster grows it
abbrev pub GrowthsAreGrows : Type 0
GrowthsAreGrows = (w : World) (words : GrowWords) (file : ReplacedValue) (answer : Reply) → HasRosters w
    → IsKeptIn w file.before → file.before.roster.names ≡ w.roster → (growth : GrowsFile words file answer)
    → LeavesFile w (growing_events file.before growth.names) file

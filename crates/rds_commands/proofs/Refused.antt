-- Why an edit in words isn't carried out.
use Rattle.std.proofs.Common.{◌≡◌, ◌⊎◌, ℕ, List, Result, Ok, Err, inl, inr}
use Rattle.rds_names.specs.declared.fault.Fault.{Fault}
use Rattle.rds_names.specs.declared.fault.Fault.TheVariants.{Memory}
use Rattle.rds_state.specs.Fits.{ReplicaValue}
use Rattle.rds_state.specs.declared.command.Command.{Command}
use Rattle.rds_files.specs.Files.{RefusesLock}
use Rattle.rds_commands.specs.Edits.{RefusesEdit, RefusesEditIn}
use Rattle.rds_words.specs.Meaning.{IsCommand}
use Rattle.rds_words.specs.declared.tasks.EditWords.{EditWords}
use Rattle.rds_words.proofs.OneMeaning.{command_once, ok_isnt_err}
use Rattle.rds_commands.proofs.Told.{not_refused}

module _ (path : List ℕ) (words : EditWords) (command : Command) (given : (◌≡◌ {A = Result Command Fault} (Ok command) (Err Memory)) ⊎ IsCommand words (Ok command)) (fault : Fault) where
  -- the file can't be locked and read
  pub no_replica : RefusesLock path fault → RefusesEdit path words fault
  no_replica refused = inr (inr (command, not_refused command Memory given, inl refused))

  -- the one in it isn't edited
  pub no_edit : (before : ReplicaValue) → RefusesEditIn command before fault → RefusesEdit path words fault
  no_edit before refused = inr (inr (command, not_refused command Memory given, inr (before, refused)))

  -- words that mean a command aren't refused
  pub not_both : {P : Type 0} → IsCommand words (Err fault) → P
  not_both {P} due = absurd (ok_isnt_err command fault (command_once words (Ok command) (Err fault) (not_refused command Memory given) due))

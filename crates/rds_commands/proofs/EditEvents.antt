-- A file that was edited, or took a copy, as events of the model.
use Rattle.std.proofs.Common.{◌∷◌, ◌++◌, [], ℕ, List, length, refl, subst}
use Rattle.rds_state.specs.Fits.{ReplicaValue}
use Rattle.rds_state.specs.declared.command.Command.{Command}
use Rattle.rds_world.specs.Replicas.{IsAskedIn, IsKeptIn, IsMadeBy, LeadsTo}
use Rattle.rds_world.specs.World.{World, Happening, Of, AnswerLent, run}
use Rattle.rds_world.specs.declared.event.Event.TheVariants.{Ask, Crash, Save, Take}
use Rattle.rds_world.proofs.Changes.{edits_make, saved}
use Rattle.rds_world.proofs.Open.{TakesAnswer, leads_to, merged_open, opened, saved_open, then_open}
use Rattle.rds_world.proofs.Staying.{asks_stay}
use Rattle.rds_offline.proofs.MergeEvents.{merge_takes}
use Rattle.rds_lines.proofs.EditsMade.{lines_made, one_made}
use Rattle.rds_files.specs.Files.{ReplacedValue}
use Rattle.rds_commands.specs.Changing.{EditingsAreEdits, LinesAreEdits, MergesAreTakes, editing_events, merging_events}
use Rattle.rds_commands.specs.Sessions.{LeavesFile}

leaves : (w : World) (file : ReplacedValue) (commands : List Command) → IsKeptIn w file.before → IsMadeBy file.before commands file.kept → LeavesFile w (editing_events file.before commands) file
leaves w file commands keeps made = saved w file.before file.kept _ keeps made.own (edits_make w file.before commands file.kept keeps made)

pub editings_edited : EditingsAreEdits
editings_edited w path words file answer keeps edits =
    leaves w file (edits.command ∷ []) keeps (one_made edits.command file.before file.kept answer edits.due edits.edited)

pub lines_edited : LinesAreEdits
lines_edited w path lines file answers keeps edits =
    let made = lines_made lines 0 file.before file.kept answers edits.edited in
    (made.0, leaves w file made.0 keeps made.1)

-- ---- a copy that is taken

-- a replica is read, takes what another lent, and is saved
pub copy_taken : (w : World) (lent : ℕ) (source before v : ReplicaValue) → IsKeptIn w before → IsAskedIn w lent source → TakesAnswer before source before v → LeadsTo w (merging_events w before lent) v
copy_taken w lent source before v keeps lends takes =
    let own : ℕ = before.own in
    let read = opened w before keeps in
    let w1 : World = run (Of (Crash own) ∷ []) w in
    let took = merged_open w1 lent source before v (asks_stay w (Of (Crash own) ∷ []) lent source lends) read.is_open takes in
    let taking : List Happening = Of (Ask own) ∷ AnswerLent lent (length w.asks) ∷ Of (Take (length w.answers)) ∷ [] in
    let save = saved_open (run taking w1) v before took.is_open in
    let all = then_open w (Of (Crash own) ∷ []) (taking ++ Of (Save v.own) ∷ []) before v before v takes.own read (then_open w1 taking (Of (Save v.own) ∷ []) v v before v refl took save) in
    subst (λ (a : ℕ). LeadsTo w (Of (Crash own) ∷ Of (Ask own) ∷ AnswerLent lent (length w.asks) ∷ Of (Take (length w.answers)) ∷ Of (Save a) ∷ []) v) takes.own (leads_to w _ v all)

pub merges_taken : MergesAreTakes
merges_taken w lent components path from file keeps merges lends =
    copy_taken w lent merges.source.kept file.before file.kept keeps lends (merge_takes merges.source.kept file.before file.kept merges.merged)

-- Lines make of a replica what the commands of those that aren't refused make of it.
use Rattle.std.proofs.Common.{◌≡◌, ◌∙◌, ◌∷◌, [], ℕ, ◌+◌, Bool, List, true, false, None, Ok, Err, Result, refl, sym, ap, subst, inl, inr}
use Rattle.rds_names.specs.declared.fault.Fault.{Fault}
use Rattle.rds_state.specs.Coordinates.{Coordinates}
use Rattle.rds_state.specs.Fits.{ReplicaValue}
use Rattle.rds_state.specs.Value.{coordinates}
use Rattle.rds_state.specs.declared.command.Command.{Command}
use Rattle.rds_world.specs.Replicas.{AreDone, IsMadeBy}
use Rattle.rds_world.specs.World.{after_edit}
use Rattle.rds_world.proofs.Edits.{edit_is}
use Rattle.rds_lines.specs.Editing.{EditsFirst, EditsLinesBehind, EditsNext, AnswersEdited, MeetsCommand, MeetsEdit, edit_of_bytes, edit_refusal}
use Rattle.rds_lines.specs.Lines.{is_empty_line}
use Rattle.rds_output.specs.declared.reply.Reply.{Reply}

-- one command before others
made_first : (c : Command) (commands : List Command) (before next after : ReplicaValue) (answer : Reply) → edit_refusal before c ≡ None → AnswersEdited c before next answer → IsMadeBy next commands after → IsMadeBy before (c ∷ commands) after
made_first c commands before next after answer due e later =
    let same : coordinates next.state ≡ after_edit (coordinates before.state) before.own c = edit_is (coordinates before.state) (coordinates next.state) before.own c e.joined in
    record {
      roster = later.roster ∙ e.roster;
      own = later.own ∙ e.own;
      done = (due, subst (λ (a : Coordinates). AreDone before.own a commands (coordinates after.state)) same (subst (λ (own : ℕ). AreDone own (coordinates next.state) commands (coordinates after.state)) e.own later.done));
    }

none_made : (before after : ReplicaValue) → after ≡ before → IsMadeBy before [] after
none_made before after same = record { roster = ap (λ (v : ReplicaValue). v.roster) same; own = ap (λ (v : ReplicaValue). v.own) same; done = ap (λ (v : ReplicaValue). coordinates v.state) same }

pub one_made : (c : Command) (before after : ReplicaValue) (answer : Reply) → edit_refusal before c ≡ None → AnswersEdited c before after answer → IsMadeBy before (c ∷ []) after
one_made c before after answer due e = made_first c [] before after after answer due e (none_made after after refl)

abbrev Made : ReplicaValue → ReplicaValue → Type 0
Made before after = (commands : List Command) × IsMadeBy before commands after

met_command : (line : ℕ) (asked : Result Command Fault) (before next after : ReplicaValue) (answer : Reply) → MeetsCommand line asked before answer next → Made next after → Made before after
met_command line (Ok c) before next after answer (inl done) rest = (c ∷ rest.0, made_first c rest.0 before next after answer done.0 done.1 rest.1)
met_command line (Ok c) before next after answer (inr refused) rest = subst (λ (v : ReplicaValue). Made v after) refused.2.1 rest
met_command line (Err fault) before next after answer refused rest = subst (λ (v : ReplicaValue). Made v after) refused.1 rest

met_edit : (line : ℕ) (bytes : List ℕ) (before next after : ReplicaValue) (answer : Reply) → MeetsEdit line bytes before answer next → Made next after → Made before after
met_edit line bytes before next after answer (inl refused) rest = subst (λ (v : ReplicaValue). Made v after) refused.1 rest
met_edit line bytes before next after answer (inr met) rest = met_command line (edit_of_bytes bytes) before next after answer met rest

first_made : (empty : Bool) (line : ℕ) (bytes : List ℕ) (Later : ReplicaValue → ReplicaValue → List Reply → Type 0) (before after : ReplicaValue) (answers : List Reply)
    → ((from to : ReplicaValue) (rest : List Reply) → Later from to rest → Made from to) → EditsNext empty line bytes Later before after answers → Made before after
first_made true line bytes Later before after answers later e = later before after answers e
first_made false line bytes Later before after answers later e = met_edit line bytes before e.next after e.answer e.met (later e.next after e.rest e.later)

pub lines_made : (lines : List (List ℕ)) (count : ℕ) (before after : ReplicaValue) (answers : List Reply) → EditsLinesBehind count lines before after answers → (commands : List Command) × IsMadeBy before commands after
lines_made [] count before after answers e = ([], none_made before after e.0)
lines_made (bytes ∷ lines) count before after answers e =
    first_made (is_empty_line bytes) (count + 1) bytes (EditsLinesBehind (count + 1) lines) before after answers (λ from to rest later. lines_made lines (count + 1) from to rest later) e

-- What documents of programs do, as events of the model.
use Rattle.std.proofs.Common.{◌≡◌, ◌∷◌, [], List, Ok, inl, inr}
use Rattle.rds_lines.proofs.EditsMade.{lines_made}
use Rattle.rds_offline.proofs.Brought.{Responded, brought, takes_answer}
use Rattle.rds_offline.proofs.MergeEvents.{merge_takes}
use Rattle.rds_state.specs.Fits.{ReplicaValue}
use Rattle.rds_state.specs.Value.{coordinates}
use Rattle.rds_state.specs.declared.command.Command.{Command}
use Rattle.rds_state.specs.declared.command.Edited.{Edited}
use Rattle.rds_world.specs.Replicas.{IsMadeBy}
use Rattle.rds_world.proofs.Edits.{edit_is}
use Rattle.rds_world.proofs.Open.{answered_open, answers_now, asked_open, asked_within, asks_now, edited_open, merged_open, opened, saved_open, taken_open}
use Rattle.rds_store.specs.Edits.{MayEdit}
use Rattle.rds_store.specs.Events.{DocumentsAnswer, EditsAreEdits, KeepsAreSaves, DocumentLinesAreEdits, DocumentsMerge, OpeningsAreCrashes, DocumentsAsk, DocumentsTake}

pub openings_crashed : OpeningsAreCrashes
openings_crashed = opened

pub keeps_saved : KeepsAreSaves
keeps_saved = saved_open

edit_made : (command : Command) (edited : Edited) (before after : ReplicaValue) → MayEdit (Ok command) before (Ok edited) after → IsMadeBy before (command ∷ []) after
edit_made command edited before after (inl none) = absurd (let same = none.0 in cc)
edit_made command edited before after (inr done) = record {
  roster = done.roster;
  own = done.own;
  done = (done.edited.due, edit_is (coordinates before.state) (coordinates after.state) before.own command done.edited.joined);
}

pub edits_edited : EditsAreEdits
edits_edited w command edited before after kept is_open may = edited_open w (command ∷ []) before after kept is_open (edit_made command edited before after may)

pub lines_edited : DocumentLinesAreEdits
lines_edited w lines replies before after kept is_open edited =
    let made = lines_made lines 0 before after replies edited in
    (made.0, edited_open w made.0 before after kept is_open made.1)

pub questions_asked : DocumentsAsk
questions_asked w document is_open = (asked_open w document is_open, (asks_now w document is_open.kept).1)

pub answers_answered : DocumentsAnswer
answers_answered w number asked document asks is_open =
    (answered_open w number asked document asks is_open.kept document document is_open, (answers_now w number asked document asks is_open.kept).1)

pub takes_taken : DocumentsTake
takes_taken w number components question answer asked peer before after kept rosters asked_value peer_value text responds answered is_open takes =
    let responded : Responded question answer.items peer = record { asked = responds.asked; within = responds.within; is_question = responds.is_question; greets = responds.responds.0; responds = responds.responds.1 } in
    let its = brought asked peer before after question answer.items components asked_value peer_value text responded takes in
    let enough = asked_within w number asked peer before rosters answered is_open.memory its.replica.own in
    taken_open w number asked peer before after kept answered is_open (takes_answer asked peer before after question answer.items components asked_value peer_value text responded takes enough)

pub merges_taken : DocumentsMerge
merges_taken w lent components snapshot before after is_open merges lends =
    merged_open w lent merges.source before after lends is_open (merge_takes merges.source before after merges.merged)

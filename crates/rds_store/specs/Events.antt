-- Documents of programs, as replicas of the model of all.
use Rattle.std.specs.Prelude.{◌≡◌, ℕ, List, [], ◌∷◌, length, Ok}
use Rattle.std.specs.Global.{Vec}
use Rattle.rds_codec.specs.StateTexts.{IsSnapshot}
use Rattle.rds_lines.specs.Editing.{EditsLines}
use Rattle.rds_offline.specs.Letters.{TakesResponse}
use Rattle.rds_output.specs.declared.reply.Reply.{Reply}
use Rattle.rds_questions.specs.Questions.{question_of, question_text}
use Rattle.rds_state.specs.Fits.{ReplicaValue}
use Rattle.rds_state.specs.declared.command.Command.{Command}
use Rattle.rds_state.specs.declared.command.Edited.{Edited}
use Rattle.rds_world.specs.Coherent.{HasRosters}
use Rattle.rds_world.specs.Replicas.{IsAnsweredIn, IsAskedIn, IsKeptIn, IsOpenIn, MakeOpen, edits}
use Rattle.rds_world.specs.World.{World, Of, AnswerLent, run}
use Rattle.rds_world.specs.declared.event.Event.TheVariants.{Answer, Ask, Crash, Edit, Save, Take}
use Rattle.rds_store.specs.Edits.{MayEdit}
use Rattle.rds_store.specs.Meetings.{MergesSnapshot, RespondsTo}

-- what is kept is read again: what wasn't kept is lost
abbrev pub OpeningsAreCrashes : Type 0
OpeningsAreCrashes = (w : World) (kept : ReplicaValue) → IsKeptIn w kept
    → MakeOpen w (Of (Crash kept.own) ∷ []) kept kept

-- an edit that is done
abbrev pub EditsAreEdits : Type 0
EditsAreEdits = (w : World) (command : Command) (edited : Edited) (before after kept : ReplicaValue)
    → IsOpenIn w before kept → MayEdit (Ok command) before (Ok edited) after
    → MakeOpen w (Of (Edit before.own command) ∷ []) after kept

-- lines that edit: the commands of those that aren't refused
abbrev pub DocumentLinesAreEdits : Type 0
DocumentLinesAreEdits = (w : World) (lines : List (List ℕ)) (replies : List Reply) (before after kept : ReplicaValue)
    → IsOpenIn w before kept → EditsLines lines before after replies
    → (commands : List Command) × MakeOpen w (edits before.own commands) after kept

abbrev pub KeepsAreSaves : Type 0
KeepsAreSaves = (w : World) (document kept : ReplicaValue) → IsOpenIn w document kept
    → MakeOpen w (Of (Save document.own) ∷ []) document document

-- what a document that is kept asks
abbrev pub DocumentsAsk : Type 0
DocumentsAsk = (w : World) (document : ReplicaValue) → IsOpenIn w document document
    → MakeOpen w (Of (Ask document.own) ∷ []) document document
    × IsAskedIn (run (Of (Ask document.own) ∷ []) w) (length w.asks) document

-- what a document that is kept answers to that, at any later time
abbrev pub DocumentsAnswer : Type 0
DocumentsAnswer = (w : World) (number : ℕ) (asked document : ReplicaValue) → IsAskedIn w number asked
    → IsOpenIn w document document
    → MakeOpen w (Of (Answer document.own number) ∷ []) document document
    × IsAnsweredIn (run (Of (Answer document.own number) ∷ []) w) (length w.answers) asked document

-- what the one that asked, by then, takes of that answer, at any later time
abbrev pub DocumentsTake : Type 0
DocumentsTake =
    (w : World) (number components : ℕ) (question : List ℕ) (answer : Vec ℕ) (asked peer before after kept : ReplicaValue)
    → HasRosters w → IsSnapshot asked → IsSnapshot peer → question ≡ question_text (question_of asked)
    → RespondsTo question peer (Ok answer) → IsAnsweredIn w number asked peer → IsOpenIn w before kept
    → TakesResponse question answer.items before after components
    → MakeOpen w (Of (Take number) ∷ []) after kept

-- all that another has seen is taken of a copy, which that lent when it was copied: as if the document asked, and were
-- answered with that
abbrev pub DocumentsMerge : Type 0
DocumentsMerge = (w : World) (lent components : ℕ) (snapshot : List ℕ) (before after : ReplicaValue)
    → IsOpenIn w before before → (merges : MergesSnapshot snapshot before after components)
    → IsAskedIn w lent merges.source
    → MakeOpen w
    (Of (Ask before.own) ∷ AnswerLent lent (length w.asks) ∷ Of (Take (length w.answers)) ∷ []) after before

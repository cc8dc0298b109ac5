-- What was done, from what the library's calls answer.
use Rattle.std.proofs.Common.{◌≡◌, ◌≢◌, ◌∙◌, ℕ, List, Option, Some, None, Result, Ok, Err, refl, ap₂, inl, inr}
use Rattle.std.specs.Prelude.{IfOk, OnErr}
use Rattle.std.specs.Global.{Vec}
use Rattle.rds_c.specs.Asked.{command_by, valued_of}
use Rattle.rds_c.specs.Promises.{IsRecord, Responds, changes_of}
use Rattle.rds_c.specs.Told.{EditsDocument, edited_for_c}
use Rattle.rds_c.specs.declared.asking.Verb.{Verb}
use Rattle.rds_c.specs.declared.status.EditedC.{EditedC}
use Rattle.rds_journal.specs.Records.{record_text}
use Rattle.rds_keep.specs.Changes.{ChangeValue, IsChanged, change_text}
use Rattle.rds_names.specs.AndThen.{◌>>=◌}
use Rattle.rds_names.specs.Gives.{Gives}
use Rattle.rds_names.specs.Path.{path_of}
use Rattle.rds_names.specs.Scalar.{scalar_of_text}
use Rattle.rds_names.specs.declared.fault.Fault.{Fault}
use Rattle.rds_names.specs.declared.scalar.Scalar.{Scalar}
use Rattle.rds_state.specs.Fits.{ReplicaValue}
use Rattle.rds_state.specs.declared.command.Command.{Command}
use Rattle.rds_state.specs.declared.command.Edited.{Edited}
use Rattle.rds_store.specs.Changes.{DraftValue}
use Rattle.rds_store.specs.Edits.{MayEdit}
use Rattle.rds_store.specs.Meetings.{MayAnswer}

-- the bytes of an answer are what the replica responds
pub responds : (question : List ℕ) (v : ReplicaValue) (made : Result (Vec ℕ) Fault) → MayAnswer question v made → IfOk made (λ bytes. Responds question v bytes.items)
responds question v (Ok bytes) may = record { bytes = bytes; responds = may; text_is = refl }
responds question v (Err fault) may = tt

-- ---- a value that is a text

abbrev at_path : Verb → Result Scalar Fault → Result (List (List ℕ)) Fault → Result Command Fault
at_path verb value path = path >>= λ p. value >>= λ v. Ok (command_by verb p v)

-- without a value there is no command
never : (verb : Verb) (fault : Fault) (path : Result (List (List ℕ)) Fault) (command : Command) → at_path verb (Err fault) path ≡ Ok command → ⊥
never verb fault (Ok p) command is = absurd cc
never verb fault (Err e) command is = absurd cc

abbrev Does : Result Command Fault → EditedC → Option DraftValue → Option DraftValue → Type 0
Does asked told = changes_of (λ v w. EditsDocument asked v w told)

-- what was done with the value that was made was done with the text
pub does_text : (verb : Verb) (path text : List ℕ) (made : Result Scalar Fault) (old new : Option DraftValue) (told : EditedC) → Gives made (scalar_of_text text) → Does (valued_of verb path made) told old new
    → Does (valued_of verb path (scalar_of_text text)) told old new
does_text verb path text (Ok value) old new told gives edits = rw gives edits
does_text verb path text (Err fault) (Some before) (Some after) told gives edits = absurd (never verb fault (path_of path) edits.0.command edits.0.asks)
does_text verb path text (Err fault) (Some before) None told gives edits = absurd edits
does_text verb path text (Err fault) None new told gives edits = absurd edits

-- ---- a line

other : (edited : Edited) (fault : Fault) → Ok edited ≡ Err fault → ⊥
other edited fault is = absurd cc

-- where a line's edit was reported as done, that was done which the line asks for
pub does_line : (asked : Result Command Fault) (before after : ReplicaValue) (done : Result Edited Fault) (status : ℕ) (told : EditedC) → MayEdit asked before done after → IfOk done (λ e. told ≡ edited_for_c e)
    → OnErr done (status ≢ 0) → status ≡ 0 → EditsDocument asked before after told
does_line asked before after (Err fault) status told may tells refused ended = absurd (refused ended)
does_line (Ok command) before after (Ok edited) status told (inr edits) tells refused ended =
    record { command = command; asks = refl; edited = edited; edits = edits; is_told = tells }
does_line (Err fault) before after (Ok edited) status told (inr nothing) tells refused ended = absurd (other edited fault nothing.0)
does_line asked before after (Ok edited) status told (inl memory) tells refused ended = absurd (other edited _ memory.0)

-- ---- files

-- the record of a change
pub a_record : (v : DraftValue) (change given : ChangeValue) (own : ℕ) (made : Result (Vec ℕ) Fault) → IsChanged v.kept change v.document → given ≡ change → own ≡ v.document.own
    → IfOk made (λ bytes. bytes.items ≡ record_text (change_text own given)) → IfOk made (λ bytes. IsRecord v bytes.items)
a_record v change given own (Ok bytes) changed same number is =
    record { change = change; changed = changed; text_is = is ∙ ap₂ (λ (n : ℕ) (c : ChangeValue). record_text (change_text n c)) number same }
a_record v change given own (Err fault) changed same number is = tt

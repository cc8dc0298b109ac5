-- What changed a replica, as the delta and the roster that it was joined with.
use Rattle.std.proofs.Common.{◌≡◌, ◌∙◌, ◌+◌, ◌≤◌, ◌∷◌, ℕ, Bool, true, false, List, [], length, append-nil, max, Option, Some, None, Result, Ok, Err, arith, refl, sym, ap, subst, inl, inr}
use Rattle.std.specs.FinMap as map
use Rattle.rds_names.specs.Roster.{Begins, RosterValue}
use Rattle.rds_names.specs.declared.fault.Fault.{Fault}
use Rattle.rds_life.specs.Life.{Dead, IsNoLater, Life, Live, join_life}
use Rattle.rds_state.specs.Coordinates.{AtMost, Coordinates, join}
use Rattle.rds_dots.specs.declared.dot.Dot.{Dot}
use Rattle.rds_state.specs.Edit.{JoinsEffect, effect, new_dot}
use Rattle.rds_state.specs.Fits.{Fits, ReplicaValue}
use Rattle.rds_state.specs.Made.{entry_made}
use Rattle.rds_state.specs.Value.{StateValue, coordinates, size}
use Rattle.rds_state.specs.declared.command.Command.{Command}
use Rattle.rds_state.specs.declared.command.Edited.{Edited}
use Rattle.rds_tree.specs.EditsWithDelta.{EditsWithDelta}
use Rattle.rds_output.specs.Reply.{edit_reply}
use Rattle.rds_state.proofs.FitsLemmas.{empty_fits}
use Rattle.rds_state.proofs.Nothing.{joins_nothing}
use Rattle.rds_state.proofs.JoinLaws.{above_left, reflexive, same_coordinates, transitive}
use Rattle.rds_state.proofs.MadeLemmas.{made_is}
use Rattle.rds_delta.specs.Least.{least}
use Rattle.rds_delta.specs.Ranks.{Ranks, ranks}
use Rattle.rds_delta.proofs.Exchanges.{least_fits}
use Rattle.rds_delta.proofs.LeastLaws.{grown_delta}
use Rattle.rds_keep.specs.Changes.{ChangeValue, IsChanged}
use Rattle.rds_files.specs.Files.{KeptFile}
use Rattle.rds_lines.specs.Editing.{EditsLines, EditsLinesBehind, EditsNext, AnswersEdited, MeetsCommand, MeetsEdit, edit_of_bytes}
use Rattle.rds_lines.specs.Lines.{is_empty_line}
use Rattle.rds_output.specs.declared.reply.Reply.{Reply}
use Rattle.rds_commands.specs.Edits.{IsGrownByNames, delta_alone}
use Rattle.rds_commands.proofs.Growing.{grown_begins}

begins_self : (r s : RosterValue) → s ≡ r → Begins r s
begins_self r s same = subst (Begins r) (sym same) (refl, ([], sym (append-nil r.names)))

-- ---- one edit

-- its effect is what it was joined with
pub joined_effect : (a b d : Coordinates) (own : ℕ) (command : Command) → JoinsEffect a own command b → d ≡ effect a own command (entry_made command) → b ≡ join a d
joined_effect a b d own command joins is =
    joins.joined ∙ ap (λ (m : Option _). join a (effect a own command m)) (made_is command joins.made joins.is_made) ∙ ap (join a) (sym is)

pub changed_by_delta : (old new : ReplicaValue) (delta : StateValue) → new.roster ≡ old.roster → new.own ≡ old.own → coordinates new.state ≡ join (coordinates old.state) (coordinates delta)
    → Fits (length old.roster.names) (coordinates delta) → IsChanged old (delta_alone delta) new
changed_by_delta old new delta roster own joined fits = record {
  roster = roster;
  begins = begins_self old.roster new.roster roster;
  own = own;
  joined = joined;
  fits = subst (λ (r : RosterValue). Fits (length r.names) (coordinates delta)) (sym roster) fits;
}

-- ---- many

-- the same replica, and all that it had seen
record Raises (before after : ReplicaValue) : Type 0 where
  roster : after.roster ≡ before.roster
  own : after.own ≡ before.own
  above : AtMost (coordinates before.state) (coordinates after.state)

raises_self : (before after : ReplicaValue) → after ≡ before → Raises before after
raises_self before after same =
    subst (Raises before) (sym same) (record { roster = refl; own = refl; above = reflexive (coordinates before.state) })

raises_then : (before next after : ReplicaValue) → Raises before next → Raises next after → Raises before after
raises_then before next after first later = record {
  roster = later.roster ∙ first.roster;
  own = later.own ∙ first.own;
  above = transitive (coordinates before.state) (coordinates next.state) (coordinates after.state) first.above later.above;
}

command_raises : (line : ℕ) (command : Result Command Fault) (before after : ReplicaValue) (answer : Reply) → MeetsCommand line command before answer after → Raises before after
command_raises line (Err fault) before after answer refused = raises_self before after refused.1
command_raises line (Ok command) before after answer met = elim met [
  | inl edits ↦ record {
    roster = edits.1.roster;
    own = edits.1.own;
    above = subst (AtMost (coordinates before.state)) (sym edits.1.joined.joined) (above_left (coordinates before.state) (effect (coordinates before.state) before.own command edits.1.joined.made));
  }
  | inr refused ↦ raises_self before after refused.2.1
]

line_raises : (line : ℕ) (bytes : List ℕ) (before after : ReplicaValue) (answer : Reply) → MeetsEdit line bytes before answer after → Raises before after
line_raises line bytes before after answer met = elim met [
  | inl memory ↦ raises_self before after memory.1
  | inr meets ↦ command_raises line (edit_of_bytes bytes) before after answer meets
]

lines_raise : (count : ℕ) (lines : List (List ℕ)) (before after : ReplicaValue) (answers : List Reply) → EditsLinesBehind count lines before after answers → Raises before after
lines_raise count [] before after answers edits = raises_self before after edits.0
lines_raise count (bytes ∷ lines) before after answers edits = of (is_empty_line bytes) (lines_raise (count + 1) lines) edits
  where
    of : (b : Bool) → ((first last : ReplicaValue) (told : List Reply) → EditsLinesBehind (count + 1) lines first last told → Raises first last) → EditsNext b (count + 1) bytes (EditsLinesBehind (count + 1) lines) before after answers → Raises before after
    of true later_raise later = later_raise before after answers later
    of false later_raise first = raises_then before first.next after (line_raises (count + 1) bytes before first.next first.answer first.met) (later_raise first.next after first.rest first.later)

-- a later life or number, joined into an earlier one, is what comes of it
later_life : (x y : Option Life) → IsNoLater x y → join_life x y ≡ y
later_life None y h = refl
later_life (Some (Live e)) None h = absurd h
later_life (Some (Live e)) (Some (Live f)) h = ap (λ e. Some (Live e)) h
later_life (Some (Live e)) (Some Dead) h = refl
later_life (Some Dead) None h = absurd h
later_life (Some Dead) (Some (Live f)) h = absurd h
later_life (Some Dead) (Some Dead) h = refl

greater_number : (x y : ℕ) → x ≤ y → max x y ≡ y
greater_number x y h = omega (arith, h)

join_above : (a b : Coordinates) → AtMost a b → join a b ≡ b
join_above a b h = same_coordinates (join a b) b (λ d. later_life (a.life d) (b.life d) (h.lives d)) (λ q. greater_number (a.number q) (b.number q) (h.numbers q))

-- the least delta of a state, against the ranks that a digest of another has
pub least_against : (after before now was : StateValue) (delta : Coordinates) (seen : Ranks) → delta ≡ least (coordinates now) seen → seen ≡ ranks (coordinates was) → now ≡ after → was ≡ before
    → delta ≡ least (coordinates after) (ranks (coordinates before))
least_against after before now was delta seen is of same first =
    is ∙ ap (least (coordinates now)) of ∙ ap (λ (s : StateValue). least (coordinates s) (ranks (coordinates was))) same ∙ ap (λ (s : StateValue). least (coordinates after) (ranks (coordinates s))) first

-- the least delta of what lines left against what was there before is what they changed
pub lines_changed : (lines : List (List ℕ)) (before after : ReplicaValue) (answers : List Reply) (delta : StateValue) → EditsLines lines before after answers
    → coordinates delta ≡ least (coordinates after.state) (ranks (coordinates before.state)) → Fits (length after.roster.names) (coordinates after.state) → IsChanged before (delta_alone delta) after
lines_changed lines before after answers delta edits is fits =
    let raises = lines_raise 0 lines before after answers edits in
    let a = coordinates before.state in
    let b = coordinates after.state in record {
      roster = raises.roster;
      begins = begins_self before.roster after.roster raises.roster;
      own = raises.own;
      joined = sym (ap (join a) is ∙ grown_delta b a a (reflexive a) ∙ join_above a b raises.above);
      fits = subst (Fits (length after.roster.names)) (sym is) (least_fits (length after.roster.names) b (ranks a) fits);
    }

-- ---- a longer roster

none_counted : (nothing : StateValue) → nothing.lives ≡ map.empty → nothing.counts ≡ map.empty → size nothing ≡ 0
none_counted nothing no_lives no_counts =
    let lives : map.len nothing.lives ≡ 0 = ap (λ v. map.len v) no_lives ∙ map.len-empty _ _ in
    let counts : map.len nothing.counts ≡ 0 = ap (λ v. map.len v) no_counts ∙ map.len-empty _ _ in
    omega (arith, lives, counts)

pub changed_by_names : (names : List (List ℕ)) (old new : ReplicaValue) (roster : RosterValue) (nothing : StateValue) → IsGrownByNames names old new → roster ≡ new.roster → nothing.lives ≡ map.empty → nothing.counts ≡ map.empty
    → IsChanged old (record { roster = Some roster; delta = nothing }) new
changed_by_names names old new roster nothing grown is no_lives no_counts = record {
  roster = sym is;
  begins = grown_begins old.roster new.roster names grown.roster;
  own = grown.own;
  joined = ap coordinates grown.state ∙ joins_nothing nothing (none_counted nothing no_lives no_counts) old.state;
  fits = empty_fits (length new.roster.names) nothing no_lives no_counts;
}

-- ---- in a file

pub changed_in : (file emptied : KeptFile) (old new : ReplicaValue) (change : ChangeValue) → old ≡ file.kept → emptied ≡ file → IsChanged old change new → IsChanged emptied.kept change new
changed_in file emptied old new change same is changed =
    subst (λ (r : ReplicaValue). IsChanged r change new) (same ∙ sym (ap (λ (f : KeptFile). f.kept) is)) changed

-- ---- one edit, as it is answered

module _ (old new : ReplicaValue) (command : Command) (told : Edited) (delta : StateValue) (edits : EditsWithDelta old command (Ok (told, delta)) new) where
  pub edited_told : (roster : RosterValue) (answer : Reply) → roster ≡ new.roster → answer ≡ edit_reply roster told.dot told.killed → AnswersEdited command old new answer
  edited_told roster answer same is = record {
    roster = edits.roster;
    own = edits.own;
    joined = edits.edited.joined;
    told = is ∙ ap (λ (r : RosterValue). edit_reply r told.dot told.killed) (same ∙ edits.roster) ∙ ap (λ (d : Option Dot). edit_reply old.roster d told.killed) edits.edited.dot
        ∙ ap (edit_reply old.roster (new_dot (coordinates old.state) old.own command)) edits.edited.killed;
  }

  pub edited_changed : IsChanged old (delta_alone delta) new
  edited_changed = changed_by_delta old new delta edits.roster edits.own (joined_effect (coordinates old.state) (coordinates new.state) (coordinates delta) old.own command edits.edited.joined edits.delta) edits.fits

-- Changes of a file that crashes broke off, as events of the model.
use Rattle.std.proofs.Common.{◌≡◌, inl, inr, ◌∙◌, ℕ, Bool, true, false, List, [], ◌∷◌, ◌++◌, refl, sym, ap, subst}
use Rattle.rds_state.specs.Fits.{ReplicaValue}
use Rattle.rds_world.specs.World.{World, Happening, Of, after, run}
use Rattle.rds_world.specs.declared.event.Event.TheVariants.{Crash, Save}
use Rattle.rds_world.specs.Replicas.{IsKeptIn, LeadsTo, MakeInMemory, edits}
use Rattle.rds_world.proofs.Changes.{edits_make, found, lost, saved}
use Rattle.rds_world.proofs.Runs.{accepted_on, run_on}
use Rattle.rds_recovery.specs.Events.{
  AreEdits,
  AreEventsOf,
  AreEventsOfAll,
  ChangeIsEvents,
  EditIsEvents,
  EditsAreEvents,
  IsChange,
  IsEdit,
  IsEnding,
  LeavesNoOther,
  edit_events,
}
use Rattle.rds_recovery.specs.Recovery.{Append, FileHolds, last_left}
use Rattle.rds_recovery.proofs.BrokenOff.{none_made_up}
use Rattle.rds_recovery.proofs.ReadingOn.{hold_one}

-- ---- one change

record Ends (w : World) (a : Append) (events : List Happening) (v : ReplicaValue) : Type 0 where
  ending : List Happening
  is_ending : IsEnding a.is_kept a.change.before.own ending
  leads : LeadsTo w (Of (Crash a.change.before.own) ∷ (events ++ ending)) v
  own : v.own ≡ a.change.before.own

module _ (w : World) (file : List ℕ) (a : Append) (events : List Happening) (kept : IsKeptIn w a.change.before) (is : IsChange file a) (made : MakeInMemory (after w (Crash a.change.before.own)) events a.change.after) where
  same_own : a.change.after.own ≡ a.change.before.own
  same_own = is.change.redone.changed.own

  ends : (b : Bool) → a.is_kept ≡ b → (ending : List Happening) (v : ReplicaValue) → IsEnding b a.change.before.own ending → LeadsTo w (Of (Crash a.change.before.own) ∷ (events ++ ending)) v → v.own ≡ a.change.before.own → Ends w a events v
  ends b e ending v is_ending its same = record { ending = ending; is_ending = subst (λ (k : Bool). IsEnding k a.change.before.own ending) (sym e) is_ending; leads = its; own = same }

  is_after : (v : ReplicaValue) → FileHolds a.left v → FileHolds a.left a.change.after → Ends w a events a.change.after → Ends w a events v
  is_after v read holds end = subst (Ends w a events) (hold_one a.left a.change.after v holds read) end

  by_kept : (b : Bool) → a.is_kept ≡ b → LeavesNoOther b file a → (v : ReplicaValue) → FileHolds a.left v → Ends w a events v
  by_kept true e leaves v read =
      is_after v read leaves (ends true e (Of (Save a.change.before.own) ∷ []) a.change.after refl (saved w a.change.before a.change.after events kept same_own made) same_own)
  by_kept false e leaves v read = elim leaves [
    | inl broken ↦ elim (none_made_up file a.change a.layout a.left v is.read is.change broken read) [
      | inl before ↦ subst (Ends w a events) (sym before)
          (ends false e (Of (Crash a.change.before.own) ∷ []) a.change.before (inl refl) (lost w a.change.before a.change.after events kept same_own made) refl)
      | inr is_it ↦ subst (Ends w a events) (sym is_it) there
    ]
    | inr holds ↦ is_after v read holds there
  ]
    where
      there : Ends w a events a.change.after
      there = ends false e (Of (Save a.change.before.own) ∷ Of (Crash a.change.before.own) ∷ []) a.change.after (inr refl) (found w a.change.before a.change.after events kept same_own made) same_own

ends_so : (w : World) (file : List ℕ) (a : Append) (events : List Happening) (v : ReplicaValue) → IsKeptIn w a.change.before → IsChange file a → MakeInMemory (after w (Crash a.change.before.own)) events a.change.after → FileHolds a.left v → Ends w a events v
ends_so w file a events v kept is made read = by_kept w file a events kept is made a.is_kept refl is.leaves v read

pub change_is_events : (w : World) (file : List ℕ) (a : Append) → ChangeIsEvents w file a
change_is_events w file a events v kept is made read = (let end = ends_so w file a events v kept is made read in (end.ending, end.is_ending, end.leads))

-- ---- one edit

record Has (w : World) (a : Append) (v : ReplicaValue) : Type 0 where
  events : List Happening
  are : AreEventsOf a events
  leads : LeadsTo w events v
  own : v.own ≡ a.change.before.own

has : (w : World) (file : List ℕ) (a : Append) (v : ReplicaValue) → IsKeptIn w a.change.before → IsEdit file a → FileHolds a.left v → Has w a v
has w file a v kept is read =
    let own = a.change.before.own in
    let end = ends_so w file a (edits own is.commands) v kept is.change (edits_make w a.change.before is.commands a.change.after kept is.made) read in
    record {
      events = edit_events own is.commands end.ending;
      are = record { commands = is.commands; made = is.made; ending = end.ending; is_ending = end.is_ending; parts = refl };
      leads = end.leads;
      own = end.own;
    }

pub edit_is_events : (w : World) (file : List ℕ) (a : Append) → EditIsEvents w file a
edit_is_events w file a v kept is read = (let h = has w file a v kept is read in (h.events, h.are, h.leads))

-- ---- one after the other

read_first : (file : List ℕ) (appends : List Append) (v : ReplicaValue) → AreEdits file appends → FileHolds (last_left file appends) v → (u : ReplicaValue) × FileHolds file u
read_first file [] v are read = (v, read)
read_first file (a ∷ appends) v are read = (a.change.before, (a.layout, are.0.change.read))

record HasAll (w : World) (appends : List Append) (own : ℕ) (v : ReplicaValue) : Type 0 where
  events : List Happening
  are : AreEventsOfAll appends events
  same : v.own ≡ own
  leads : LeadsTo w events v

two_lists : (w : World) (es fs : List Happening) (u v : ReplicaValue) → v.own ≡ u.own → LeadsTo w es u → LeadsTo (run es w) fs v → LeadsTo w (es ++ fs) v
two_lists w es fs u v own first later = record {
  accepted = (accepted_on es fs w).1 (first.accepted, later.accepted);
  kept = subst (λ (x : World). IsKeptIn x v) (sym (run_on es fs w)) later.kept;
  others = λ r other. ap (λ (x : World). x.kept r) (run_on es fs w) ∙ later.others r other ∙ first.others r (λ same. other (same ∙ sym own));
}

all_are : (w : World) (file : List ℕ) (appends : List Append) (first v : ReplicaValue) → IsKeptIn w first → FileHolds file first → AreEdits file appends → FileHolds (last_left file appends) v → HasAll w appends first.own v
all_are w file [] first v kept holds are read =
    subst (HasAll w [] first.own) (hold_one file first v holds read) (record { events = []; are = refl; same = refl; leads = record { accepted = tt; kept = kept; others = λ r other. refl } })
all_are w file (a ∷ appends) first v kept holds are read =
    let next = read_first a.left appends v are.1 read in
    let same : first ≡ a.change.before = hold_one file first a.change.before holds (a.layout, are.0.change.read) in
    let h = has w file a next.0 (subst (IsKeptIn w) same kept) are.0 next.1 in
    let later = all_are (run h.events w) a.left appends next.0 v h.leads.kept next.1 are.1 read in
    record {
      events = h.events ++ later.events;
      are = (h.events, later.events, refl, h.are, later.are);
      same = later.same ∙ h.own ∙ ap (λ (x : ReplicaValue). x.own) (sym same);
      leads = two_lists w h.events later.events next.0 v later.same h.leads later.leads;
    }

pub edits_are_events : (w : World) (file : List ℕ) (appends : List Append) → EditsAreEvents w file appends
edits_are_events w file appends first v kept holds are read = (let h = all_are w file appends first v kept holds are read in (h.events, h.are, h.leads))

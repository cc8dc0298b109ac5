-- What a file that holds a replica makes of a delta that was checked.
use Rattle.std.proofs.Common.{◌≡◌, ◌∙◌, ℕ, List, [], Option, Some, None, Result, Ok, Err, IfErr, inl, inr, refl, sym, subst}
use Rattle.std.proofs.lemmas.List.{append-nil}
use Rattle.rds_names.specs.Roster.{RosterValue, OneBegins}
use Rattle.rds_names.specs.declared.fault.Fault.{Fault}
use Rattle.rds_names.specs.declared.fault.Fault.TheVariants.{Memory, Conflict, OwnAhead, WrongGroup, WrongRoster}
use Rattle.rds_state.specs.Fits.{ReplicaValue}
use Rattle.rds_state.specs.Grown.{TakeWithGives}
use Rattle.rds_state.specs.Value.{StateValue, coordinates, size}
use Rattle.rds_delta.specs.Least.{IsAbove}
use Rattle.rds_delta.specs.Ranks.{ranks}
use Rattle.rds_delta.proofs.LeastLaws.{above_agrees, compatible_sym}
use Rattle.rds_session.specs.Judging.{roster_among}
use Rattle.rds_session.specs.Received.{Delivery, IsChecked, IsLongerIfThere}
use Rattle.rds_files.specs.Files.{IsHeldAt, KeptFile, ReplacedValue}
use Rattle.rds_meetings.specs.Settling.{JoinsWith, IsSameReplica, KeepsTaken, RefusesAt, RefusesJoin, RefusesKnown, SettlesDelta, FileTakes}
use Rattle.rds_meetings.specs.declared.settling.Settled.{Settled}
use Rattle.rds_meetings.specs.declared.settling.Settled.TheVariants.{Taken, Unkept}

-- a delta comes with a roster of the replica's own group
meet_in_group : (r s : RosterValue) → OneBegins r s → r.group ≡ s.group
meet_in_group r s (inl begins) = begins.0
meet_in_group r s (inr begins) = sym begins.0

came_in_group : (asked : ReplicaValue) (roster : Option RosterValue) → IsLongerIfThere asked.roster roster → asked.roster.group ≡ (roster_among asked.roster roster).group
came_in_group asked None grows = refl
came_in_group asked (Some peers) grows = grows.begins.0

-- it never conflicts where all that it has is above what is here
refused_known : (old : ReplicaValue) (came : RosterValue) (delta : StateValue) (fault : Fault) → old.roster.group ≡ came.group → TakeWithGives {T = Unit {0}} old.roster came old.state old.own delta (Err fault)
    → IsAbove (coordinates delta) (ranks (coordinates old.state)) → RefusesKnown old came delta fault
refused_known old came delta Memory group gives above = refl
refused_known old came delta WrongGroup group gives above = absurd (gives group)
refused_known old came delta WrongRoster group gives above = gives.1
refused_known old came delta (OwnAhead own) group gives above = gives.1
refused_known old came delta (Conflict r n) group gives above =
    let agrees = compatible_sym (coordinates delta) (coordinates old.state) (above_agrees (coordinates delta) (coordinates old.state) above) in
    absurd (gives.1.1.here (agrees.each_dot (record { replica = r; seq = n })))
refused_known old came delta fault group gives above = absurd gives.1.1

pub refused : (asked held : ReplicaValue) (delta : StateValue) (roster : Option RosterValue) (came : RosterValue) (taken : Result (Unit {0}) Fault) → IsChecked asked (delta, roster) → IsSameReplica asked held → came ≡ roster_among asked.roster roster
    → TakeWithGives held.roster came held.state held.own delta taken → IfErr taken (RefusesJoin asked held (delta, roster))
refused asked held delta roster came (Ok x) checked same is gives = tt
refused asked held delta roster came (Err fault) checked same is gives =
    let gave = subst (λ (r : RosterValue). TakeWithGives {T = Unit {0}} held.roster r held.state held.own delta (Err fault)) is gives in
    let group : held.roster.group ≡ (roster_among asked.roster roster).group = sym (meet_in_group asked.roster held.roster same.rosters) ∙ came_in_group asked roster checked.grows in
    inr (same, record { gives = inr gave; above = refused_known held (roster_among asked.roster roster) delta fault group gave })

-- what a file held under its lock doesn't take a delta
pub refused_held : (path : List ℕ) (file : KeptFile) (asked : ReplicaValue) (delivery : Delivery) (fault : Fault) → IsHeldAt path file → RefusesJoin asked file.kept delivery fault → RefusesAt path asked delivery fault
refused_held path file asked delivery fault held why = inr (record { held = file.kept; value = held.value; why = why })

-- what a file held under its lock took a delta, and was kept there or couldn't be
pub taken_held : (path : List ℕ) (file : KeptFile) (asked : ReplicaValue) (delivery : Delivery) (kept : ReplicaValue) (components : ℕ) (settled : Settled) (new : Option ReplacedValue)
    → IsHeldAt path file → IsSameReplica asked file.kept → JoinsWith file.kept (roster_among asked.roster delivery.1) delivery.0 kept → components ≡ size delivery.0
    → KeepsTaken file kept components settled new → SettlesDelta path asked delivery settled new
taken_held path file asked delivery kept components (Taken n) (Some new) held same joined count keeps =
    let taken : FileTakes path asked delivery (record { path = file.path; before = file.kept; kept = kept }) =
    record { replaced = record { at = held.at; value = held.value; place = held.place }; same = same; joined = joined } in (
      subst (FileTakes path asked delivery) (sym keeps.0) taken,
      keeps.1 ∙ count,
    )
taken_held path file asked delivery kept components (Unkept fault) None held same joined count keeps =
    record { held = file.kept; value = held.value; same = same; kept = kept; joined = joined; why = keeps }
taken_held path file asked delivery kept components settled new held same joined count keeps = absurd keeps

-- ---- the replica that asked for it

begins_self : (r : RosterValue) → OneBegins r r
begins_self r = inl (refl, ([], sym (append-nil r.names)))

pub same_self : (asked : ReplicaValue) → IsSameReplica asked asked
same_self asked = record { rosters = begins_self asked.roster; own = refl }

-- How a session ends, by the marks that are told.
use Rattle.std.proofs.Common.{◌≡◌, ◌≢◌, Bool, true, false, cond, refl, ap}
use mathlib.Core.Bool.{false≢true}
use Rattle.rds_delta.proofs.LeastLaws.{compatible_sym}
use Rattle.rds_state.specs.Fits.{ReplicaValue}
use Rattle.rds_state.specs.Mark.{mark_of}
use Rattle.rds_state.specs.Value.{coordinates}
use Rattle.rds_life.specs.Life.{LivesAreCompatible}
use Rattle.rds_session.proofs.Joined.{both_hold}
use Rattle.rds_answers.proofs.MarkHalves.{mark_is_mark}
use Rattle.rds_session.proofs.MarkTexts.{same_decides}
use Rattle.rds_session.proofs.Told.{AreAlike, ending}
use Rattle.rds_session.specs.Judging.{Finishes, Forks}
use Rattle.rds_session.specs.Marked.{same_mark}
use Rattle.rds_session.specs.Meeting.{AgreeWhereTold, held_with, last_mark}
use Rattle.rds_session.specs.Versions.{tells_marks}
use Rattle.rds_session.specs.declared.version.Version.{Version}
use Rattle.rds_session.specs.declared.version.Version.TheVariants.{One, Two, Three, Four, Five}

-- a version has both tell a mark, or neither
pub are_alike : (version : Version) (a b c d : ReplicaValue) → AreAlike (last_mark version a b) (last_mark version c d)
are_alike One a b c d = tt
are_alike Two a b c d = tt
are_alike Three a b c d = mark_is_mark (held_with c d)
are_alike Four a b c d = mark_is_mark (held_with c d)
are_alike Five a b c d = mark_is_mark (held_with c d)

agreed : (own peer : ReplicaValue) → LivesAreCompatible own.state.lives peer.state.lives
    → cond (same_mark (mark_of (held_with own peer)) (mark_of (held_with peer own))) Finishes Forks ≡ Finishes
agreed own peer agree =
    ap (λ (same : Bool). cond same Finishes Forks) ((same_decides (mark_of (held_with own peer)) (mark_of (held_with peer own))).1 (ap mark_of (both_hold own peer agree)))

-- replicas that agree hold one state, so they finish
pub ending_agreed : (version : Version) (own peer : ReplicaValue) → AgreeWhereTold version own peer → ending (last_mark version own peer) (last_mark version peer own) ≡ Finishes
ending_agreed One own peer agree = refl
ending_agreed Two own peer agree = refl
ending_agreed Three own peer agree = agreed own peer (agree refl)
ending_agreed Four own peer agree = agreed own peer (agree refl)
ending_agreed Five own peer agree = agreed own peer (agree refl)

by_other : (same : Bool) → (same ≡ true → ⊥) → cond same Finishes Forks ≡ Forks
by_other true other = absurd (other refl)
by_other false other = refl

forked : (own peer : ReplicaValue) → mark_of (held_with own peer) ≢ mark_of (held_with peer own)
    → cond (same_mark (mark_of (held_with own peer)) (mark_of (held_with peer own))) Finishes Forks ≡ Forks
forked own peer other =
    by_other (same_mark (mark_of (held_with own peer)) (mark_of (held_with peer own))) (λ e. other ((same_decides (mark_of (held_with own peer)) (mark_of (held_with peer own))).0 e))

-- where the marks differ, a fork is reported
pub ending_forked : (version : Version) (own peer : ReplicaValue) → tells_marks version ≡ true → mark_of (held_with own peer) ≢ mark_of (held_with peer own)
    → ending (last_mark version own peer) (last_mark version peer own) ≡ Forks
ending_forked One own peer tells other = absurd (false≢true tells)
ending_forked Two own peer tells other = absurd (false≢true tells)
ending_forked Three own peer tells other = forked own peer other
ending_forked Four own peer tells other = forked own peer other
ending_forked Five own peer tells other = forked own peer other

pub agree_turned : (version : Version) (a b : ReplicaValue) → AgreeWhereTold version a b → AgreeWhereTold version b a
agree_turned version a b agree tells =
    let h = agree tells in
    record { each_dot = (compatible_sym (coordinates a.state) (coordinates b.state) (record { each_dot = h.each_dot })).each_dot }

-- The definitions compute on a run, but for the greatest number, which is found by a lemma.
use Rattle.std.proofs.Common.{◌≡◌, ℕ, suc, zero, Bool, true, false, cond, refl, nat_lt, Some, None}
use Rattle.rds_names.specs.declared.fault.Fault.{Fault}
use Rattle.rds_names.specs.declared.fault.Fault.TheVariants.{SeqFull}
use Rattle.rds_dots.specs.declared.dot.TheConstants.{MAX_SEQ}
use Rattle.rds_dots.specs.Lacking.{dot_of}
use Rattle.rds_life.specs.Life.{entry_of}
use Rattle.rds_state.specs.Edit.{greatest, own_top, seq_fault}
use Rattle.rds_state.specs.Made.{entry_made}
use Rattle.rds_world.specs.World.{empty, initial_world, run, Accepted}
use Rattle.rds_world.specs.Example.{add_to_s, three, lost_and_again}

none_top : (m : ℕ) → greatest (λ n. false) m ≡ 0
unfolding greatest
none_top zero = refl
none_top (suc m) = none_top m

when : (b : Bool) → b ≡ true → (x : Fault) → cond b None (Some x) ≡ None
when b e x = rw e refl

has_room : (t : ℕ) → t ≡ 0 → nat_lt t MAX_SEQ ≡ true
has_room t e = rw e refl

room_at_first : seq_fault (own_top empty 0) ≡ None
room_at_first = when (nat_lt (greatest (λ n. false) MAX_SEQ) MAX_SEQ) (has_room (greatest (λ n. false) MAX_SEQ) (none_top MAX_SEQ)) SeqFull

pub accepted : Accepted lost_and_again (initial_world three)
accepted = (room_at_first, (refl, (refl, (refl, (room_at_first, (refl, (refl, (refl, (refl, (refl, tt))))))))))

-- what the second replica then has of the dot
pub second_has : entry_of (((run lost_and_again (initial_world three)).memory 1).life (dot_of 0 1)) ≡ entry_made (add_to_s 2)
second_has = rw (none_top MAX_SEQ) refl

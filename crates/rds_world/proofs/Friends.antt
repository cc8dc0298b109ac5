-- In a coherent world replicas are friends, and answers are taken.
use Rattle.std.proofs.Common.{◌≡◌, ◌≢◌, ℕ, sym, subst, ◌⊎◌, Some, Result, Ok, Err, slice_get}
use Rattle.rds_names.specs.declared.fault.Fault.{Fault}
use Rattle.rds_names.specs.declared.fault.Fault.TheVariants.{Memory as NoMemory}
use Rattle.rds_state.specs.Ahead.{TakeGives}
use Rattle.rds_state.specs.Friends.{KnowsItsOwn, AreFriends, MayTake}
use Rattle.rds_state.specs.Value.{StateValue, coordinates}
use Rattle.rds_state.proofs.FriendLemmas.{may_take_is_taken}
use Rattle.rds_world.specs.World.{World, Reply}
use Rattle.rds_world.specs.Coherent.{Store, Memory, Kept, state_in, IsCoherent}
use Rattle.rds_world.proofs.States.{knows_grown}
use Rattle.rds_world.proofs.Coherent.{IsIn, of_memory, of_kept, of_answer, agree_in, own_known}

module _ (w : World) (i : IsCoherent w) where
  store_in : (x : Store) (r : ℕ) → IsIn w (state_in w x r)
  store_in Memory r = of_memory r
  store_in Kept r = of_kept r

  -- what a replica has kept has all that another one's states have of its own
  pub kept_known : (x : Store) (r s : ℕ) → r ≢ s → KnowsItsOwn s (w.kept s) (state_in w x r)
  kept_known Memory r s n = i.in_memory r s n
  kept_known Kept r s n = i.in_kept r s

  store_known : (x y : Store) (r s : ℕ) → r ≢ s → KnowsItsOwn s (state_in w y s) (state_in w x r)
  store_known x Memory r s n = knows_grown s (w.kept s) (w.memory s) (state_in w x r) (kept_known x r s n) (i.kept_below s)
  store_known x Kept r s n = kept_known x r s n

  pub friends : (x y : Store) (r s : ℕ) → r ≢ s → AreFriends r (state_in w x r) s (state_in w y s)
  friends x y r s n = record {
    compatible = agree_in w i (state_in w x r) (state_in w y s) (store_in x r) (store_in y s);
    left_knows = store_known y x s r (λ e. n (sym e));
    right_knows = store_known x y r s n;
  }

  pub may_take : (k : ℕ) (m : Reply) → slice_get w.answers k ≡ Some m → MayTake m.asker (w.memory m.asker) m.state
  may_take k m e = record {
    compatible = agree_in w i (w.memory m.asker) m.state (of_memory m.asker) (of_answer k m e);
    knows = own_known w i m.state (of_answer k m e) m.asker;
  }

  pub not_refused : (k : ℕ) (m : Reply) (a d : StateValue) (result : Result (Unit {0}) Fault) → slice_get w.answers k ≡ Some m
      → coordinates a ≡ w.memory m.asker → coordinates d ≡ m.state → TakeGives a m.asker d result → (result ≡ Ok tt) ⊎ (result ≡ Err NoMemory)
  not_refused k m a d result e at_a at_d gives =
      may_take_is_taken m.asker a d result (subst (λ x. MayTake m.asker x (coordinates d)) (sym at_a) (subst (MayTake m.asker (w.memory m.asker)) (sym at_d) (may_take k m e))) gives

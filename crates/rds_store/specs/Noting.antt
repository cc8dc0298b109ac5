-- What was noted of a document.
use Rattle.std.specs.Prelude.{◌≡◌, ◌||◌, ◌++◌, ◌∷◌, [], Bool, Option, None, Some, IfSome}
use Rattle.std.specs.Global.{Vec}
use Rattle.rds_state.specs.Fits.{ReplicaValue}
use Rattle.rds_state.specs.Value.{StateValue}
use Rattle.rds_store.specs.Changes.{IsSince}
use Rattle.rds_store.specs.declared.changes.Changes.{Changes}

-- what became of a document since it was kept is this replica, where that is noted
abbrev pub AreSince : Changes → ReplicaValue → Type 0
AreSince c now = IfSome c.deltas (λ deltas. IsSince c.kept.value deltas.items c.is_grown now)

-- a delta comes behind those so far, where they are noted
abbrev pub HasAdded : StateValue → Option (Vec StateValue) → Option (Vec StateValue) → Type 0
HasAdded delta None new = new ≡ None
HasAdded delta (Some old) None = ⊥
HasAdded delta (Some old) (Some new) = new.items ≡ old.items ++ delta ∷ []

-- a delta is noted, and whether the roster grew by that
pub record Notes (delta : StateValue) (grew : Bool) (old new : Changes) : Type 0 where
  pub kept : new.kept.value ≡ old.kept.value
  pub deltas : HasAdded delta old.deltas new.deltas
  pub grown : new.is_grown ≡ (old.is_grown || grew)

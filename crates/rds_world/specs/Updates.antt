-- What the updates of a set come to: their effects, the join of these, and the dots that they made.
use Rattle.std.specs.Prelude.{◌≡◌, ◌⊎◌, ◌↔◌, ℕ, Bool, true, List, [], ◌∷◌, Some}
use Rattle.rds_names.specs.declared.entry.Entry.{Entry}
use Rattle.rds_dots.specs.declared.dot.Dot.{Dot}
use Rattle.rds_life.specs.Life.{Live, Dead}
use Rattle.rds_state.specs.Coordinates.{Coordinates, AtMost}
use Rattle.rds_state.specs.Document.{IsShown, IsCounted, value_in}
use Rattle.rds_state.specs.Edit.{covers, effect, new_dot}
use Rattle.rds_state.specs.Made.{entry_made}
use Rattle.rds_world.specs.declared.event.Event.TheVariants.{Edit}
use Rattle.rds_world.specs.World.{World, Happening, Of, put, next}
use Rattle.rds_world.specs.Held.{Update, Holdings, held_next, IsPresent, ChangesCounter, counter_value}

-- ---- the states on which edits ran

abbrev pub bases_with : (ℕ → Coordinates) → ℕ → World → Happening → ℕ → Coordinates
bases_with base n w (Of (Edit r c)) = put base n (w.memory r)
bases_with base n w e = base

-- the states on which the edits ran, by the numbers of their updates
abbrev pub bases : List Happening → (ℕ → Coordinates) → Holdings → World → ℕ → Coordinates
bases [] base h w = base
bases (e ∷ es) base h w = bases es (bases_with base h.size w e) (held_next h e) (next w e)

-- ---- for updates T that ran on the states B

-- the effect of an update on the state on which it ran
abbrev pub effect_of : (ℕ → Update) → (ℕ → Coordinates) → ℕ → Coordinates
effect_of T B u = effect (B u) (T u).replica (T u).command (entry_made (T u).command)

-- the state is the join of the set's states: the least one above them all
pub record IsJoinOf (E : ℕ → Coordinates) (S : ℕ → Bool) (a : Coordinates) : Type 0 where
  pub above : (u : ℕ) → S u ≡ true → AtMost (E u) a
  pub least : (b : Coordinates) → ((u : ℕ) → S u ≡ true → AtMost (E u) b) → AtMost a b

-- the update made the dot, with the entry
pub record Makes (T : ℕ → Update) (B : ℕ → Coordinates) (u : ℕ) (d : Dot) (e : Entry) : Type 0 where
  pub dot : new_dot (B u) (T u).replica (T u).command ≡ Some d
  pub entry : entry_made (T u).command ≡ Some e

-- an update of the set that held u covers the entry
abbrev pub IsCovered : (ℕ → Update) → (ℕ → Bool) → ℕ → Entry → Type 0
IsCovered T S u e = (v : ℕ) × (S v ≡ true) × ((T v).past u ≡ true) × (covers (T v).command e ≡ true)

-- the dot is that of exactly one update of the set, and dead exactly where an update of the set that held that one covers its entry
pub record IsExplained (T : ℕ → Update) (B : ℕ → Coordinates) (S : ℕ → Bool) (a : Coordinates) (d : Dot) : Type 0 where
  pub update : ℕ
  pub entry : Entry
  pub held : S update ≡ true
  pub makes : Makes T B update d entry
  pub only : (v : ℕ) (f : Entry) → S v ≡ true → Makes T B v d f → v ≡ update
  pub live : (a.life d ≡ Some Dead) ⊎ (a.life d ≡ Some (Live entry))
  pub dead : (a.life d ≡ Some Dead) ↔ IsCovered T S update entry

-- the document of the state is that of the set's updates, of which there are so many in all
pub record ShowsUpdates (T : ℕ → Update) (size : ℕ) (S : ℕ → Bool) (a : Coordinates) : Type 0 where
  pub entries : (e : Entry) → IsShown a e ↔ IsPresent T S e
  pub keys : (key : List ℕ) → IsCounted a key ↔ ChangesCounter T S key
  pub values : (key : List ℕ) → value_in a key ≡ counter_value T size S key

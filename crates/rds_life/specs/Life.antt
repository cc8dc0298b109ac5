-- The life of each dot, and the join of lives.
use Rattle.std.specs.Prelude.{◌≡◌, Bool, true, false, List, map as each, Option, Some, None, Result, Ok, Err}
use Rattle.std.specs.Ordering.{is_lt}
use Rattle.rds_names.specs.declared.fault.Fault.{Fault}
use Rattle.rds_names.specs.declared.fault.Fault.TheVariants.{Memory, Conflict}
use Rattle.std.specs.List.{list_all, filter_map}
use Rattle.std.specs.FinMap as map
use Rattle.std.specs.FinSet as set
use Rattle.rds_names.specs.declared.entry.Entry.{Entry}
use Rattle.rds_dots.specs.declared.dot.Dot.{Dot}
use Rattle.rds_dots.specs.Dots.{dot_cmp, Dots}
use Rattle.rds_dots.specs.Ascending.{ascends}

-- a seen dot is live with an entry, or dead
pub data Life : Type 0 where
  Live : Entry → Life
  Dead : Life

-- each seen dot's life; a dot that isn't there is unseen
abbrev pub Lived : Type 0
Lived = map.FinMap dot_cmp Life

-- the life of a seen dot: dead, unless a row has it
abbrev pub life_of : Option Entry → Life
life_of (Some e) = Live e
life_of None = Dead

abbrev pub life_in : List (Dot × Entry) → Dot → Life
life_in rows d = life_of (map.find dot_cmp d rows)

-- the seen dots, live where a row has them
abbrev pub lives_of : Dots → List (Dot × Entry) → Lived
lives_of seen rows = map.from_entries (each (λ d. (d, life_in rows d)) (set.items seen))

-- the dots of rows
abbrev pub keys : {X : Type 0} → List (Dot × X) → List Dot
keys rows = each (λ r. r.0) rows

-- the rows rise, and each is of a seen dot
pub record AreRows (seen : Dots) (rows : List (Dot × Entry)) : Type 0 where
  pub rise : ascends (keys rows) ≡ true
  pub seen_all : list_all (λ r. set.contains seen r.0) rows ≡ true

-- the dots that aren't unseen
abbrev pub seen_of : Lived → Dots
seen_of v = set.from_list (map.keys v)

-- the row of a dot that is live
abbrev pub live_row : Dot → Life → Option (Dot × Entry)
live_row d (Live e) = Some (d, e)
live_row d Dead = None

-- the live dots with their entries, in order
abbrev pub live_rows : Lived → List (Dot × Entry)
live_rows v = filter_map (λ x. live_row x.0 x.1) (map.entries v)

-- the live dots
abbrev pub live_of : Lived → Dots
live_of v = set.from_list (keys (live_rows v))

-- the entry of a live dot
abbrev pub entry_of : Option Life → Option Entry
entry_of None = None
entry_of (Some (Live e)) = Some e
entry_of (Some Dead) = None

-- whether a life is at its end
abbrev pub is_dead : Option Life → Bool
is_dead None = false
is_dead (Some (Live e)) = false
is_dead (Some Dead) = true

-- the later of two lives; an entry that both have is kept
abbrev pub join_life : Option Life → Option Life → Option Life
join_life None l = l
join_life (Some (Live e)) None = Some (Live e)
join_life (Some (Live e)) (Some (Live f)) = Some (Live e)
join_life (Some (Live e)) (Some Dead) = Some Dead
join_life (Some Dead) l = Some Dead

-- at each dot the later of two lives
pub record IsJoin (a b c : Lived) : Type 0 where
  pub each_dot : (d : Dot) → map.get c d ≡ join_life (map.get a d) (map.get b d)

-- the second life is as late or later; an entry that both have is one
abbrev pub IsNoLater : Option Life → Option Life → Type 0
IsNoLater None l = Unit {0}
IsNoLater (Some (Live e)) None = ⊥
IsNoLater (Some (Live e)) (Some (Live f)) = e ≡ f
IsNoLater (Some (Live e)) (Some Dead) = Unit {0}
IsNoLater (Some Dead) None = ⊥
IsNoLater (Some Dead) (Some (Live f)) = ⊥
IsNoLater (Some Dead) (Some Dead) = Unit {0}

-- no dot's life is later in the first
abbrev pub AreNoLater : (Dot → Option Life) → (Dot → Option Life) → Type 0
AreNoLater a b = (d : Dot) → IsNoLater (a d) (b d)

-- above both, and at most all that is above both
pub record IsLeastAbove (a b c : Lived) : Type 0 where
  pub left : AreNoLater (map.get a) (map.get c)
  pub right : AreNoLater (map.get b) (map.get c)
  pub least : (d : Lived) → AreNoLater (map.get a) (map.get d) → AreNoLater (map.get b) (map.get d)
      → AreNoLater (map.get c) (map.get d)

-- where both live, the entries are equal
abbrev pub Agree : Option Life → Option Life → Type 0
Agree (Some (Live e)) (Some (Live f)) = e ≡ f
Agree (Some (Live e)) None = Unit {0}
Agree (Some (Live e)) (Some Dead) = Unit {0}
Agree (Some Dead) l = Unit {0}
Agree None l = Unit {0}

-- no dot is live in both with different entries
pub record LivesAreCompatible (a b : Lived) : Type 0 where
  pub each_dot : (d : Dot) → Agree (map.get a d) (map.get b d)

-- the least dot that is live in both with different entries
pub record IsFirstConflict (a b : Lived) (d : Dot) : Type 0 where
  pub here : ¬ (Agree (map.get a d) (map.get b d))
  pub first : (q : Dot) → is_lt (dot_cmp q d) ≡ true → Agree (map.get a q) (map.get b q)

abbrev pub Conflicts : Lived → Lived → Option Dot → Type 0
Conflicts a b None = LivesAreCompatible a b
Conflicts a b (Some d) = IsFirstConflict a b d

-- when a merge succeeds, and which fault it gives; Memory only where it could succeed
abbrev pub MergeGives : {T : Type 0} → Lived → Lived → Result T Fault → Type 0
MergeGives a b (Ok x) = LivesAreCompatible a b
MergeGives a b (Err Memory) = LivesAreCompatible a b
MergeGives a b (Err (Conflict r n)) = IsFirstConflict a b (record { replica = r; seq = n })
MergeGives a b (Err f) = ⊥

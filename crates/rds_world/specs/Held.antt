-- Which updates each replica holds, from the events alone, and the document that they make.
use Rattle.std.specs.Prelude.{◌≡◌, ℕ, ◌<◌, Bool, true, false, cond, ◌||◌, ◌==◌, List, [], ◌∷◌, ◌++◌, Option, Some, None}
use Rattle.std.specs.Prelude.{suc, slice_get, ℤ, pos, ◌-ℤ◌}
use Rattle.std.specs.List.{sum_by, range_with_len}
use Rattle.std.specs.Str.{bytes_eq}
use Rattle.rds_names.specs.declared.entry.Entry.{Entry}
use Rattle.rds_counts.specs.declared.row.Which.{Which}
use Rattle.rds_counts.specs.declared.row.Which.TheVariants.{P, N}
use Rattle.rds_state.specs.Edit.{covers}
use Rattle.rds_state.specs.Made.{entry_made}
use Rattle.rds_state.specs.declared.command.Command.{Command}
use Rattle.rds_state.specs.declared.command.Command.TheVariants.{Clear, Inc, Dec}
use Rattle.rds_world.specs.declared.event.Event.{Event}
use Rattle.rds_world.specs.declared.event.Event.TheVariants.{Edit, Save, Crash, Ask, Answer, Take, Grow}
use Rattle.rds_world.specs.World.{Happening, Of, AnswerLent, put}

-- an edit, and which updates its replica's memory held just before
pub record Update : Type 0 where
  pub replica : ℕ
  pub command : Command
  pub past : ℕ → Bool

-- an ask or an answer: who asked, and which updates who made it had kept
pub record Remembered : Type 0 where
  pub asker : ℕ
  pub held : ℕ → Bool

-- Updates are numbered from 0 on, in the order of their events.
pub record Holdings : Type 0 where
  pub size : ℕ
  pub update : ℕ → Update
  pub memory : ℕ → ℕ → Bool
  pub kept : ℕ → ℕ → Bool
  pub asks : List Remembered
  pub answers : List Remembered

abbrev pub none : ℕ → Bool
none i = false

-- what stands where no update is
abbrev pub no_update : Update
no_update = record { replica = 0; command = Clear []; past = none }

abbrev pub nothing_held : Holdings
nothing_held = record { size = 0; update = λ i. no_update; memory = λ r. none; kept = λ r. none; asks = []; answers = [] }

abbrev pub in_one_of : (ℕ → Bool) → (ℕ → Bool) → ℕ → Bool
in_one_of s t i = s i || t i

abbrev pub with_update : (ℕ → Bool) → ℕ → ℕ → Bool
with_update s n i = s i || i == n

abbrev pub remembers : Holdings → (ℕ → Bool) → Option Remembered → Holdings
remembers h held None = h
remembers h held (Some q) = record h { answers = h.answers ++ record { asker = q.asker; held = held } ∷ [] }

abbrev pub remembers_lent : Holdings → Option Remembered → ℕ → Holdings
remembers_lent h None k = h
remembers_lent h (Some lent) k = remembers h lent.held (slice_get h.asks k)

abbrev pub takes : Holdings → Option Remembered → Holdings
takes h None = h
takes h (Some m) = record h { memory = put h.memory m.asker (in_one_of (h.memory m.asker) m.held) }

-- what is held after an event
abbrev pub hold : Holdings → Event → Holdings
hold h (Edit r c) = record h {
  size = suc h.size;
  update = put h.update h.size (record { replica = r; command = c; past = h.memory r });
  memory = put h.memory r (with_update (h.memory r) h.size);
}
hold h (Save r) = record h { kept = put h.kept r (h.memory r) }
hold h (Crash r) = record h { memory = put h.memory r (h.kept r) }
hold h (Ask r) = record h { asks = h.asks ++ record { asker = r; held = h.kept r } ∷ [] }
hold h (Answer s k) = remembers h (h.kept s) (slice_get h.asks k)
hold h (Take k) = takes h (slice_get h.answers k)
hold h (Grow r name) = h

abbrev pub held_next : Holdings → Happening → Holdings
held_next h (Of e) = hold h e
held_next h (AnswerLent j k) = remembers_lent h (slice_get h.asks j) k

abbrev pub holdings_after : List Happening → Holdings → Holdings
holdings_after [] h = h
holdings_after (e ∷ es) h = holdings_after es (held_next h e)

-- ---- the document of a set of updates

-- The entry is present: an update of the set made it, and no update of the set that held that one covers it.
abbrev pub IsPresent : (ℕ → Update) → (ℕ → Bool) → Entry → Type 0
IsPresent T S e = (u : ℕ) × (S u ≡ true) × (entry_made (T u).command ≡ Some e)
    × ((v : ℕ) → S v ≡ true → (T v).past u ≡ true → covers (T v).command e ≡ false)

-- how much a command adds to a key's increments or decrements
abbrev pub amount : Command → List ℕ → Which → ℕ
amount (Inc k by) key P = cond (bytes_eq k key) by 0
amount (Dec k by) key N = cond (bytes_eq k key) by 0
amount c key which = 0

-- how much an update adds, if it is of the set
abbrev pub share : (ℕ → Update) → (ℕ → Bool) → List ℕ → Which → ℕ → ℕ
share T S key which u = cond (S u) (amount (T u).command key which) 0

-- an update of the set changes the counter
abbrev pub ChangesCounter : (ℕ → Update) → (ℕ → Bool) → List ℕ → Type 0
ChangesCounter T S key = (u : ℕ) × (which : Which) × (S u ≡ true) × (0 < amount (T u).command key which)

-- what the first updates add that are of the set
abbrev pub total_of : (ℕ → Update) → ℕ → (ℕ → Bool) → List ℕ → Which → ℕ
total_of T size S key which = sum_by (share T S key which) (range_with_len 0 size)

-- all increments less all decrements
abbrev pub counter_value : (ℕ → Update) → ℕ → (ℕ → Bool) → List ℕ → ℤ
counter_value T size S key = pos (total_of T size S key P) -ℤ pos (total_of T size S key N)

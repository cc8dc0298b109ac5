-- All replicas of a document: what each has in memory and what it has kept, and every ask and answer that was made.
use Rattle.std.specs.Prelude.{◌≡◌, ℕ, Bool, cond, List, [], ◌∷◌, ◌++◌, Option, Some, None, nat_lt, ◌==◌, slice_get}
use Rattle.std.specs.Prelude.{is_some, suc, max, length}
use Rattle.rds_names.specs.declared.fault.Fault.{Fault}
use Rattle.rds_names.specs.declared.fault.Fault.TheVariants.{NoSuch, BadRoster, WrongRoster}
use Rattle.rds_names.specs.Roster.{are_names}
use Rattle.rds_state.specs.Coordinates.{Coordinates, join}
use Rattle.rds_state.specs.Edit.{effect, refusal}
use Rattle.rds_state.specs.Made.{entry_made}
use Rattle.rds_state.specs.declared.command.Command.{Command}
use Rattle.rds_delta.specs.Ranks.{ranks}
use Rattle.rds_delta.specs.Least.{least}
use Rattle.rds_world.specs.declared.event.Event.{Event}
use Rattle.rds_world.specs.declared.event.Event.TheVariants.{Edit, Save, Crash, Ask, Answer, Take, Grow}

-- what happens: an event of code; or, as AnswerLent j k, who made ask j answers ask k from what it had kept then
pub data Happening : Type 0 where
  Of : Event → Happening
  AnswerLent : ℕ → ℕ → Happening

-- an ask: who asked, how many names it had kept, and what state; these it lends to later answers
pub record Question : Type 0 where
  pub asker : ℕ
  pub names : ℕ
  pub state : Coordinates

-- an answer: the number of its ask, for whom and by whom it was made, how many names its maker had kept, and the delta
pub record Reply : Type 0 where
  pub question : ℕ
  pub asker : ℕ
  pub maker : ℕ
  pub names : ℕ
  pub state : Coordinates

pub record World : Type 0 where
  -- the names of the roster, and how many replicas there are by now
  pub roster : List (List ℕ)
  pub replicas : ℕ
  -- how many of the names each replica has in memory, and how many it has kept: these are the first ones
  pub memory_names : ℕ → ℕ
  pub kept_names : ℕ → ℕ
  pub memory : ℕ → Coordinates
  pub kept : ℕ → Coordinates
  pub asks : List Question
  pub answers : List Reply

-- the state without any component
abbrev pub empty : Coordinates
empty = record { life = λ d. None; number = λ q. 0 }

abbrev pub initial_world : List (List ℕ) → World
initial_world ns = record {
  roster = ns;
  replicas = length ns;
  memory_names = λ r. length ns;
  kept_names = λ r. length ns;
  memory = λ r. empty;
  kept = λ r. empty;
  asks = [];
  answers = [];
}

-- the function with another value at one place
abbrev pub put : {A : Type 0} → (ℕ → A) → ℕ → A → ℕ → A
put f r x s = cond (s == r) x (f s)

-- a state joined with the effect of a replica's command
abbrev pub after_edit : Coordinates → ℕ → Command → Coordinates
after_edit a own c = join a (effect a own c (entry_made c))

-- what a replica has kept, as it asks
abbrev pub lend : World → ℕ → Question
lend w r = record { asker = r; names = w.kept_names r; state = w.kept r }

-- what was lent, as the least delta for who asked
abbrev pub reply_from : Question → ℕ → Question → Reply
reply_from lent k q = record {
  question = k;
  asker = q.asker;
  maker = lent.asker;
  names = lent.names;
  state = least lent.state (ranks q.state);
}

abbrev pub reply : World → ℕ → ℕ → Question → Reply
reply w s = reply_from (lend w s)

abbrev pub after_reply : World → Question → ℕ → Option Question → World
after_reply w lent k None = w
after_reply w lent k (Some q) = record w { answers = w.answers ++ reply_from lent k q ∷ [] }

abbrev pub after_answer : World → ℕ → ℕ → Option Question → World
after_answer w s = after_reply w (lend w s)

abbrev pub after_lent : World → Option Question → ℕ → World
after_lent w None k = w
after_lent w (Some lent) k = after_reply w lent k (slice_get w.asks k)

abbrev pub after_take : World → Option Reply → World
after_take w None = w
-- the roster first grows to the longer one
after_take w (Some m) = record w {
  memory = put w.memory m.asker (join (w.memory m.asker) m.state);
  memory_names = put w.memory_names m.asker (max (w.memory_names m.asker) m.names);
}

-- the world after an event that isn't refused
abbrev pub after : World → Event → World
after w (Edit r c) = record w { memory = put w.memory r (after_edit (w.memory r) r c) }
after w (Save r) = record w { kept = put w.kept r (w.memory r); kept_names = put w.kept_names r (w.memory_names r) }
after w (Crash r) = record w { memory = put w.memory r (w.kept r); memory_names = put w.memory_names r (w.kept_names r) }
after w (Ask r) = record w { asks = w.asks ++ lend w r ∷ [] }
after w (Answer s k) = after_answer w s k (slice_get w.asks k)
after w (Take k) = after_take w (slice_get w.answers k)
-- the new replica has the next number, and has kept the new roster
after w (Grow r name) = record w {
  roster = w.roster ++ name ∷ [];
  replicas = suc w.replicas;
  memory_names = put (put w.memory_names r (suc w.replicas)) w.replicas (suc w.replicas);
  kept_names = put w.kept_names w.replicas (suc w.replicas);
}

-- NoSuch where something isn't there, else what else is due
abbrev pub unless_there : Bool → Option Fault → Option Fault
unless_there there due = cond there due (Some NoSuch)

-- why an event is refused, but for Memory and for texts beyond their limits
abbrev pub refusal_of : World → Event → Option Fault
refusal_of w (Edit r c) = unless_there (nat_lt r w.replicas) (refusal (w.memory r) r c)
refusal_of w (Save r) = unless_there (nat_lt r w.replicas) None
refusal_of w (Crash r) = unless_there (nat_lt r w.replicas) None
refusal_of w (Ask r) = unless_there (nat_lt r w.replicas) None
refusal_of w (Answer s k) = unless_there (nat_lt s w.replicas) (unless_there (is_some (slice_get w.asks k)) None)
refusal_of w (Take k) = unless_there (is_some (slice_get w.answers k)) None
refusal_of w (Grow r name) = unless_there (nat_lt r w.replicas)
    (cond (w.memory_names r == w.replicas) (cond (are_names (w.roster ++ name ∷ [])) None (Some BadRoster)) (Some WrongRoster))

-- the same of whatever happens
abbrev pub next : World → Happening → World
next w (Of e) = after w e
next w (AnswerLent j k) = after_lent w (slice_get w.asks j) k

abbrev pub hindrance : World → Happening → Option Fault
hindrance w (Of e) = refusal_of w e
hindrance w (AnswerLent j k) =
    unless_there (is_some (slice_get w.asks j)) (unless_there (is_some (slice_get w.asks k)) None)

abbrev pub run : List Happening → World → World
run [] w = w
run (e ∷ es) w = run es (next w e)

-- nothing of the list is refused
abbrev pub Accepted : List Happening → World → Type 0
Accepted [] w = Unit {0}
Accepted (e ∷ es) w = (hindrance w e ≡ None) × Accepted es (next w e)

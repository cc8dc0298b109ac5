-- What a command covers, what it does to a state, and when it is refused.
use Rattle.std.specs.Prelude.{◌≡◌, ℕ, zero, suc, ◌+◌, Bool, true, false, not, ◌&&◌, ◌==◌, nat_le, nat_lt, cond, List}
use Rattle.std.specs.Prelude.{[], ◌∷◌, Option, Some, None, is_some}
use Rattle.std.specs.Str.{bytes_eq}
use Rattle.std.specs.List.{starts_with}
use Rattle.std.specs.Cmp.Lexicographic.{pointwise}
use Rattle.std.specs.Ordering.{eq_by_cmp, int_eq}
use Rattle.rds_names.specs.declared.entry.Entry.{Entry}
use Rattle.rds_names.specs.declared.entry.Kind.{Kind}
use Rattle.rds_names.specs.declared.entry.Kind.TheVariants.{Reg, Elem}
use Rattle.rds_names.specs.declared.scalar.Scalar.{Scalar}
use Rattle.rds_names.specs.declared.scalar.Scalar.TheVariants as scalars
use Rattle.rds_names.specs.declared.fault.Fault.{Fault}
use Rattle.rds_names.specs.declared.fault.Fault.TheVariants.{Memory, BadPath, SeqFull, CounterFull}
use Rattle.rds_names.specs.Entry.{HasParts}
use Rattle.rds_dots.specs.declared.dot.Dot.{Dot}
use Rattle.rds_dots.specs.declared.dot.TheConstants.{MAX_SEQ}
use Rattle.rds_dots.specs.Lacking.{dot_of}
use Rattle.rds_counts.specs.declared.row.TheConstants.{MAX_COUNT}
use Rattle.rds_counts.specs.declared.row.Which.TheVariants.{P, N}
use Rattle.rds_counts.specs.Place.{Place, place_cmp}
use Rattle.rds_counts.specs.Counted.{place}
use Rattle.rds_life.specs.Life.{Life, Live, Dead}
use Rattle.rds_state.specs.Coordinates.{Coordinates, join}
use Rattle.rds_state.specs.declared.command.Command.{Command}
use Rattle.rds_state.specs.declared.command.Command.TheVariants.{Set, Add, Del, Clear, Inc, Dec}

-- ---- what a command covers

abbrev pub is_reg : Kind → Bool
is_reg Reg = true
is_reg Elem = false

abbrev pub same_bool : Bool → Bool → Bool
same_bool true b = b
same_bool false b = not b

abbrev pub same_scalar : Scalar → Scalar → Bool
same_scalar scalars.Null scalars.Null = true
same_scalar (scalars.Bool a) (scalars.Bool b) = same_bool a b
same_scalar (scalars.Int a) (scalars.Int b) = int_eq a b
same_scalar (scalars.Text a) (scalars.Text b) = bytes_eq a b
same_scalar a b = false

abbrev pub same_path : List (List ℕ) → List (List ℕ) → Bool
same_path p q = pointwise bytes_eq p q

-- an element of the set at the path, with this value
abbrev pub is_element : Entry → List (List ℕ) → Scalar → Bool
is_element e p v = not (is_reg e.kind) && same_path e.path p && same_scalar e.value v

-- the live entries that the command makes dead
abbrev pub covers : Command → Entry → Bool
covers (Set p v) e = is_reg e.kind && same_path e.path p
covers (Add p v) e = is_element e p v
covers (Del p v) e = is_element e p v
covers (Clear p) e = starts_with bytes_eq e.path p
covers (Inc k by) e = false
covers (Dec k by) e = false

-- ---- what it makes

-- the entry that the command makes live, if any
abbrev pub IsMade : Command → Option Entry → Type 0
IsMade (Set p v) (Some e) = HasParts p Reg v e
IsMade (Add p v) (Some e) = HasParts p Elem v e
IsMade (Set p v) None = ⊥
IsMade (Add p v) None = ⊥
IsMade (Del p v) made = made ≡ None
IsMade (Clear p) made = made ≡ None
IsMade (Inc k by) made = made ≡ None
IsMade (Dec k by) made = made ≡ None

-- the greatest number up to a limit that passes, or 0
unfoldable pub greatest : (ℕ → Bool) → ℕ → ℕ
greatest p zero = 0
greatest p (suc m) = cond (p (suc m)) (suc m) (greatest p m)

-- the greatest number of a replica's dots that aren't unseen
abbrev pub own_top : Coordinates → ℕ → ℕ
own_top a own = greatest (λ n. is_some (a.life (dot_of own n))) MAX_SEQ

-- the replica's next dot
abbrev pub is_next : Coordinates → ℕ → Dot → Bool
is_next a own d = (d.replica == own) && (d.seq == own_top a own + 1)

abbrev pub life_made : Option Entry → Option Life → Option Life
life_made None l = l
life_made (Some e) l = Some (Live e)

abbrev pub life_killed : Command → Option Life → Option Life
life_killed c None = None
life_killed c (Some (Live e)) = cond (covers c e) (Some Dead) None
life_killed c (Some Dead) = None

-- the number of a place, raised
abbrev pub number_raised : Coordinates → Place → ℕ → Place → ℕ
number_raised a at by q = cond (eq_by_cmp place_cmp q at) (a.number q + by) 0

abbrev pub effect_number : Coordinates → ℕ → Command → Place → ℕ
effect_number a own (Inc k by) q = number_raised a (place k own P) by q
effect_number a own (Dec k by) q = number_raised a (place k own N) by q
effect_number a own c q = 0

-- the covered dots dead, the next own dot live with the entry made, the own number raised, and nothing else
abbrev pub effect : Coordinates → ℕ → Command → Option Entry → Coordinates
effect a own c made = record {
  life = λ d. cond (is_next a own d) (life_made made (life_killed c (a.life d))) (life_killed c (a.life d));
  number = λ q. effect_number a own c q;
}

-- the second state is the join of the first with the command's effect
pub record JoinsEffect (a : Coordinates) (own : ℕ) (c : Command) (b : Coordinates) : Type 0 where
  pub made : Option Entry
  pub is_made : IsMade c made
  pub joined : b ≡ join a (effect a own c made)

-- the dot that the command makes live
abbrev pub new_dot : Coordinates → ℕ → Command → Option Dot
new_dot a own (Set p v) = Some (dot_of own (own_top a own + 1))
new_dot a own (Add p v) = Some (dot_of own (own_top a own + 1))
new_dot a own c = None

-- ---- when it may want memory

-- an amount above 0 is added where both numbers are 0
abbrev pub makes_pair : ℕ → ℕ → ℕ → Bool
makes_pair p n by = (p + n == 0) && not (by == 0)

-- whether the command adds a live dot or a pair of numbers to what is kept. No other command takes memory.
abbrev pub needs_room : Coordinates → ℕ → Command → Bool
needs_room a own (Set p v) = true
needs_room a own (Add p v) = true
needs_room a own (Del p v) = false
needs_room a own (Clear p) = false
needs_room a own (Inc k by) = makes_pair (a.number (place k own P)) (a.number (place k own N)) by
needs_room a own (Dec k by) = makes_pair (a.number (place k own P)) (a.number (place k own N)) by

-- ---- when it is refused

abbrev pub path_fault : List (List ℕ) → Option Fault → Option Fault
path_fault [] later = Some BadPath
path_fault (k ∷ ks) later = later

abbrev pub seq_fault : ℕ → Option Fault
seq_fault top = cond (nat_lt top MAX_SEQ) None (Some SeqFull)

abbrev pub count_fault : ℕ → Option Fault
count_fault sum = cond (nat_le sum MAX_COUNT) None (Some CounterFull)

-- why the command is refused, if it is
abbrev pub refusal : Coordinates → ℕ → Command → Option Fault
refusal a own (Set p v) = path_fault p (seq_fault (own_top a own))
refusal a own (Add p v) = path_fault p (seq_fault (own_top a own))
refusal a own (Del p v) = path_fault p None
refusal a own (Clear p) = None
refusal a own (Inc k by) = count_fault (a.number (place k own P) + by)
refusal a own (Dec k by) = count_fault (a.number (place k own N) + by)

-- the fault that is due, or Memory where none is
abbrev pub IsDue : Option Fault → Fault → Type 0
IsDue due Memory = due ≡ None
IsDue due f = due ≡ Some f

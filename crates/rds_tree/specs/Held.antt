-- Dots by the value that they hold.
use Rattle.std.specs.Prelude.{◌≡◌, Option, Some, None, is_some, Bool, false, cond, not, ◌&&◌, ◌||◌, List, [], ◌∷◌}
use Rattle.std.specs.Prelude.{◌++◌, map}
use Rattle.std.specs.FinMap as map_of
use Rattle.std.specs.List.{list_any}
use Rattle.std.specs.Ordering.{is_eq, eq_by_cmp}
use Rattle.rds_names.specs.declared.entry.Entry.{Entry}
use Rattle.rds_names.specs.declared.entry.Kind.{Kind}
use Rattle.rds_names.specs.declared.entry.Kind.TheVariants.{Reg, Elem}
use Rattle.rds_names.specs.declared.scalar.Scalar.{Scalar}
use Rattle.rds_names.specs.Orders.{scalar_cmp}
use Rattle.rds_dots.specs.declared.dot.Dot.{Dot}
use Rattle.rds_dots.specs.Dots.{dot_cmp}
use Rattle.rds_life.specs.Killed.{is_same}
use Rattle.rds_life.specs.Life.{Life, Dead, Lived}
use Rattle.rds_state.specs.Edit.{life_killed}
use Rattle.rds_state.specs.declared.command.Command.{Command}
use Rattle.rds_tree.specs.declared.dot_list.Which.{Which}
use Rattle.rds_tree.specs.declared.dot_list.Which.TheVariants.{AllBut, One}
use Rattle.rds_tree.specs.declared.leaf.Leaf.{Leaf}

-- some member at some key passes
abbrev pub any_held : {K X : Type 0} → (K → X → Bool) → List (K × List X) → Bool
any_held t held = list_any (λ e. list_any (t e.0) e.1) held

-- whether it is this value
abbrev pub at_value : Scalar → Scalar → Bool
at_value value v = is_eq (scalar_cmp value v)

-- the dot is the one that is to stay
abbrev pub is_but : Option Dot → Dot → Bool
is_but None d = false
is_but (Some stays) d = is_same stays d

-- which dots of a value are meant
abbrev pub means : Which → Dot → Bool
means (AllBut but) d = not (is_but but d)
means (One one) d = is_same one d

-- the dot is one of these
abbrev pub among_dots : List Dot → Dot → Entry → Bool
among_dots dots d e = list_any (λ x. eq_by_cmp dot_cmp x d) dots

-- the dot is one of these of some value
abbrev pub among_any : List (List Dot) → Dot → Entry → Bool
among_any lists d e = list_any (λ dots. among_dots dots d e) lists

-- the dot is one of those of a value that passes
abbrev pub among_held : (Scalar → Bool) → List (Scalar × List Dot) → Dot → Entry → Bool
among_held p held d e = any_held (λ v x. p v && eq_by_cmp dot_cmp x d) held

-- the dot lives, and the command covers its entry
abbrev pub is_covered : Command → Lived → Dot → Entry → Bool
is_covered c v d e = is_some (life_killed c (map_of.get v d))

-- the dots are the old ones and those that pass
pub record IsGathered (found : Dot → Entry → Bool) (old new : List Dot) : Type 0 where
  pub any : (d : Dot) (e : Entry) → among_dots new d e ≡ (among_dots old d e || found d e)

-- the dots of the list are dead, and all others unseen
abbrev pub killed_in : List Dot → Dot → Option Life
killed_in dots d = cond (list_any (λ x. eq_by_cmp dot_cmp x d) dots) (Some Dead) None

-- the leaves of dots by value
abbrev pub leaves_of : Kind → List (Scalar × List Dot) → List Leaf
leaves_of kind [] = []
leaves_of kind (e ∷ es) = map (λ d. record { kind = kind; value = e.0; dot = d }) e.1 ++ leaves_of kind es

-- those of a register, and those of a set
abbrev pub leaves_in : List (Scalar × List Dot) → List (Scalar × List Dot) → List Leaf
leaves_in regs elems = leaves_of Reg regs ++ leaves_of Elem elems

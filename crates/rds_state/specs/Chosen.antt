-- What a command has to do, step by step.
use Rattle.std.specs.Prelude.{◌≡◌, ℕ, ◌+◌, Bool, not, ◌&&◌, ◌==◌, cond, List, Option, Some, None}
use Rattle.std.specs.Ordering.{eq_by_cmp}
use Rattle.rds_names.specs.declared.entry.Entry.{Entry}
use Rattle.rds_names.specs.declared.entry.Kind.{Kind}
use Rattle.rds_names.specs.declared.entry.Kind.TheVariants.{Reg, Elem}
use Rattle.rds_names.specs.declared.scalar.Scalar.{Scalar}
use Rattle.rds_dots.specs.declared.dot.Dot.{Dot}
use Rattle.rds_counts.specs.Place.{Place, place_cmp}
use Rattle.rds_counts.specs.Counted.{Counted, number}
use Rattle.rds_state.specs.Edit.{covers}
use Rattle.rds_state.specs.declared.command.Command.{Command}
use Rattle.rds_state.specs.declared.command.Command.TheVariants.{Set, Add}

abbrev pub same_dot : Dot → Dot → Bool
same_dot a b = (a.replica == b.replica) && (a.seq == b.seq)

-- what the command covers, but a new dot
abbrev pub is_chosen : Command → Option Dot → Dot → Entry → Bool
is_chosen c None d e = covers c e
is_chosen c (Some new) d e = not (same_dot new d) && covers c e

-- the parts of the entry that the command makes
pub record CommandParts : Type 0 where
  pub path : List (List ℕ)
  pub kind : Kind
  pub value : Scalar

abbrev pub command_parts : Command → Option CommandParts
command_parts (Set p v) = Some (record { path = p; kind = Reg; value = v })
command_parts (Add p v) = Some (record { path = p; kind = Elem; value = v })
command_parts c = None

-- one number raised by an amount, and all others as they were
abbrev pub AreRaised : Counted → Place → ℕ → Counted → Type 0
AreRaised a at by b = (q : Place) → number b q ≡ cond (eq_by_cmp place_cmp q at) (number a q + by) (number a q)

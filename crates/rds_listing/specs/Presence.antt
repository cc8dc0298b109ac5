-- Whether what an edit says stands in a document already.
use Rattle.std.specs.Prelude.{◌≡◌, ℕ, List, [], ◌∷◌, ◌++◌}
use Rattle.std.specs.List.{Contains}
use Rattle.rds_names.specs.declared.entry.Kind.{Kind}
use Rattle.rds_names.specs.declared.entry.Kind.TheVariants.{Elem, Reg}
use Rattle.rds_names.specs.declared.scalar.Scalar.{Scalar}
use Rattle.rds_state.specs.Value.{StateValue}
use Rattle.rds_state.specs.declared.command.Command.{Command}
use Rattle.rds_state.specs.declared.command.Command.TheVariants.{Set, Add, Del, Clear, Inc, Dec}
use Rattle.rds_tree.specs.Document.{document}
use Rattle.rds_tree.specs.Shown.{Shown}
use Rattle.rds_tree.specs.Shows.{regs_in, sets_in}
use Rattle.rds_tree.specs.View.{view_of}
use Rattle.rds_json.specs.Standing.{values_at}

-- the registers of a view, or its sets
abbrev pub values_of_kind : Kind → Shown → List (List ℕ × List Scalar)
values_of_kind Reg shown = regs_in shown
values_of_kind Elem shown = sets_in shown

-- the value of a register alone, an element of a set among others
abbrev pub IsThere : Kind → Scalar → List Scalar → Type 0
IsThere Reg value values = values ≡ value ∷ []
IsThere Elem value values = Contains values value

-- at the path's last key, in the view of the keys above it
pub record StandsAt (state : StateValue) (kind : Kind) (path : List (List ℕ)) (value : Scalar) : Type 0 where
  pub above : List (List ℕ)
  pub key : List ℕ
  pub place : path ≡ above ++ key ∷ []
  pub there : IsThere kind value (values_at key (values_of_kind kind (view_of (document state) above)))

-- of a value that is set and of one that is added; no other edit says what stands
abbrev pub StandsThere : StateValue → Command → Type 0
StandsThere state (Set path value) = StandsAt state Reg path value
StandsThere state (Add path value) = StandsAt state Elem path value
StandsThere state (Del path value) = ⊥
StandsThere state (Clear path) = ⊥
StandsThere state (Inc key by) = ⊥
StandsThere state (Dec key by) = ⊥

-- What the types of a line's parts admit.
use Rattle.std.specs.Prelude.{◌≡◌, ◌<◌, ◌≤◌, ◌^◌, ⊤, ℕ, List, length, true, FitsSigned}
use Rattle.std.specs.Int.{w64}
use Rattle.std.specs.List.{list_all}
use Rattle.rds_names.specs.Key.{is_key}
use Rattle.rds_names.specs.Name.{is_name}
use Rattle.rds_names.specs.Roster.{RosterValue, are_names}
use Rattle.rds_names.specs.declared.scalar.Scalar.{Scalar}
use Rattle.rds_names.specs.declared.scalar.Scalar.TheVariants.{Null, Bool as Truth, Int, Text}
use Rattle.rds_state.specs.declared.command.Command.{Command}
use Rattle.rds_state.specs.declared.command.Command.TheVariants.{Set, Add, Del, Clear, Inc, Dec}
use Rattle.rds_json.specs.declared.line.Line.{Line}
use Rattle.rds_json.specs.declared.line.Line.TheVariants.{Roster, Edit, Save, Crash, Ask, Answer, Take, Grow, Show}

abbrev pub IsName : List ℕ → Type 0
IsName name = is_name name ≡ true

abbrev pub IsKey : List ℕ → Type 0
IsKey key = is_key key ≡ true

abbrev pub IsPath : List (List ℕ) → Type 0
IsPath keys = (length keys ≤ 8) × (list_all is_key keys ≡ true)

abbrev pub FitsAmount : ℕ → Type 0
FitsAmount n = n < 2 ^ 64

abbrev pub FitsScalar : Scalar → Type 0
FitsScalar Null = ⊤
FitsScalar (Truth b) = ⊤
FitsScalar (Int z) = FitsSigned w64 z
FitsScalar (Text s) = length s ≤ 1024

abbrev pub IsRoster : RosterValue → Type 0
IsRoster roster = IsKey roster.group × (list_all is_name roster.names ≡ true) × (are_names roster.names ≡ true)

abbrev pub FitsEdit : Command → Type 0
FitsEdit (Set path value) = IsPath path × FitsScalar value
FitsEdit (Add path value) = IsPath path × FitsScalar value
FitsEdit (Del path value) = IsPath path × FitsScalar value
FitsEdit (Clear path) = IsPath path
FitsEdit (Inc key by) = IsKey key × FitsAmount by
FitsEdit (Dec key by) = IsKey key × FitsAmount by

abbrev pub IsLine : Line → Type 0
IsLine (Roster roster) = IsRoster roster
IsLine (Edit name edit) = IsName name × FitsEdit edit
IsLine (Save name) = IsName name
IsLine (Crash name) = IsName name
IsLine (Ask name) = IsName name
IsLine (Answer name ask) = IsName name × FitsAmount ask
IsLine (Take answer) = FitsAmount answer
IsLine (Grow name newcomer) = IsName name × IsName newcomer
IsLine (Show name path) = IsName name × IsPath path

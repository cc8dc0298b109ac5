-- ["roster", GROUP, NAME, ..]
use Rattle.std.specs.Prelude.{ℕ, Bool, List, [], ◌∷◌, drop, is_some, Result, Ok, Err, if◌then◌else◌}
use Rattle.std.specs.List.{list_all}
use Rattle.serde_json.specs.Data.{Data}
use Rattle.serde_json.specs.Find.{as_str}
use Rattle.rds_names.specs.declared.fault.Fault.{Fault}
use Rattle.rds_names.specs.declared.fault.Fault.TheVariants.{BadLine}
use Rattle.rds_names.specs.Key.{key_of}
use Rattle.rds_names.specs.Name.{name_of}
use Rattle.rds_names.specs.Roster.{RosterValue, roster_of}
use Rattle.rds_names.specs.AndThen.{◌>>=◌}
use Rattle.rds_json.specs.Members.{members, of_one}

abbrev pub is_text : Data → Bool
is_text d = is_some (as_str d)

-- the names, up to the first that is none
abbrev pub names_of : List Data → Result (List (List ℕ)) Fault
names_of [] = Ok []
names_of (d ∷ ds) = of_one name_of (as_str d) >>= λ name. names_of ds >>= λ names. Ok (name ∷ names)

-- the group, then the names
abbrev pub roster_from : List Data → Result RosterValue Fault
roster_from [] = Err BadLine
roster_from (group ∷ names) =
    if list_all is_text (group ∷ names)
    then of_one key_of (as_str group) >>= (λ key. names_of names >>= λ ns. roster_of key ns)
    else Err BadLine

abbrev pub roster_line : Data → Result RosterValue Fault
roster_line d = roster_from (drop 1 (members d))

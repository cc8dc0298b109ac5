-- What is spelled as a line is read as that line.
use Rattle.std.proofs.Common.{◌≡◌, ℕ, true, List, [], ◌∷◌, map, Ok, refl, ap, ◌∙◌}
use Rattle.std.specs.List.{list_all}
use Rattle.serde_json.specs.Data.{string}
use Rattle.rds_names.specs.Conditions.{and_left, and_right}
use Rattle.rds_names.specs.Name.{is_name}
use Rattle.rds_names.specs.Roster.{RosterValue}
use Rattle.rds_state.specs.declared.command.Command.{Command}
use Rattle.rds_state.specs.declared.command.Command.TheVariants.{Set, Add, Del, Clear, Inc, Dec}
use Rattle.rds_json.specs.declared.line.Line.{Line}
use Rattle.rds_json.specs.declared.line.Line.TheVariants.{Roster, Edit, Save, Crash, Ask, Answer, Take, Grow, Show}
use Rattle.rds_json.specs.Limits.{IsLine, FitsEdit, IsRoster}
use Rattle.rds_json.specs.Line.{line_in}
use Rattle.rds_json.specs.RosterLine.{is_text, names_of, roster_line, roster_from}
use Rattle.rds_json.specs.Spelling.{edit_data, line_data, line_of_word}
use Rattle.rds_json.specs.Unnamed.{edit_in}
use Rattle.rds_json.proofs.Names.{items_back}
use Rattle.rds_json.proofs.Paths.{path_read, scalar_read}

-- ---- a roster

all_texts : (names : List (List ℕ)) → list_all is_text (map string names) ≡ true
all_texts [] = refl
all_texts (n ∷ ns) = all_texts ns

names_read : (names : List (List ℕ)) → list_all is_name names ≡ true → names_of (map string names) ≡ Ok names
names_read [] h = refl
names_read (n ∷ ns) h = rw (and_left (is_name n) _ h, names_read ns (and_right (is_name n) _ h)) refl

members_read : (roster : RosterValue) → IsRoster roster → roster_from (string roster.group ∷ map string roster.names) ≡ Ok roster
members_read roster h = rw (all_texts roster.names, h.0, names_read roster.names h.1, h.2) refl

roster_read : (word : List ℕ) (roster : RosterValue) → IsRoster roster → roster_line (line_of_word word (string roster.group ∷ map string roster.names)) ≡ Ok roster
roster_read word roster h = ap (λ ds. roster_from (string roster.group ∷ ds)) (items_back (map string roster.names)) ∙ members_read roster h

-- ---- all lines

named_edit_read : (name : List ℕ) (edit : Command) → IsLine (Edit name edit) → line_in (line_data (Edit name edit)) ≡ Ok (Edit name edit)
named_edit_read name (Set path value) h = rw (h.0, path_read path h.1.0, scalar_read value h.1.1) refl
named_edit_read name (Add path value) h = rw (h.0, path_read path h.1.0, scalar_read value h.1.1) refl
named_edit_read name (Del path value) h = rw (h.0, path_read path h.1.0, scalar_read value h.1.1) refl
named_edit_read name (Clear path) h = rw (h.0, path_read path h.1) refl
named_edit_read name (Inc key by) h = rw (h.0, h.1.0) refl
named_edit_read name (Dec key by) h = rw (h.0, h.1.0) refl

pub line_read : (line : Line) → IsLine line → line_in (line_data line) ≡ Ok line
line_read (Roster roster) h = rw (roster_read _ roster h) refl
line_read (Edit name edit) h = named_edit_read name edit h
line_read (Save name) h = rw h refl
line_read (Crash name) h = rw h refl
line_read (Ask name) h = rw h refl
line_read (Answer name ask) h = rw h.0 refl
line_read (Take answer) h = refl
line_read (Grow name newcomer) h = rw (h.0, h.1) refl
line_read (Show name path) h = rw (h.0, path_read path h.1) refl

pub edit_read : (edit : Command) → FitsEdit edit → edit_in (edit_data edit) ≡ Ok edit
edit_read (Set path value) h = rw (path_read path h.0, scalar_read value h.1) refl
edit_read (Add path value) h = rw (path_read path h.0, scalar_read value h.1) refl
edit_read (Del path value) h = rw (path_read path h.0, scalar_read value h.1) refl
edit_read (Clear path) h = rw (path_read path h) refl
edit_read (Inc key by) h = rw h.0 refl
edit_read (Dec key by) h = rw h.0 refl

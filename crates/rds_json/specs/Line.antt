-- What a line of JSON asks for, or why it asks for nothing.
use Rattle.std.specs.Prelude.{ℕ, List, Result, Ok}
use Rattle.serde_json.specs.Data.{Data}
use Rattle.serde_json.specs.Read.{read}
use Rattle.rds_names.specs.declared.fault.Fault.{Fault}
use Rattle.rds_state.specs.declared.command.Command.TheVariants as commands
use Rattle.rds_json.specs.declared.line.Line.{Line}
use Rattle.rds_json.specs.declared.line.Line.TheVariants.{Roster, Edit, Save, Crash, Ask, Answer, Take, Grow, Show}
use Rattle.rds_json.specs.declared.verb.Verb.{Verb}
use Rattle.rds_json.specs.declared.verb.Verb.TheVariants as verbs
use Rattle.rds_json.specs.declared.verb.EditVerb.{EditVerb}
use Rattle.rds_json.specs.declared.verb.EditVerb.TheVariants as edits
use Rattle.rds_names.specs.AndThen.{◌>>=◌}
use Rattle.rds_json.specs.Members.{of_one}
use Rattle.rds_json.specs.Parts.{answer_from, counter_from, growth_at, number_alone, place_from, replica_from, value_at}
use Rattle.rds_json.specs.RosterLine.{roster_line}
use Rattle.rds_json.specs.Verb.{verb_at}

abbrev pub edit_line : EditVerb → Data → Result Line Fault
edit_line edits.Set d = value_at d >>= λ at. Ok (Edit at.name (commands.Set at.path at.value))
edit_line edits.Add d = value_at d >>= λ at. Ok (Edit at.name (commands.Add at.path at.value))
edit_line edits.Del d = value_at d >>= λ at. Ok (Edit at.name (commands.Del at.path at.value))
edit_line edits.Clear d = place_from d >>= λ at. Ok (Edit at.name (commands.Clear at.path))
edit_line edits.Inc d = counter_from d >>= λ at. Ok (Edit at.name (commands.Inc at.key at.by))
edit_line edits.Dec d = counter_from d >>= λ at. Ok (Edit at.name (commands.Dec at.key at.by))

abbrev pub line_by : Verb → Data → Result Line Fault
line_by verbs.Roster d = roster_line d >>= λ roster. Ok (Roster roster)
line_by (verbs.Edit edit) d = edit_line edit d
line_by verbs.Save d = replica_from d >>= λ name. Ok (Save name)
line_by verbs.Crash d = replica_from d >>= λ name. Ok (Crash name)
line_by verbs.Ask d = replica_from d >>= λ name. Ok (Ask name)
line_by verbs.Answer d = answer_from d >>= λ at. Ok (Answer at.name at.ask)
line_by verbs.Take d = number_alone d >>= λ answer. Ok (Take answer)
line_by verbs.Grow d = growth_at d >>= λ at. Ok (Grow at.name at.newcomer)
line_by verbs.Show d = place_from d >>= λ at. Ok (Show at.name at.path)

abbrev pub line_in : Data → Result Line Fault
line_in d = of_one (λ verb. line_by verb d) (verb_at d)

-- what the text asks for, or its fault
abbrev pub line_of : List ℕ → Result Line Fault
line_of text = of_one line_in (read text)

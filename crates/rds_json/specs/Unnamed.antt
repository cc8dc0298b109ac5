-- What a line asks for that edits a replica which it doesn't name. Members are counted and their kinds judged first,
-- then the members from left to right.
use Rattle.std.specs.Prelude.{ℕ, List, Result, Ok, Err}
use Rattle.serde_json.specs.Data.{Data}
use Rattle.serde_json.specs.Find.{at}
use Rattle.serde_json.specs.Read.{read}
use Rattle.rds_names.specs.declared.fault.Fault.{Fault}
use Rattle.rds_names.specs.declared.fault.Fault.TheVariants.{BadLine}
use Rattle.rds_names.specs.AndThen.{◌>>=◌}
use Rattle.rds_names.specs.Key.{key_of}
use Rattle.rds_names.specs.Path.{path_of}
use Rattle.rds_state.specs.declared.command.Command.{Command}
use Rattle.rds_state.specs.declared.command.Command.TheVariants.{Set, Add, Del, Clear, Inc, Dec}
use Rattle.rds_json.specs.declared.unnamed.CountedAt.{CountedAt}
use Rattle.rds_json.specs.declared.unnamed.ValuedAt.{ValuedAt}
use Rattle.rds_json.specs.declared.verb.Verb.{Verb}
use Rattle.rds_json.specs.declared.verb.Verb.TheVariants as verbs
use Rattle.rds_json.specs.declared.verb.EditVerb.{EditVerb}
use Rattle.rds_json.specs.declared.verb.EditVerb.TheVariants as edits
use Rattle.rds_json.specs.Members.{number_member, of_one, of_two, text_member}
use Rattle.rds_json.specs.Parts.{of_count}
use Rattle.rds_json.specs.Scalar.{scalar_of}
use Rattle.rds_json.specs.Verb.{verb_at}

-- ---- [WORD, PATH]

abbrev pub part_at : Data → Result (List (List ℕ)) Fault
part_at d = of_count 2 d (of_one path_of (text_member 1 d))

-- ---- [WORD, PATH, VALUE]

abbrev pub pathed_value : List ℕ → Data → Result ValuedAt Fault
pathed_value path value = path_of path >>= λ p. scalar_of value >>= λ v. Ok (record { path = p; value = v })

abbrev pub valued_at : Data → Result ValuedAt Fault
valued_at d = of_count 3 d (of_two pathed_value (text_member 1 d) (at 2 d))

-- ---- [WORD, KEY, BY]

abbrev pub keyed_count : List ℕ → ℕ → Result CountedAt Fault
keyed_count key by = key_of key >>= λ k. Ok (record { key = k; by = by })

abbrev pub counted_at : Data → Result CountedAt Fault
counted_at d = of_count 3 d (of_two keyed_count (text_member 1 d) (number_member 2 d))

-- ---- the line

abbrev pub edit_by : EditVerb → Data → Result Command Fault
edit_by edits.Set d = valued_at d >>= λ at. Ok (Set at.path at.value)
edit_by edits.Add d = valued_at d >>= λ at. Ok (Add at.path at.value)
edit_by edits.Del d = valued_at d >>= λ at. Ok (Del at.path at.value)
edit_by edits.Clear d = part_at d >>= λ path. Ok (Clear path)
edit_by edits.Inc d = counted_at d >>= λ at. Ok (Inc at.key at.by)
edit_by edits.Dec d = counted_at d >>= λ at. Ok (Dec at.key at.by)

-- the words of edits alone
abbrev pub edit_with : Verb → Data → Result Command Fault
edit_with (verbs.Edit verb) d = edit_by verb d
edit_with _ d = Err BadLine

abbrev pub edit_in : Data → Result Command Fault
edit_in d = of_one (λ verb. edit_with verb d) (verb_at d)

-- the edit that the text asks for, or its fault
abbrev pub edit_of : List ℕ → Result Command Fault
edit_of text = of_one edit_in (read text)

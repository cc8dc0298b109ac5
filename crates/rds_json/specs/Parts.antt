-- What stands behind the word of a line. Members are counted and their kinds judged first, then the members from left
-- to right.
use Rattle.std.specs.Prelude.{ℕ, ◌==◌, List, Result, Ok, Err, if◌then◌else◌}
use Rattle.serde_json.specs.Data.{Data}
use Rattle.serde_json.specs.Find.{at}
use Rattle.rds_names.specs.declared.fault.Fault.{Fault}
use Rattle.rds_names.specs.declared.fault.Fault.TheVariants.{BadLine}
use Rattle.rds_names.specs.Key.{key_of}
use Rattle.rds_names.specs.Name.{name_of}
use Rattle.rds_names.specs.Path.{path_of}
use Rattle.rds_json.specs.declared.parts.AnswerAt.{AnswerAt}
use Rattle.rds_json.specs.declared.parts.CounterAt.{CounterAt}
use Rattle.rds_json.specs.declared.parts.GrowthAt.{GrowthAt}
use Rattle.rds_json.specs.declared.parts.PlaceAt.{PlaceAt}
use Rattle.rds_json.specs.declared.parts.ValueAt.{ValueAt}
use Rattle.rds_names.specs.AndThen.{◌>>=◌}
use Rattle.rds_json.specs.Members.{member_count, number_member, of_one, of_three, of_two, text_member}
use Rattle.rds_json.specs.Scalar.{scalar_of}

-- what a line of n members says; a line of another number says nothing
abbrev pub of_count : {X : Type 0} → ℕ → Data → Result X Fault → Result X Fault
of_count n d said = if member_count d == n then said else Err BadLine

-- ---- [WORD, W]

abbrev pub replica_from : Data → Result (List ℕ) Fault
replica_from d = of_count 2 d (of_one name_of (text_member 1 d))

-- ---- [WORD, K]

abbrev pub number_alone : Data → Result ℕ Fault
number_alone d = of_count 2 d (of_one Ok (number_member 1 d))

-- ---- [WORD, W, K]

abbrev pub named_answer : List ℕ → ℕ → Result AnswerAt Fault
named_answer name ask = name_of name >>= λ n. Ok (record { name = n; ask = ask })

abbrev pub answer_from : Data → Result AnswerAt Fault
answer_from d = of_count 3 d (of_two named_answer (text_member 1 d) (number_member 2 d))

-- ---- [WORD, W, NAME]

abbrev pub named_growth : List ℕ → List ℕ → Result GrowthAt Fault
named_growth name newcomer = name_of name >>= λ n. name_of newcomer >>= λ m. Ok (record { name = n; newcomer = m })

abbrev pub growth_at : Data → Result GrowthAt Fault
growth_at d = of_count 3 d (of_two named_growth (text_member 1 d) (text_member 2 d))

-- ---- [WORD, W, PATH]

abbrev pub named_place : List ℕ → List ℕ → Result PlaceAt Fault
named_place name path = name_of name >>= λ n. path_of path >>= λ p. Ok (record { name = n; path = p })

abbrev pub place_from : Data → Result PlaceAt Fault
place_from d = of_count 3 d (of_two named_place (text_member 1 d) (text_member 2 d))

-- ---- [WORD, W, PATH, VALUE]

abbrev pub named_value : List ℕ → List ℕ → Data → Result ValueAt Fault
named_value name path value =
    name_of name >>= λ n. path_of path >>= λ p. scalar_of value >>= λ v. Ok (record { name = n; path = p; value = v })

abbrev pub value_at : Data → Result ValueAt Fault
value_at d = of_count 4 d (of_three named_value (text_member 1 d) (text_member 2 d) (at 3 d))

-- ---- [WORD, W, KEY, BY]

abbrev pub named_counter : List ℕ → List ℕ → ℕ → Result CounterAt Fault
named_counter name key by = name_of name >>= λ n. key_of key >>= λ k. Ok (record { name = n; key = k; by = by })

abbrev pub counter_from : Data → Result CounterAt Fault
counter_from d = of_count 4 d (of_three named_counter (text_member 1 d) (text_member 2 d) (number_member 3 d))

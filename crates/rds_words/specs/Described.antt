-- What a command of the table comes to.
use Rattle.std.specs.Prelude.{fold}
use Rattle.clap.specs.Words.{App, Rule, Text, new_app, new_rule, with_rule}
use Rattle.rds_words.specs.declared.table.Described.{Described}
use Rattle.rds_words.specs.declared.table.Word.{Word}
use Rattle.rds_words.specs.declared.table.Kind.{Kind}
use Rattle.rds_words.specs.declared.table.Kind.TheVariants.{
  Required,
  Optional,
  Repeated,
  Several,
  Defaulted,
  Valued,
  Listed,
  Flag,
}
use Rattle.rds_words.specs.Commands.{
  defaulted_rule,
  flag_rule,
  listed_rule,
  repeated_rule,
  required_rule,
  several_rule,
  valued_rule,
  with_command,
}

abbrev pub rule_by : Kind → Text → Rule
rule_by Required id = required_rule id
rule_by Optional id = new_rule id
rule_by Repeated id = repeated_rule id
rule_by Several id = several_rule id
rule_by (Valued long value_name) id = valued_rule id long.now
rule_by (Listed long value_name) id = listed_rule id long.now
rule_by (Defaulted long value_name default) id = defaulted_rule id long.now default.now
rule_by (Flag long) id = flag_rule id long.now

abbrev pub described_rule : Word → Rule
described_rule word = rule_by word.kind word.id.now

abbrev pub with_argument : App → Word → App
with_argument command word = with_rule command (described_rule word)

-- a command with its words in their order
abbrev pub described_app : Described → App
described_app command = fold with_argument (new_app command.name.now) command.words.now

abbrev pub with_described : App → Described → App
with_described program command = with_command program (described_app command)

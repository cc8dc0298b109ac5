use Rattle.rds_words.proofs.Meant.{no_command_refused, options_spelled, others_refused, others_without_options, words_spelled, words_without_options}
use Rattle.rds_words.proofs.laws.words_mean_their_spelling.Goals as goal

pub returns-clause-words : goal.returns-clause-words
returns-clause-words c = words_spelled

pub returns-clause-other_words : goal.returns-clause-other_words
returns-clause-other_words c = others_refused

pub returns-clause-without_options : goal.returns-clause-without_options
returns-clause-without_options c = words_without_options

pub returns-clause-other_without_options : goal.returns-clause-other_without_options
returns-clause-other_without_options c = others_without_options

pub returns-clause-options : goal.returns-clause-options
returns-clause-options c = options_spelled

pub returns-clause-other_commands : goal.returns-clause-other_commands
returns-clause-other_commands c = no_command_refused

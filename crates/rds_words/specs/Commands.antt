-- The command line as data.
use Rattle.std.specs.Prelude.{codes, true, fold, Some, List, [], ◌∷◌}
use Rattle.clap.specs.declared.builder.action.ArgAction.TheVariants.{Append, SetTrue}
use Rattle.clap.specs.Words.{App, Rule, Text, new_app, new_rule, with_rule, with_subcommand}

-- a word that has to be given
abbrev pub required_rule : Text → Rule
required_rule id = record (new_rule id) { required = true }

-- one word or more
abbrev pub repeated_rule : Text → Rule
repeated_rule id = record (required_rule id) { action = Some Append }

-- as many words as there are, or none
abbrev pub several_rule : Text → Rule
several_rule id = record (new_rule id) { action = Some Append }

-- a word behind an option
abbrev pub valued_rule : Text → Text → Rule
valued_rule id long = record (new_rule id) { long = Some long; value_names = 1 }

-- words behind an option, one each time that it is given
abbrev pub listed_rule : Text → Text → Rule
listed_rule id long = record (valued_rule id long) { action = Some Append }

-- a word behind an option, with the value that it has where it isn't given
abbrev pub defaulted_rule : Text → Text → Text → Rule
defaulted_rule id long default = record (new_rule id) { long = Some long; value_names = 1; defaults = default ∷ [] }

-- an option without a value
abbrev pub flag_rule : Text → Text → Rule
flag_rule id long = record (new_rule id) { long = Some long; action = Some SetTrue }

-- the file of a replica
abbrev pub file_rule : Rule
file_rule = required_rule (codes "FILE")

-- a path of the document
abbrev pub path_rule : Rule
path_rule = required_rule (codes "PATH")

-- a path, or none, which is the root
abbrev pub part_rule : Rule
part_rule = new_rule (codes "PATH")

abbrev pub value_rule : Rule
value_rule = required_rule (codes "VALUE")

-- a counter's key
abbrev pub key_rule : Rule
key_rule = required_rule (codes "KEY")

-- by how much it is raised or lowered
abbrev pub by_rule : Rule
by_rule = required_rule (codes "BY")

-- the file of a question, and that of an answer
abbrev pub question_rule : Rule
question_rule = required_rule (codes "QUESTION")

abbrev pub answer_rule : Rule
answer_rule = required_rule (codes "ANSWER")

-- where a replica is served
abbrev pub address_rule : Rule
address_rule = required_rule (codes "ADDR")

-- the address of a node
abbrev pub node_rule : Rule
node_rule = required_rule (codes "NODE")

-- how many sessions, as an option, 1 where it isn't given
abbrev pub sessions_rule : Rule
sessions_rule = defaulted_rule (codes "SESSIONS") (codes "sessions") (codes "1")

-- after how many seconds a silent peer is given up, as an option, 60 where it isn't given
abbrev pub timeout_rule : Rule
timeout_rule = defaulted_rule (codes "TIMEOUT") (codes "timeout") (codes "60")

-- where a site is served, as an option, on this machine alone where it isn't given
abbrev pub http_rule : Rule
http_rule = defaulted_rule (codes "HTTP") (codes "http") (codes "127.0.0.1:7780")

-- the peers that a site meets
abbrev pub peers_rule : Rule
peers_rule = listed_rule (codes "PEERS") (codes "peer")

-- after how many seconds it meets them again, as an option, 10 where it isn't given
abbrev pub every_rule : Rule
every_rule = defaulted_rule (codes "EVERY") (codes "every") (codes "10")

-- the file of the token that a site asks for, and that it is shown
abbrev pub token_rule : Rule
token_rule = valued_rule (codes "TOKEN_FILE") (codes "token-file")

-- whether other machines may come to a site
abbrev pub open_rule : Rule
open_rule = flag_rule (codes "OPEN") (codes "open")

-- whether a site tells each request
abbrev pub log_rule : Rule
log_rule = flag_rule (codes "LOG") (codes "log")

-- the file from which the next replica is made
abbrev pub from_rule : Rule
from_rule = valued_rule (codes "FROM") (codes "from")

-- whether a value is the text itself
abbrev pub text_rule : Rule
text_rule = flag_rule (codes "TEXT") (codes "text")

-- whether only what changes something is written
abbrev pub if_changed_rule : Rule
if_changed_rule = flag_rule (codes "IF_CHANGED") (codes "if-changed")

-- whether values stand alone, and which
abbrev pub raw_rules : List Rule
raw_rules =
    flag_rule (codes "RAW") (codes "raw") ∷ flag_rule (codes "REG") (codes "reg")
    ∷ flag_rule (codes "SET") (codes "set") ∷ flag_rule (codes "COUNTER") (codes "counter") ∷ []

-- whether it is the whole document
abbrev pub all_rule : Rule
all_rule = flag_rule (codes "ALL") (codes "all")

-- whether JSON is indented
abbrev pub pretty_rule : Rule
pretty_rule = flag_rule (codes "PRETTY") (codes "pretty")

-- a command with its words in their order
abbrev pub command_app : Text → List Rule → App
command_app name words = fold with_rule (new_app name) words

-- one of the subcommands has to be named, and there is a version
abbrev pub named_app : App
named_app =
    let a = new_app (codes "rds_node") in
    record a { top = record a.top { subcommand_required = true; has_version = true } }

abbrev pub with_command : App → App → App
with_command program command = with_subcommand program command.top

-- the commands, in the order in which help lists them, and the topics of `help`
abbrev pub commands : List App
commands =
    command_app (codes "init")
    (file_rule ∷ required_rule (codes "GROUP") ∷ new_rule (codes "OWN") ∷ several_rule (codes "NAMES") ∷ from_rule ∷ [])
    ∷ command_app (codes "grow") (file_rule ∷ repeated_rule (codes "NAMES") ∷ [])
    ∷ command_app (codes "set") (file_rule ∷ path_rule ∷ value_rule ∷ text_rule ∷ if_changed_rule ∷ [])
    ∷ command_app (codes "add") (file_rule ∷ path_rule ∷ value_rule ∷ text_rule ∷ if_changed_rule ∷ [])
    ∷ command_app (codes "del") (file_rule ∷ path_rule ∷ value_rule ∷ text_rule ∷ [])
    ∷ command_app (codes "clear") (file_rule ∷ part_rule ∷ all_rule ∷ [])
    ∷ command_app (codes "inc") (file_rule ∷ key_rule ∷ by_rule ∷ [])
    ∷ command_app (codes "dec") (file_rule ∷ key_rule ∷ by_rule ∷ [])
    ∷ command_app (codes "edit") (file_rule ∷ [])
    ∷ command_app (codes "get") (file_rule ∷ path_rule ∷ raw_rules)
    ∷ command_app (codes "show") (file_rule ∷ part_rule ∷ pretty_rule ∷ [])
    ∷ command_app (codes "dump") (file_rule ∷ part_rule ∷ [])
    ∷ command_app (codes "compact") (file_rule ∷ [])
    ∷ command_app (codes "pair") (file_rule ∷ required_rule (codes "PEER") ∷ [])
    ∷ command_app (codes "sync") (file_rule ∷ address_rule ∷ timeout_rule ∷ token_rule ∷ [])
    ∷ command_app (codes "serve") (file_rule ∷ address_rule ∷ sessions_rule ∷ timeout_rule ∷ [])
    ∷ command_app (codes "ask") (file_rule ∷ [])
    ∷ command_app (codes "answer") (file_rule ∷ [])
    ∷ command_app (codes "take") (file_rule ∷ question_rule ∷ answer_rule ∷ [])
    ∷ command_app (codes "merge") (file_rule ∷ required_rule (codes "FROM") ∷ [])
    ∷ command_app (codes "run")
    (file_rule ∷ http_rule ∷ peers_rule ∷ every_rule ∷ token_rule ∷ open_rule ∷ log_rule ∷ [])
    ∷ command_app (codes "status") (file_rule ∷ [])
    ∷ command_app (codes "check") (question_rule ∷ answer_rule ∷ [])
    ∷ command_app (codes "conflicts") (file_rule ∷ part_rule ∷ [])
    ∷ command_app (codes "diff") (file_rule ∷ required_rule (codes "OTHER") ∷ [])
    ∷ command_app (codes "watch") (node_rule ∷ part_rule ∷ token_rule ∷ [])
    ∷ command_app (codes "join") []
    ∷ command_app (codes "sim") []
    ∷ command_app (codes "files") []
    ∷ command_app (codes "faults") []
    ∷ []

-- the program with its commands
unfoldable pub node_app : App
node_app = fold with_command named_app commands

-- the words of `join`, behind the name that the program was called by
abbrev pub join_words : List Text
join_words = codes "join" ∷ []

-- the words of `sim`, likewise
abbrev pub sim_words : List Text
sim_words = codes "sim" ∷ []

-- the words of `edit`, which edits a file by lines
abbrev pub edit_lines_words : Text → List Text
edit_lines_words file = codes "edit" ∷ file ∷ []

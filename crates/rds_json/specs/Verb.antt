-- The words that lines begin with.
use Rattle.std.specs.Prelude.{ℕ, List, codes, Option, Some, None, option_and_then, if◌then◌else◌}
use Rattle.std.specs.Str.{bytes_eq}
use Rattle.serde_json.specs.Data.{Data}
use Rattle.rds_json.specs.Members.{text_member}
use Rattle.rds_json.specs.declared.verb.Verb.{Verb}
use Rattle.rds_json.specs.declared.verb.Verb.TheVariants.{Roster, Edit, Save, Crash, Ask, Answer, Take, Grow, Show}
use Rattle.rds_json.specs.declared.verb.EditVerb.TheVariants.{Set, Add, Del, Clear, Inc, Dec}

abbrev pub verb_of : List ℕ → Option Verb
verb_of word =
    if bytes_eq word (codes "roster") then Some Roster
    else (if bytes_eq word (codes "set") then Some (Edit Set)
    else (if bytes_eq word (codes "add") then Some (Edit Add)
    else (if bytes_eq word (codes "del") then Some (Edit Del)
    else (if bytes_eq word (codes "clear") then Some (Edit Clear)
    else (if bytes_eq word (codes "inc") then Some (Edit Inc)
    else (if bytes_eq word (codes "dec") then Some (Edit Dec)
    else (if bytes_eq word (codes "save") then Some Save
    else (if bytes_eq word (codes "crash") then Some Crash
    else (if bytes_eq word (codes "ask") then Some Ask
    else (if bytes_eq word (codes "answer") then Some Answer
    else (if bytes_eq word (codes "take") then Some Take
    else (if bytes_eq word (codes "grow") then Some Grow
    else (if bytes_eq word (codes "show") then Some Show
    else None)))))))))))))

-- the verb that a value begins with
abbrev pub verb_at : Data → Option Verb
verb_at d = option_and_then verb_of (text_member 0 d)

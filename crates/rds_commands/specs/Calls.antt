-- What is reported of a site that a command calls, whose address stands in place of a file.
use Rattle.std.specs.Prelude.{◌≡◌, ◌⊎◌, ◌≤◌, ◌==◌, ℕ, Bool, true, false, List, length, MatchBool, Option, Err, if◌then◌else◌}
use Rattle.std.specs.Io.KnownBytes.{Appends}
use Rattle.rds_names.specs.declared.fault.Fault.{Fault}
use Rattle.rds_output.specs.Output.{Writes}
use Rattle.rds_words.specs.declared.tasks.Task.{Task}
use Rattle.rds_words.specs.declared.tasks.Task.TheVariants.{Edit, EditLines, Get, GetRaw, Show, ShowPretty, Conflicts, Status, Ask, Answer, Take}
use Rattle.rds_commands.specs.declared.calls.Form.{Form}
use Rattle.rds_commands.specs.declared.calls.Form.TheVariants.{Replies, Lines, Bare, Letter}
use Rattle.rds_commands.specs.declared.calls.Form.TheVariants as forms
use Rattle.rds_commands.specs.Offline.{WritesNothing}
use Rattle.rds_commands.specs.Visits.{is_site}

-- the task is one that a site does too, and names a site in place of a file
abbrev pub calls_site : Task → Bool
calls_site (Edit file edit) = is_site file.now
calls_site (EditLines file) = is_site file.now
calls_site (Get file path) = is_site file.now
calls_site (GetRaw file path kind) = is_site file.now
calls_site (Show file path) = is_site file.now
calls_site (ShowPretty file path) = is_site file.now
calls_site (Conflicts file path) = is_site file.now
calls_site (Status file) = is_site file.now
calls_site (Ask file) = is_site file.now
calls_site (Answer file) = is_site file.now
calls_site (Take file question answer) = is_site file.now
calls_site _ = false

-- what is written of the answer to a task
abbrev pub form_of : Task → Form
form_of (Edit file edit) = Replies
form_of (EditLines file) = Replies
form_of (Conflicts file path) = forms.List
form_of (GetRaw file path kind) = Bare
form_of (Ask file) = Letter
form_of (Answer file) = Letter
form_of _ = Lines

-- the status that goes with what was written: 1 at most of edits, 3 where anything was found, or no bare value, and
-- else 0
abbrev pub SuitsForm : Form → List ℕ → ℕ → Type 0
SuitsForm Replies text status = status ≤ 1
SuitsForm forms.List text status = status ≡ (if length text == 0 then 0 else 3)
SuitsForm Bare text status = status ≡ (if length text == 0 then 3 else 0)
SuitsForm form text status = status ≡ 0

-- what the site answered was written, and nothing else
pub record WritesOfSite (form : Form) (before after : Option (List ℕ)) (status : ℕ) : Type 0 where
  pub text : List ℕ
  pub written : Appends before after text
  pub suits : SuitsForm form text status

-- why there is no answer is written; it isn't in place of a list, of bare values and of a letter
abbrev pub writes_fault : Form → Bool
writes_fault Replies = true
writes_fault Lines = true
writes_fault form = false

-- why there is no answer was written, or nothing was
abbrev pub LacksAnswer : Form → Fault → Option (List ℕ) → Option (List ℕ) → ℕ → Type 0
LacksAnswer form fault before after status =
    MatchBool (writes_fault form) (Writes (Err fault) before after status) (WritesNothing fault before after status)

-- what the site answered, or that there is no answer
abbrev pub WritesCall : Form → Option (List ℕ) → Option (List ℕ) → ℕ → Type 0
WritesCall form before after status =
    WritesOfSite form before after status ⊎ ((fault : Fault) × LacksAnswer form fault before after status)

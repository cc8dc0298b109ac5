-- The task whose words are known.
use Rattle.std.proofs.Common.{◌≡◌, ◌∙◌, ℕ, List, [], ◌∷◌, codes, Option, Some, None, option_map, refl, ap, arith}
use Rattle.clap.specs.Words.{Text}
use Rattle.rds_words.specs.Task.{EditsByLines, task_words}
use Rattle.rds_words.specs.declared.tasks.Task.{Task}
use Rattle.rds_words.specs.declared.tasks.Task.TheVariants.{Join, Sim, Files, Faults, Init, InitFrom, Grow, Edit, EditIfChanged, EditLines, Get, GetRaw, Show, ShowPretty, Dump, Compact, Status, Serve, Run, Sync, Pair, Ask, Answer, Take, Merge, Check, Conflicts, Diff, Watch}
use Rattle.rds_words.specs.declared.tasks.EditWords.TheVariants.{Set, Add, Del, Clear, ClearAll, Inc, Dec}

-- the first byte of the command's name
abbrev first_byte : List Text → ℕ
first_byte ((b ∷ bs) ∷ words) = b
first_byte words = 0

-- the words of `join`, of `sim` and of `edit` with a file are those of one task each
told : (task : Task) → (task_words task ≡ codes "join" ∷ [] → task ≡ Join) × (task_words task ≡ codes "sim" ∷ [] → task ≡ Sim)
    × ((at : Text) → task_words task ≡ codes "edit" ∷ at ∷ [] → EditsByLines at (Some task))
told Join = (λ e. refl, λ e. absurd cc, λ at e. absurd cc)
told Sim = (λ e. absurd cc, λ e. refl, λ at e. absurd cc)
told Files = (λ e. absurd cc, λ e. absurd cc, λ at e. absurd cc)
told Faults = (λ e. absurd cc, λ e. absurd cc, λ at e. absurd cc)
told (Init words) = (λ e. absurd cc, λ e. absurd cc, λ at e. absurd cc)
told (Grow words) = (λ e. absurd cc, λ e. absurd cc, λ at e. absurd (omega (arith, ap first_byte e)))
told (Edit file (Set path value)) = (λ e. absurd cc, λ e. absurd cc, λ at e. absurd cc)
told (Edit file (Add path value)) = (λ e. absurd cc, λ e. absurd cc, λ at e. absurd cc)
told (Edit file (Del path value)) = (λ e. absurd cc, λ e. absurd cc, λ at e. absurd cc)
told (Edit file (Clear path)) = (λ e. absurd cc, λ e. absurd cc, λ at e. absurd cc)
told (Edit file ClearAll) = (λ e. absurd cc, λ e. absurd cc, λ at e. absurd cc)
told (Edit file (Inc key by)) = (λ e. absurd cc, λ e. absurd cc, λ at e. absurd cc)
told (Edit file (Dec key by)) = (λ e. absurd cc, λ e. absurd cc, λ at e. absurd cc)
told (EditIfChanged file (Set path value)) = (λ e. absurd cc, λ e. absurd cc, λ at e. absurd cc)
told (EditIfChanged file (Add path value)) = (λ e. absurd cc, λ e. absurd cc, λ at e. absurd cc)
told (EditIfChanged file (Del path value)) = (λ e. absurd cc, λ e. absurd cc, λ at e. absurd cc)
told (EditIfChanged file (Clear path)) = (λ e. absurd cc, λ e. absurd cc, λ at e. absurd cc)
told (EditIfChanged file ClearAll) = (λ e. absurd cc, λ e. absurd cc, λ at e. absurd cc)
told (EditIfChanged file (Inc key by)) = (λ e. absurd cc, λ e. absurd cc, λ at e. absurd cc)
told (EditIfChanged file (Dec key by)) = (λ e. absurd cc, λ e. absurd cc, λ at e. absurd cc)
told (EditLines file) = (λ e. absurd cc, λ e. absurd cc, λ at e. (file, cc, refl))
told (Get file path) = (λ e. absurd cc, λ e. absurd cc, λ at e. absurd cc)
told (Show file path) = (λ e. absurd cc, λ e. absurd cc, λ at e. absurd cc)
told (ShowPretty file path) = (λ e. absurd cc, λ e. absurd cc, λ at e. absurd cc)
told (Compact file) = (λ e. absurd cc, λ e. absurd cc, λ at e. absurd cc)
told (Status file) = (λ e. absurd cc, λ e. absurd cc, λ at e. absurd cc)
told (Serve words) = (λ e. absurd cc, λ e. absurd cc, λ at e. absurd cc)
told (Run words) = (λ e. absurd cc, λ e. absurd cc, λ at e. absurd cc)
told (Sync words) = (λ e. absurd cc, λ e. absurd cc, λ at e. absurd cc)
told (Pair first second) = (λ e. absurd cc, λ e. absurd cc, λ at e. absurd cc)
told (Dump file path) = (λ e. absurd cc, λ e. absurd cc, λ at e. absurd cc)
told (Ask file) = (λ e. absurd cc, λ e. absurd cc, λ at e. absurd cc)
told (Answer file) = (λ e. absurd cc, λ e. absurd cc, λ at e. absurd cc)
told (Take file question answer) = (λ e. absurd cc, λ e. absurd cc, λ at e. absurd cc)
told (Merge file from) = (λ e. absurd cc, λ e. absurd cc, λ at e. absurd cc)
told (Check question answer) = (λ e. absurd cc, λ e. absurd cc, λ at e. absurd cc)
told (Conflicts file path) = (λ e. absurd cc, λ e. absurd cc, λ at e. absurd cc)
told (Diff file other) = (λ e. absurd cc, λ e. absurd cc, λ at e. absurd cc)
told (Watch words) = (λ e. absurd cc, λ e. absurd cc, λ at e. absurd cc)
told (InitFrom words) = (λ e. absurd cc, λ e. absurd cc, λ at e. absurd cc)
told (GetRaw file path kind) = (λ e. absurd cc, λ e. absurd cc, λ at e. absurd cc)

some_words : (task : Option Task) (words : List Text) → option_map task_words task ≡ Some words → (named : Task) × (task ≡ Some named) × (task_words named ≡ words)
some_words None words e = absurd cc
some_words (Some task) words e = (task, refl, cc)

pub is_join : (task : Option Task) → option_map task_words task ≡ Some (codes "join" ∷ []) → task ≡ Some Join
is_join task e = let named = some_words task _ e in named.1 ∙ ap Some ((told named.0).0 named.2)

pub is_sim : (task : Option Task) → option_map task_words task ≡ Some (codes "sim" ∷ []) → task ≡ Some Sim
is_sim task e = let named = some_words task _ e in named.1 ∙ ap Some ((told named.0).1 named.2)

pub is_edit : (at : Text) (task : Option Task) → option_map task_words task ≡ Some (codes "edit" ∷ at ∷ []) → EditsByLines at task
is_edit at task e = let named = some_words task _ e in rw named.1 ((told named.0).2 at named.2)

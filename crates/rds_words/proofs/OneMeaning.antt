-- Words mean one thing.
use Rattle.std.proofs.Common.{◌≡◌, ◌∙◌, ◌⊎◌, ℕ, List, Result, Ok, Err, ap, sym, inl, inr}
use Rattle.std.specs.Prelude.{MatchResult}
use Rattle.rds_names.specs.Key.{key_of}
use Rattle.rds_names.specs.declared.fault.Fault.{Fault}
use Rattle.rds_names.specs.declared.fault.Fault.TheVariants.{Memory}
use Rattle.rds_state.specs.declared.command.Command.{Command}
use Rattle.rds_state.specs.declared.command.Command.TheVariants as commands
use Rattle.rds_names.specs.AndThen.{◌>>=◌}
use Rattle.rds_words.specs.Meaning.{IsAmount, IsCommand}
use Rattle.rds_words.specs.declared.tasks.EditWords.{EditWords}
use Rattle.rds_words.specs.declared.tasks.EditWords.TheVariants.{Set, Add, Del, Clear, ClearAll, Inc, Dec}

pub amount_once : (text : List ℕ) (r s : Result ℕ Fault) → IsAmount text r → IsAmount text s → r ≡ s
amount_once text (Ok m) (Ok n) h k = ap Ok (h.0.1 ∙ sym k.0.1)
amount_once text (Ok m) (Err e) h k = absurd (k.0 h.0.0)
amount_once text (Err e) (Ok n) h k = absurd (h.0 k.0.0)
amount_once text (Err e) (Err f) h k = ap Err (h.1 ∙ sym k.1)

abbrev Counts : (List ℕ → ℕ → Command) → List ℕ → Result Command Fault → Result (List ℕ) Fault → Type 0
Counts make by r key = MatchResult key (λ k. (amount : Result ℕ Fault) × IsAmount by amount × (r ≡ (amount >>= λ n. Ok (make k n)))) (λ e. r ≡ Err e)

count_once : (make : List ℕ → ℕ → Command) (by : List ℕ) (r s : Result Command Fault) (key : Result (List ℕ) Fault) → Counts make by r key → Counts make by s key → r ≡ s
count_once make by r s (Ok k) h i = h.2 ∙ ap (λ (a : Result ℕ Fault). a >>= λ n. Ok (make k n)) (amount_once by h.0 i.0 h.1 i.1) ∙ sym i.2
count_once make by r s (Err e) h i = h ∙ sym i

pub command_once : (words : EditWords) (r s : Result Command Fault) → IsCommand words r → IsCommand words s → r ≡ s
command_once (Set path value) r s h k = h ∙ sym k
command_once (Add path value) r s h k = h ∙ sym k
command_once (Del path value) r s h k = h ∙ sym k
command_once (Clear path) r s h k = h ∙ sym k
command_once ClearAll r s h k = h ∙ sym k
command_once (Inc key by) r s h k = count_once commands.Inc by.now r s (key_of key.now) h k
command_once (Dec key by) r s h k = count_once commands.Dec by.now r s (key_of key.now) h k

pub ok_isnt_err : {X E : Type 0} (x : X) (e : E) → Ok x ≡ Err e → ⊥
ok_isnt_err x e is = absurd cc

-- what refused them is why
pub why_no_command : {X : Type 0} (words : EditWords) (given e fault : Fault) (result : Result X Fault) → (◌≡◌ {A = Result Command Fault} (Err given) (Err Memory)) ⊎ IsCommand words (Err given)
    → result ≡ Err e → e ≡ given → IsCommand words (Err fault) → (result ≡ Err Memory) ⊎ (result ≡ Err fault)
why_no_command words given e fault result h is from due = elim h [
  | inl memory ↦ inl (is ∙ ap Err from ∙ ap Err (err_is given Memory memory))
  | inr refused ↦ inr (is ∙ ap Err from ∙ ap Err (err_is given fault (command_once words (Err given) (Err fault) refused due)))
]
  where
    err_is : (a b : Fault) → ◌≡◌ {A = Result Command Fault} (Err a) (Err b) → a ≡ b
    err_is a b same = cc

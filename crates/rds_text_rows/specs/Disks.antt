-- What a crash may leave of a disk in memory: what was synced last, after each call since, of which each may have been
-- cut short.
use Rattle.std.specs.Prelude.{◌≡◌, ◌≤◌, ℕ, List, [], ◌∷◌, length, take}
use Rattle.std.proofs.Common.{sym, subst, arith}
use Rattle.std.proofs.lemmas.List.{take_all}
use Rattle.rds_journal.specs.Device.{Cut, Torn}
use Rattle.rds_text_rows.specs.declared.disk.Call.{Call}
use Rattle.rds_text_rows.specs.declared.disk.Call.TheVariants.{Write, Shorten, Sync}

-- the outcomes after a call
abbrev pub OutcomeAfter : (List ℕ → Type 0) → Call → List ℕ → Type 0
OutcomeAfter before (Write at bytes) c = (d : List ℕ) × before d × Torn at (length bytes.items) d c
OutcomeAfter before (Shorten end) c = (d : List ℕ) × before d × Cut end d c
OutcomeAfter before (Sync bytes) c = before c × (c ≡ bytes.items)

-- the outcomes after calls
abbrev pub Outcome : (List ℕ → Type 0) → List Call → List ℕ → Type 0
Outcome before [] c = before c
Outcome before (call ∷ calls) c = Outcome (OutcomeAfter before call) calls c

-- the outcomes after the first so many calls or more
abbrev pub OutcomeSince : (List ℕ → Type 0) → List Call → ℕ → List ℕ → Type 0
OutcomeSince before calls t c = (k : ℕ) × (t ≤ k) × (k ≤ length calls) × Outcome before (take k calls) c

-- ---- laws of the device

pub counts_now : (before : List ℕ → Type 0) (calls : List Call) (t : ℕ) (c : List ℕ) → t ≤ length calls → Outcome before calls c → OutcomeSince before calls t c
counts_now before calls t c le now = (length calls, le, omega arith, subst (λ (l : List Call). Outcome before l c) (sym (take_all (length calls) calls (omega arith))) now)

pub only_now : (before : List ℕ → Type 0) (calls : List Call) (c : List ℕ) → OutcomeSince before calls (length calls) c → Outcome before calls c
only_now before calls c since = subst (λ (l : List Call). Outcome before l c) (take_all since.0 calls since.1) since.3

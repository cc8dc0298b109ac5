-- One call more on a disk in memory.
use Rattle.std.proofs.Common.{◌≡◌, ◌⊎◌, inl, inr, ℕ, ◌≤◌, ◌<◌, List, [], ◌∷◌, ◌++◌, length, Vec, Some, refl, sym, ◌∙◌, ap, subst, arith, length-append, append-nil, add-zero, take-append-drop}
use Rattle.std.specs.declared.alloc.Global.{Global}
use Rattle.std.proofs.lemmas.List.{take_all, take-append-le}
use Rattle.std.proofs.lemmas.Bool.{cases_lt}
use Rattle.rds_journal.specs.Device.{Cut, Elapses, OutcomesFollow, IsWrittenShort, Only, Torn}
use Rattle.rds_text_rows.specs.Disks.{Outcome, OutcomeAfter, OutcomeSince}
use Rattle.rds_text_rows.specs.declared.disk.Call.{Call}
use Rattle.rds_text_rows.specs.declared.disk.Call.TheVariants.{Write, Shorten, Sync}

pub last : (before : List ℕ → Type 0) (calls : List Call) (call : Call) (c : List ℕ) → Outcome before (calls ++ call ∷ []) c → OutcomeAfter (Outcome before calls) call c
last before [] call c out = out
last before (x ∷ calls) call c out = last (OutcomeAfter before x) calls call c out

-- ---- time

pub elapses_same : (before : List ℕ → Type 0) (old new : List Call) → new ≡ old → Elapses (length old) (length new) (OutcomeSince before old) (OutcomeSince before new) (Outcome before new)
elapses_same before old new same =
    subst (λ (l : List Call). Elapses (length old) (length l) (OutcomeSince before old) (OutcomeSince before l) (Outcome before l)) (sym same)
    (record { later = omega arith; nothing_else = λ t c le since. inl since; keeps = λ t c le since. since })

elapses_push : (before : List ℕ → Type 0) (old : List Call) (call : Call) → Elapses (length old) (length (old ++ call ∷ [])) (OutcomeSince before old) (OutcomeSince before (old ++ call ∷ [])) (Outcome before (old ++ call ∷ []))
elapses_push before old call = record {
  later = omega (arith, length-append old (call ∷ []));
  nothing_else = λ t c le since. sorted t c since (cases_lt (length old) since.0);
  keeps = λ t c le since.
      (since.0, since.1, omega (arith, since.2, length-append old (call ∷ [])), subst (λ (l : List Call). Outcome before l c) (sym (take-append-le since.0 old (call ∷ []) since.2)) since.3);
}
  where
    sorted : (t : ℕ) (c : List ℕ) (since : OutcomeSince before (old ++ call ∷ []) t c) → (length old < since.0) ⊎ (since.0 ≤ length old) → OutcomeSince before old t c ⊎ Outcome before (old ++ call ∷ []) c
    sorted t c since (inl lt) =
        inr (subst (λ (l : List Call). Outcome before l c) (take_all since.0 (old ++ call ∷ []) (omega (arith, lt, length-append old (call ∷ [])))) since.3)
    sorted t c since (inr le) =
        inl (since.0, since.1, le, subst (λ (l : List Call). Outcome before l c) (take-append-le since.0 old (call ∷ []) le) since.3)

pub elapses : (before : List ℕ → Type 0) (old new : List Call) (call : Call) → new ≡ old ++ call ∷ [] → Elapses (length old) (length new) (OutcomeSince before old) (OutcomeSince before new) (Outcome before new)
elapses before old new call is =
    subst (λ (l : List Call). Elapses (length old) (length l) (OutcomeSince before old) (OutcomeSince before l) (Outcome before l)) (sym is) (elapses_push before old call)

-- ---- crashes

untorn : (at n : ℕ) (file : List ℕ) → Torn at n file file
untorn at n file = record { before = refl; after = refl; no_shorter = omega arith; no_longer = omega arith }

pub nothing_torn : (before : List ℕ → Type 0) (old new : List Call) (at n : ℕ) → new ≡ old → OutcomesFollow (Torn at n) (Outcome before old) (Outcome before new)
nothing_torn before old new at n same c out = (c, subst (λ (l : List Call). Outcome before l c) same out, untorn at n c)

pub write_torn : (before : List ℕ → Type 0) (old new : List Call) (at : ℕ) (v : Vec ℕ Global) (bytes : List ℕ) → v.items ≡ bytes → new ≡ old ++ Write at v ∷ []
    → OutcomesFollow (Torn at (length bytes)) (Outcome before old) (Outcome before new)
write_torn before old new at v bytes same is c out =
    let from = last before old (Write at v) c (subst (λ (l : List Call). Outcome before l c) is out) in
    (from.0, from.1, subst (λ (b : List ℕ). Torn at (length b) from.0 c) same from.2)

uncut : (n : ℕ) (file : List ℕ) → Cut n file file
uncut n file = record { no_shorter = omega arith; front = take_all (length file) file (omega arith) }

pub nothing_cut : (before : List ℕ → Type 0) (old new : List Call) (end : ℕ) → new ≡ old → OutcomesFollow (Cut end) (Outcome before old) (Outcome before new)
nothing_cut before old new end same c out = (c, subst (λ (l : List Call). Outcome before l c) same out, uncut end c)

pub cut_short : (before : List ℕ → Type 0) (old new : List Call) (end : ℕ) → new ≡ old ++ Shorten end ∷ [] → OutcomesFollow (Cut end) (Outcome before old) (Outcome before new)
cut_short before old new end is c out = last before old (Shorten end) c (subst (λ (l : List Call). Outcome before l c) is out)

pub synced : (before : List ℕ → Type 0) (old new : List Call) (v : Vec ℕ Global) (file : List ℕ) → v.items ≡ file → new ≡ old ++ Sync v ∷ [] → Only file (Outcome before new)
synced before old new v file same is c out = (last before old (Sync v) c (subst (λ (l : List Call). Outcome before l c) is out)).1 ∙ same

pub sync_leaves : (before : List ℕ → Type 0) (old new : List Call) (v : Vec ℕ Global) → new ≡ old ++ Sync v ∷ [] → (c : List ℕ) → Outcome before new c → Outcome before old c
sync_leaves before old new v is c out = (last before old (Sync v) c (subst (λ (l : List Call). Outcome before l c) is out)).0

-- ---- what stands there

pub nothing_written : (file : List ℕ) (at : ℕ) (bytes : List ℕ) (seen : List ℕ) → 0 < length bytes → seen ≡ file → IsWrittenShort file at bytes (Some seen)
nothing_written file at bytes seen some same =
    (0, some, ap (λ (l : List ℕ). Some l) (same ∙ (sym (take-append-drop at file) ∙ sym (simp (append-nil, add-zero)))))

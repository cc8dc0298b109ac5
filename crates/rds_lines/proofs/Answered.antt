-- Answers that are written line by line are the answers to all lines.
use Rattle.std.proofs.Common.{◌≡◌, ℕ, Bool, true, false, cond, ◌||◌, List, [], ◌∷◌, ◌++◌, Option, Some, None, Result, refl, sym, append_assoc, subst, String}
use Rattle.std.specs.Global.{Global}
use Rattle.std.specs.Prelude.{IfSome}
use Rattle.std.specs.Io.KnownBytes.{Appends, prepend_known}
use Rattle.std.proofs.KnownBytes.{Appends-nil, Appends-trans}
use Rattle.std.proofs.lemmas.List.{append-nil}
use Rattle.rds_names.specs.declared.fault.Fault.{Fault}
use Rattle.rds_lines.specs.Lines.{until_newline, after_line, lines_in, ReadsText}
use Rattle.rds_lines.specs.Ahead.{TakesLine}
use Rattle.rds_lines.specs.Answering.{WritesAnswers}
use Rattle.rds_lines.proofs.EndedLines.{lines_first}

pub or_assoc : (a b c : Bool) → ((a || b) || c) ≡ (a || (b || c))
or_assoc true b c = refl
or_assoc false b c = refl

or_false : (b : Bool) → (b || false) ≡ b
or_false true = refl
or_false false = refl

module _ {A : Type 0} (may : A → List (List ℕ) → List ℕ → Bool → Type 0) where
  -- what was written, and what may still be: together the answers to all
  abbrev pub Runs : Option (List ℕ) → Option (List ℕ) → Option (List ℕ) → Option (List ℕ) → A → A → Bool → Type 0
  Runs None now before after opening state refused = Unit {0}
  Runs (Some xs) None before after opening state refused = ⊥
  Runs (Some xs) (Some ys) before after opening state refused = (front : List ℕ) × Appends before after front
      × ((out : List ℕ) (more : Bool) → may state (lines_in ys) out more → may opening (lines_in xs) (front ++ out) (refused || more))

  pub runs_first : (first before : Option (List ℕ)) (opening : A) → Runs first (prepend_known [] first) before before opening opening false
  runs_first None before opening = tt
  runs_first (Some xs) before opening = ([], Appends-nil before, λ out more h. h)

  -- a line that was answered
  pub runs_on : (first now next before after later : Option (List ℕ)) (opening state next_state : A) (refused refusal : Bool) (line : Result (String Global) Fault) (text : List ℕ)
      → Runs first now before after opening state refused → TakesLine now next (Some line) → Appends after later text
      → ((bytes : List ℕ) (lines : List (List ℕ)) (out : List ℕ) (more : Bool) → ReadsText bytes line → may next_state lines out more → may state (bytes ∷ lines) (text ++ out) (refusal || more))
      → Runs first next before later opening next_state (refused || refusal)
  runs_on None now next before after later opening state next_state refused refusal line text r t w step = tt
  runs_on (Some xs) None next before after later opening state next_state refused refusal line text r t w step = absurd r
  runs_on (Some xs) (Some ys) None before after later opening state next_state refused refusal line text r t w step = absurd t
  runs_on (Some xs) (Some ys) (Some zs) before after later opening state next_state refused refusal line text r t w step = (
    r.0 ++ text,
    Appends-trans before after later r.0 text r.1 w,
    λ out more h.
        let rest : may next_state (lines_in (after_line ys)) out more = subst (λ (l : List ℕ). may next_state (lines_in l) out more) t.1 h in
        let stepped = step (until_newline ys) (lines_in (after_line ys)) out more t.0.1 rest in
        let here : may state (lines_in ys) (text ++ out) (refusal || more) = subst (λ (ls : List (List ℕ)). may state ls (text ++ out) (refusal || more)) (sym (lines_first ys t.0.0)) stepped in
        let all = r.2 (text ++ out) (refusal || more) here in
        subst (λ (o : List ℕ). may opening (lines_in xs) o ((refused || refusal) || more)) (sym (append_assoc r.0 text out))
        (subst (λ (b : Bool). may opening (lines_in xs) (r.0 ++ (text ++ out)) b) (sym (or_assoc refused refusal more)) all),
  )

  -- no line is left
  pub runs_last : (first now next before after : Option (List ℕ)) (opening state : A) (refused : Bool) (Steady Written : Type 0) (status : ℕ) → Runs first now before after opening state refused → TakesLine now next None
      → ((a : A) → may a [] [] false) → status ≡ cond refused 1 0 → IfSome first (λ xs. Steady → Written → WritesAnswers (may opening (lines_in xs)) before after status)
  runs_last None now next before after opening state refused Steady Written status r t ends s = tt
  runs_last (Some xs) None next before after opening state refused Steady Written status r t ends s = absurd r
  runs_last (Some xs) (Some ys) None before after opening state refused Steady Written status r t ends s = absurd t
  runs_last (Some xs) (Some ys) (Some zs) before after opening state refused Steady Written status r t ends s = λ _ _.
      let none : may state (lines_in ys) [] false = subst (λ (l : List ℕ). may state (lines_in l) [] false) (sym t.0) (ends state) in
      let all : may opening (lines_in xs) r.0 refused =
      subst (λ (o : List ℕ). may opening (lines_in xs) o refused) (append-nil r.0) (subst (λ (b : Bool). may opening (lines_in xs) (r.0 ++ []) b) (or_false refused) (r.2 [] false none)) in
      (r.0, refused, all, r.1, s)

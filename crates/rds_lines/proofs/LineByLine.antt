-- What was written so far, line by line.
use Rattle.std.proofs.Common.{◌≡◌, ℕ, Bool, true, false, cond, ◌||◌, List, [], ◌∷◌, ◌++◌, Option, Some, Result, refl, sym, subst, String}
use mir.Val.{bool_byte}
use Rattle.std.specs.Global.{Global}
use Rattle.std.specs.Prelude.{IfSome}
use Rattle.std.specs.Io.KnownBytes.{Appends, prepend_known}
use Rattle.rds_names.specs.declared.fault.Fault.{Fault}
use Rattle.rds_lines.specs.Lines.{ReadsText}
use Rattle.rds_lines.specs.Ahead.{IsOfSomeLine, TakesLine}
use Rattle.rds_lines.proofs.Answered.{Runs, runs_first, runs_on}
use Rattle.rds_lines.proofs.Told.{Told, told_nothing, told_on}

-- 1 where a line was refused
pub byte_is : (refused : Bool) → bool_byte refused ≡ cond refused 1 0
byte_is true = refl
byte_is false = refl

-- the line that was found
pub line_found : (now next : Option (List ℕ)) (found : Option (Result (String Global) Fault)) (line : Result (String Global) Fault) → found ≡ Some line → TakesLine now next found → IfSome found IsOfSomeLine
    → TakesLine now next (Some line) × IsOfSomeLine line
line_found now next found line is takes some =
    (subst (TakesLine now next) is takes, subst (λ (l : Option (Result (String Global) Fault)). IfSome l IsOfSomeLine) is some)

module _ {A : Type 0} (may : A → List (List ℕ) → List ℕ → Bool → Type 0) where
  -- what was written answers the lines that were taken
  pub record Standing (first now before after : Option (List ℕ)) (opening state : A) (refused : Bool) : Type 0 where
    pub runs : Runs may first now before after opening state refused
    pub told : Told may first now before after opening state refused

  -- nothing was taken
  pub at_first : (first before : Option (List ℕ)) (opening : A) (ahead : List ℕ) → ahead ≡ [] → Standing first (prepend_known ahead first) before before opening opening false
  at_first first before opening ahead none =
      subst (λ (a : List ℕ). Standing first (prepend_known a first) before before opening opening false) (sym none)
      (record { runs = runs_first may first before opening; told = told_nothing may first before opening })

  -- a line that was answered
  pub after_answer : (first now next before after later : Option (List ℕ)) (opening state next_state : A) (refused refusal said : Bool) (line : Result (String Global) Fault) (text : List ℕ)
      → Standing first now before after opening state refused → TakesLine now next (Some line) × IsOfSomeLine line → Appends after later text
      → ((bytes : List ℕ) (lines : List (List ℕ)) (out : List ℕ) (more : Bool) → ReadsText bytes line → may next_state lines out more → may state (bytes ∷ lines) (text ++ out) (refusal || more))
      → said ≡ refusal → Standing first next before later opening next_state (refused || said)
  after_answer first now next before after later opening state next_state refused refusal said line text s found w step is =
      subst (λ (b : Bool). Standing first next before later opening next_state (refused || b)) (sym is)
      (record {
        runs = runs_on may first now next before after later opening state next_state refused refusal line text s.runs found.0 w step;
        told = told_on may first now next before after later opening state next_state refused refusal line text s.told found.0 found.1 w step;
      })

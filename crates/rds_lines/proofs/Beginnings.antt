-- Beginnings of what was to be written.
use Rattle.std.proofs.Common.{◌≡◌, ℕ, List, [], ◌∷◌, ◌++◌, Option, Some, None, Ok, Err, String, string_bytes, sym, subst, inr}
use Rattle.std.specs.Global.{Global}
use Rattle.std.specs.Prelude.{IfSome}
use Rattle.rds_keep.specs.Parts.{AppendsFront}
use Rattle.rds_names.specs.declared.fault.Fault.{Fault}
use Rattle.rds_lines.specs.Join.{MayJoinTo}
use Rattle.rds_output.specs.Output.{fault_line}
use Rattle.rds_lines.specs.Refusal.{refusal_fault}
use Rattle.rds_lines.specs.Run.{IsJoinLine, WritesJoinFront}
use Rattle.rds_lines.specs.declared.refusal.Refusal.{Refusal}

-- the digits of what was joined
pub line_begun : (o a b : Option (List ℕ)) (line : String Global) (Steady : Type 0) → IfSome o (λ input. Steady → IsJoinLine input (Ok line)) → AppendsFront a b (string_bytes line ++ 10 ∷ [])
    → IfSome o (λ input. Steady → WritesJoinFront input a b)
line_begun None a b line Steady h front = tt
line_begun (Some input) a b line Steady h front = λ steady.
    let answer = h steady in
    (Ok answer.0, inr answer.1, subst (λ (t : List ℕ). AppendsFront a b (t ++ 10 ∷ [])) answer.2 front)

-- the line of a fault
pub fault_begun : (o a b : Option (List ℕ)) (e : Refusal) (f : Fault) (Steady : Type 0) → f ≡ refusal_fault e → IfSome o (λ input. Steady → IsJoinLine input (Err e)) → AppendsFront a b (fault_line f)
    → IfSome o (λ input. Steady → WritesJoinFront input a b)
fault_begun None a b e f Steady is h front = tt
fault_begun (Some input) a b e f Steady is h front = λ steady. (Err f, subst (λ (x : Fault). MayJoinTo input (Err x)) (sym is) (h steady), front)

-- From the front that was read to what was written.
use Rattle.std.proofs.Common.{◌≡◌, ◌<◌, ◌-◌, ◌^◌, ◌⊎◌, ℕ, List, [], ◌∷◌, ◌++◌, take, Option, Some, None, Result, Ok, Err, refl, sym, ap, ◌∙◌, subst, inl, inr, arith, String, string_bytes}
use Rattle.std.specs.Global.{Global}
use Rattle.std.specs.Prelude.{IfSome, OnOk, OnErr, MatchResult}
use Rattle.std.specs.Io.KnownBytes.{Appends}
use Rattle.hex.specs.Hex.{encode_lower}
use Rattle.rds_names.specs.declared.fault.Fault.{Fault}
use Rattle.rds_names.specs.declared.fault.Fault.TheVariants.{Memory}
use Rattle.rds_keep.specs.Counted.{one_more}
use Rattle.rds_keep.specs.Parts.{AppendsFront}
use Rattle.rds_lines.specs.Join.{JoinsTo, MayJoinTo}
use Rattle.rds_output.specs.Output.{Writes, fault_line}
use Rattle.rds_output.proofs.Failing.{failed_by}
use Rattle.rds_lines.specs.Refusal.{refusal_fault}
use Rattle.rds_lines.specs.Run.{WritesJoin, WritesJoinFront, IsJoinLine}
use Rattle.rds_lines.specs.declared.refusal.Refusal.{Refusal}
use Rattle.rds_lines.specs.declared.run.TheConstants.{MOST}
use Rattle.rds_lines.proofs.Fronts.{joins_whole, may_join_whole}

-- why the front gives no text is why the whole gives none
pub refused_line : (o : Option (List ℕ)) (front seen : List ℕ) (Steady : Type 0) (r : Result (String Global) Refusal) (e : Refusal)
    → IfSome o (λ input. front ≡ take MOST input) → seen ≡ front → MayJoinTo seen (Err (refusal_fault e)) → r ≡ Err e → IfSome o (λ input. Steady → IsJoinLine input r)
refused_line None front seen Steady r e h s j is = tt
refused_line (Some input) front seen Steady r e h s j is = λ steady.
    rw is (may_join_whole MOST input (Err (refusal_fault e)) (omega arith) (subst (λ (x : List ℕ). MayJoinTo x (Err (refusal_fault e))) (s ∙ h) j))

-- the digits of the front's text are those of the whole's
pub joined_line : (o : Option (List ℕ)) (front seen text given : List ℕ) (Steady : Type 0) (line : String Global)
    → IfSome o (λ input. front ≡ take MOST input) → seen ≡ front → JoinsTo seen (Ok text) → given ≡ text → string_bytes line ≡ encode_lower given → IfSome o (λ input. Steady → IsJoinLine input (Ok line))
joined_line None front seen text given Steady line h is j same b = tt
joined_line (Some input) front seen text given Steady line h is j same b = λ steady.
    (text, joins_whole MOST input (Ok text) (omega arith) (subst (λ (x : List ℕ). JoinsTo x (Ok text)) (is ∙ h) j), b ∙ ap encode_lower same)

pub line_written : (o a b : Option (List ℕ)) (line : String Global) (Steady : Type 0) (before after status : ℕ) (r : Result (Unit {0}) Fault) → IfSome o (λ input. Steady → IsJoinLine input (Ok line))
    → OnOk r (Appends a b (string_bytes line ++ 10 ∷ [])) → OnErr r (after ≡ one_more before) → MatchResult r (λ _. status ≡ 0) (λ _. status ≡ 1)
    → IfSome o (λ input. Steady → ((before < after) ⊎ (after ≡ 2 ^ 64 - 1) → ⊥) → WritesJoin input a b status)
line_written None a b line Steady before after status r h w e s = tt
line_written (Some input) a b line Steady before after status (Ok u) h w e s = λ steady _.
    let answer = h steady in
    (Ok answer.0, inr answer.1, (subst (λ (t : List ℕ). Appends a b (t ++ 10 ∷ [])) answer.2 w, s))
line_written (Some input) a b line Steady before after status (Err fault) h w e s = λ steady written. absurd (written (failed_by before before after refl e))

pub fault_written : (o a b : Option (List ℕ)) (e : Refusal) (f : Fault) (Steady Written : Type 0) (status : ℕ) → f ≡ refusal_fault e → IfSome o (λ input. Steady → IsJoinLine input (Err e))
    → (Written → Writes (Err f) a b status)
    → IfSome o (λ input. Steady → Written → WritesJoin input a b status)
fault_written None a b e f Steady Written status is h w = tt
fault_written (Some input) a b e f Steady Written status is h w = λ steady written.
    (Err f, subst (λ (x : Fault). MayJoinTo input (Err x)) (sym is) (h steady), w written)

pub memory_written : (o a b : Option (List ℕ)) (Steady Written : Type 0) (status : ℕ) → (Written → Writes (Err Memory) a b status)
    → IfSome o (λ input. Steady → Written → WritesJoin input a b status)
memory_written None a b Steady Written status w = tt
memory_written (Some input) a b Steady Written status w = λ steady written. (Err Memory, inl refl, w written)

pub memory_begun : (o a b : Option (List ℕ)) (Steady : Type 0) → AppendsFront a b (fault_line Memory) → IfSome o (λ input. Steady → WritesJoinFront input a b)
memory_begun None a b Steady front = tt
memory_begun (Some input) a b Steady front = λ steady. (Err Memory, inl refl, front)

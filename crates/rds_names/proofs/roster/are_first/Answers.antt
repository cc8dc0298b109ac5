use Rattle.std.proofs.Common.{rules, ◌≡◌, ◌↔◌, ◌++◌, IsTrue, length, ℕ, Bool, List, take, drop, sym, ap, ◌∙◌}
use Rattle.std.proofs.Math.Seq.{take-append_seam}
use Rattle.std.proofs.lemmas.List.{take-append-drop}
use Rattle.rds_names.specs.Roster.{AreFirst}
use Rattle.rds_names.proofs.roster.are_first.Goals as goal

-- the first names are as many of the others
first_of : (names others first : List (List ℕ)) → first ≡ take (length names) others → (b : Bool) → (IsTrue b ↔ (names ≡ first)) → IsTrue b ↔ AreFirst names others
first_of names others first is b e = (λ t. (drop (length names) others, (sym (take-append-drop (length names) others) ∙ ap (λ xs. xs ++ drop (length names) others) (sym (e.0 t ∙ is)))), λ a. e.1 (sym (is ∙ ap (take (length names)) a.1 ∙ take-append_seam names a.0)))

pub returns-in-Some : goal.returns-in-Some
returns-in-Some c = first_of c.args.names.now c.args.others.now c.in-Some.first.now (search rules) c.same_names.result c.same_names.ensures

use Rattle.std.proofs.Common.{◌∙◌, sym, rules}
use Rattle.std.proofs.lemmas.List.Sorted.{answers_always}
use Rattle.rds_life.proofs.Finds.{find_absent}
use Rattle.rds_life.proofs.Puts.{remove_at, without_none}
use Rattle.rds_life.proofs.rows.remove_row.Goals as goal

pub returns-in-Ok : goal.returns-in-Ok
returns-in-Ok c =
    let here = c.in-Ok.ensures.position (λ row. row.0) (answers_always _ _ _ (λ f a r g called. search rules)) in
    let removed = remove_at c.deref.result.now (rw c.deref.ensures.value c.requires) c.remove.result c.in-Ok.at c.in-Ok.ensures.bound c.args.dot (here c.remove.result) in
    c.remove.ensures.items ∙ rw c.deref.ensures.value at removed

pub returns-in_default : goal.returns-in_default
returns-in_default c =
    let parted = c.in_default.ensures.position (λ row. row.0) (answers_always _ _ _ (λ f a r g called. search rules)) in
    let none = find_absent c.deref.result.now (rw c.deref.ensures.value c.requires) c.args.dot c.in_default.field-0 parted in
    sym (without_none c.args.dot c.args.rows.now.items c.requires (rw c.deref.ensures.value at none))

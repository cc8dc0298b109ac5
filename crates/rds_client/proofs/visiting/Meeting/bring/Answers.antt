use Rattle.std.proofs.Common.{ℕ, List, inr, subst, sym}
use Rattle.rds_offline.specs.Letters.{TakesFile}
use Rattle.rds_client.proofs.visiting.Meeting.bring.Goals as goal

pub returns-in-Ok : goal.returns-in-Ok
returns-in-Ok g c =
    let asked = c.deref-2.result.now in
    let answer = c.deref-3.result.now in
    let file = c.in-Ok.done.file in
    let forked = c.in-Ok.done.forked in
    let takes = subst (λ (path : List ℕ). TakesFile path asked answer file c.in-Ok.done.components forked) c.post.ensures.path c.in-Ok.ensures.taken in
    record {
      taken = inr (asked, answer, file, forked, subst (λ (n : ℕ). TakesFile c.args.self.now.path.now asked answer file n forked) (sym c.into_components.ensures) takes);
    }

use Rattle.std.proofs.Common.{rules, ◌≡◌, ◌∷◌, ℕ, List, subst}
use Rattle.rds_session.specs.Marked.{mark_bytes}
use Rattle.rds_session.specs.Sending.{SendsOne}
use Rattle.rds_session.proofs.sending.send_done.Goals as goal

pub returns-in_ok-extend_from_slice-in-Some-2 : goal.returns-in_ok-extend_from_slice-in-Some-2
returns-in_ok-extend_from_slice-in-Some-2 c =
    let body : c.deref.result.now ≡ 0 ∷ mark_bytes c.in-Some.mark = search rules in
    rw c.in-Some.is (subst (λ (b : List ℕ). SendsOne c.args.send.now.items c.put_message.new.send.items (4 ∷ b) c.put_message.result) body c.put_message.ensures)

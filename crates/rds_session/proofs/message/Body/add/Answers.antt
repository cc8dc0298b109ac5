use Rattle.std.proofs.Common.{ap, ◌∙◌, ◌++◌, List, ℕ}
use Rattle.rds_session.specs.Coming.{ComingValue}
use Rattle.rds_session.proofs.Began.{refused_still}
use Rattle.rds_session.proofs.message.Body.add.Goals as goal

pub returns-in_ok-add-in-Hello-clause-ok : goal.returns-in_ok-add-in-Hello-clause-ok
returns-in_ok-add-in-Hello-clause-ok g c = λ expected came holds.
    (let run = c.args.run.now in
    let h = rw c.in-Hello.is at holds in
    let text = ap (λ (x : ComingValue). x.came) c.in_ok-add-in-Hello.ensures.ok ∙ ap (λ (t : List ℕ). t ++ run) h.6 in
    (h.0, h.1, h.2, h.3 ++ run, ap (λ (t : List ℕ). t ++ run) h.4, h.5, text))

pub returns-in-Refused-clause-ok : goal.returns-in-Refused-clause-ok
returns-in-Refused-clause-ok g c = λ expected came holds. refused_still expected came c.args.run.now c.in-Refused.fault (rw c.in-Refused.is at holds)

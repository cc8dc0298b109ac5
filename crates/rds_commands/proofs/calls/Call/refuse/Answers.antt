use Rattle.std.proofs.Common.{◌≡◌, ◌∙◌, false, sym}
use Rattle.std.proofs.KnownBytes.{Appends-nil}
use Rattle.rds_commands.specs.Calls.{writes_fault}
use Rattle.rds_commands.proofs.calls.Call.refuse.Goals as goal

pub returns-else-tells_fault-clause-written : goal.returns-else-tells_fault-clause-written
returns-else-tells_fault-clause-written g c = λ whole.
    let silent : writes_fault c.args.self.form ≡ false = sym c.tells_fault.ensures ∙ c.if-tells_fault.false in
    rw silent (Appends-nil _, c.status_for.ensures.status)

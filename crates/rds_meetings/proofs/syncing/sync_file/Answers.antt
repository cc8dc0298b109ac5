use Rattle.std.proofs.Common.{◌≡◌, inl, inr, refl, rules}
use Rattle.rds_names.specs.declared.fault.Fault.TheVariants.{Device, WrongVersion}
use Rattle.rds_session.specs.declared.step.Ended.TheVariants.{Failed}
use Rattle.rds_session.specs.declared.version.Version.TheVariants.{Two, Five}
use Rattle.rds_meetings.specs.declared.settling.Settled.TheVariants.{Nothing}
use Rattle.rds_meetings.proofs.syncing.sync_file.Goals as goal

pub returns-in_default-clause-written : goal.returns-in_default-clause-written
returns-in_default-clause-written g c = λ steady. inl (record { fault = Device; due = inl refl; written = c.give_up-in_default.ensures.written steady })

pub returns-then-not-is_of_older_server-clause-written : goal.returns-then-not-is_of_older_server-clause-written
returns-then-not-is_of_older_server-clause-written g c = λ steady. inr (
  c.in-Ok.file,
  c.in-Ok.ensures.read,
  Five,
  inl refl,
  _,
  record {
    settled = c.meet-met.result.settled;
    ended = c.meet-met.result.ended;
    meets = c.meet-met.ensures;
    written = c.tell.ensures.written steady;
  },
)

pub returns-in-Some-connect-clause-written : goal.returns-in-Some-connect-clause-written
returns-in-Some-connect-clause-written g c = λ steady.
    let older : (c.meet-met.result.settled ≡ Nothing) × (c.meet-met.result.ended ≡ Failed WrongVersion) = search rules in
    let first = rw (older.0, older.1) at c.meet-met.ensures in
    inr (c.in-Ok.file, c.in-Ok.ensures.read, Two, inr (refl, _, first), _, c.sync.ensures.written steady)

pub returns-clause-written : goal.returns-clause-written
returns-clause-written g c = λ steady. inl (record { fault = Device; due = inl refl; written = c.give_up-in-None.ensures.written steady })

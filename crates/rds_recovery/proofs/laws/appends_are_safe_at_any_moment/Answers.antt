use Rattle.rds_recovery.proofs.AtAnyMoment.{safe_read, safe_within, stays_safe, synced_safe}
use Rattle.rds_recovery.proofs.laws.appends_are_safe_at_any_moment.Goals as goal

pub returns-clause-synced : goal.returns-clause-synced
returns-clause-synced g c = λ device. synced_safe (g.D.Device.may_leave device)

pub returns-clause-read : goal.returns-clause-read
returns-clause-read g c = λ device. safe_read (g.D.Device.may_leave device)

pub returns-clause-within : goal.returns-clause-within
returns-clause-within g c = λ device. safe_within (g.D.Device.may_leave device)

pub returns-clause-stays : goal.returns-clause-stays
returns-clause-stays g c = stays_safe g.D.Device.moment g.D.Device.left_since g.D.Device.may_leave g.met.D.Device.counts_now

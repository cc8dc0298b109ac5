use Rattle.std.proofs.Common.{◌≡◌, ◌-◌, ◌≤◌}
use Rattle.std.specs.Io.KnownBytes.{Appends}
use Rattle.rds_keep.specs.Parts.{ConsumesAtMost}
use Rattle.rds_state.specs.Fits.{ReplicaValue}
use Rattle.rds_session.specs.declared.talk.Side.{Side}
use Rattle.rds_session.specs.Leaving.{Speaks}
use Rattle.rds_session.specs.Reads.{most_heard}
use Rattle.rds_session.specs.Session.{Nothing}
use Rattle.rds_session.specs.Steps.{HasStanding, IsNoDevice}
use Rattle.rds_session.proofs.exchanging.talk.Given as goal

abbrev pub invariant-turns : goal.invariant-turns
invariant-turns g l = (IsNoDevice l.fn.session.ended → IsNoDevice l.session.ended) × (l.ended ≡ l.session.ended) × (l.session.kept ≡ l.fn.session.kept) × (l.reader.failed ≡ l.fn.reader.failed) × (l.writer.failed ≡ l.fn.writer.failed)
    × ((side : Side) (kept : ReplicaValue) → HasStanding side kept Nothing l.fn.session
    → Speaks side kept (g.R.Read.remaining l.fn.reader.inner) (g.R.Read.remaining l.reader.inner) l.session (Appends (g.W.Write.contents l.fn.writer.inner) (g.W.Write.contents l.writer.inner)))
    × ConsumesAtMost (g.R.Read.remaining l.fn.reader.inner) (g.R.Read.remaining l.reader.inner) (most_heard (l.fn.reader.budget - l.reader.left)) × (l.reader.left ≤ l.fn.reader.budget)

abbrev pub decreases-turns : goal.decreases-turns
decreases-turns g l = l.reader.left

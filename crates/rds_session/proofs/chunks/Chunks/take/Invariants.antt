use Rattle.std.proofs.Common.{◌≡◌, length}
use Rattle.rds_session.specs.Chunks.{scan}
use Rattle.rds_session.proofs.Scans.{IsScanning}
use Rattle.rds_session.proofs.chunks.Chunks.take.Given as goal

abbrev pub invariant-bytes : goal.invariant-bytes
invariant-bytes g l = IsScanning (scan l.fn.piece l.fn.self.under) l.rest l.place l.message.came × (l.count ≡ length l.message.came) × (l.message.expected ≡ l.fn.self.expected)

abbrev pub decreases-bytes : goal.decreases-bytes
decreases-bytes g l = length l.rest

use Rattle.std.proofs.Common.{◌≤◌, length, arith, rules}
use Rattle.rds_session.specs.Reads.{most_heard}
use Rattle.rds_session.proofs.Spent.{read_more, read_once, unread}
use Rattle.rds_meetings.proofs.meeting.drop_rest.Goals as goal

pub turns-init : goal.turns-init
turns-init g c = rw c.renew_budget.ensures (unread (g.R.Read.remaining c.args.reader.now.inner) _, omega arith)

pub turns-preserved : goal.turns-preserved
turns-preserved g c =
    let room : length c.read.new.buf ≤ most_heard 1 = search rules in
    let once = read_once _ _ c.read.result c.read.new.buf c.turns.reader.left _ c.read.ensures.bytes room c.read.ensures.left c.read.ensures.turn in (
      read_more _ (g.R.Read.remaining c.turns.reader.inner) _ _ c.turns.reader.left _ c.turns.invariant.0 once c.turns.invariant.1 (omega (arith, c.read.ensures.left)),
      omega (arith, c.read.ensures.left, c.turns.invariant.1),
    )

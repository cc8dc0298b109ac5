use Rattle.std.proofs.Common.{rules}
use Rattle.rds_session.specs.Received.{delivery_of}
use Rattle.rds_meetings.proofs.Heard.{any_call}
use Rattle.rds_meetings.proofs.meeting.exchange_over.Goals as goal

pub returns-clause-session : goal.returns-clause-session
returns-clause-session g c = record {
  received = delivery_of c.exchange-exchanged.result.received c.exchange-exchanged.result.roster;
  leaves = rw (← c.kept.ensures) (record {
    checked = c.exchange-exchanged.ensures.checked;
    done = c.exchange-exchanged.ensures.done;
    over = c.exchange-exchanged.ensures.over;
    session = c.exchange-exchanged.ensures.session;
  });
  heard = rw (← c.kept.ensures) (any_call _ _ _ _ _ _ _ _ _ c.exchange-exchanged.ensures.heard);
  replaced = c.settle_exchanged-settlement.result.file;
  settles = c.settle_exchanged-settlement.ensures.settles;
}

pub returns-clause-device : goal.returns-clause-device
returns-clause-device g c = search rules steps 1000000

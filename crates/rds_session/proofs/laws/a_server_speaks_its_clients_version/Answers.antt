use Rattle.rds_session.proofs.Meeting.{serves_each}
use Rattle.rds_session.proofs.laws.a_server_speaks_its_clients_version.Goals as goal

pub returns : goal.returns
returns c = serves_each

use Rattle.rds_http.proofs.Changed.{on_ok}
use Rattle.rds_http.proofs.Shown.{snapshot_shown}
use Rattle.rds_http.proofs.reading.look.Goals as goal

pub returns-in-Snapshot-clause-answered : goal.returns-in-Snapshot-clause-answered
returns-in-Snapshot-clause-answered g c =
    on_ok c.show_snapshot.result
    (snapshot_shown c.args.asked c.args.place.now c.args.headers.now c.args.file.now.document c.document-in-Snapshot.result.now
    c.show_snapshot.new.response c.in-Snapshot.is c.document-in-Snapshot.ensures)
    c.show_snapshot.ensures

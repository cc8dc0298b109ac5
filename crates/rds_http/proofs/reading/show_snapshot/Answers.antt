use Rattle.std.proofs.Common.{inl}
use Rattle.rds_http.proofs.Changed.{on_ok}
use Rattle.rds_http.proofs.reading.show_snapshot.Goals as goal

pub returns-in-Ok : goal.returns-in-Ok
returns-in-Ok c = on_ok c.fill_file.result (λ told. inl (c.in-Ok.bytes, c.in-Ok.ensures.file, told)) c.fill_file.ensures

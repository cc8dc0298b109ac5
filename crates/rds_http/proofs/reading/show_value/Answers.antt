use Rattle.std.proofs.Common.{inl, string_bytes}
use Rattle.rds_http.proofs.Changed.{on_ok}
use Rattle.rds_http.proofs.reading.show_value.Goals as goal

pub returns-in-Ok : goal.returns-in-Ok
returns-in-Ok c =
    on_ok c.tell_value.result (λ told. inl (string_bytes c.in-Ok.text, c.in-Ok.ensures.told, told)) c.tell_value.ensures

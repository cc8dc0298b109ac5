use Rattle.std.proofs.Common.{List, ℕ, inl, string_bytes, subst}
use Rattle.rds_http.specs.Refusals.{json}
use Rattle.rds_http.specs.Replies.{Tells}
use Rattle.rds_http.proofs.Changed.{on_ok}
use Rattle.rds_http.proofs.reading.show_status.Goals as goal

pub returns-in_ok-body-in-Ok : goal.returns-in_ok-body-in-Ok
returns-in_ok-body-in-Ok c =
    let body_is = c.in_ok-body-in-Ok.ensures in
    on_ok c.fill.result (λ told. inl (
      string_bytes c.in-Ok.text,
      c.in-Ok.ensures.told,
      c.args.metrics.now.peers,
      body_is.0,
      body_is.1,
      subst (λ (body : List ℕ). Tells 200 json body c.fill.new.response) body_is.2 told,
    )) c.fill.ensures

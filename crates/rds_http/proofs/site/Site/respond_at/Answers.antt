use Rattle.std.proofs.Common.{◌≡◌, ◌∙◌, ap, subst, string_bytes}
use Rattle.http.specs.Request.{body_of}
use Rattle.rds_http.proofs.Changed.{change_unmet, on_ok}
use Rattle.rds_http.specs.Handshakes.{headers_of}
use Rattle.rds_http.specs.Looks.{IsValueAt}
use Rattle.rds_state.specs.Fits.{ReplicaValue}
use Rattle.rds_http.proofs.site.Site.respond_at.Goals as goal

pub returns-then-not-meets-clause-done : goal.returns-then-not-meets-clause-done
returns-then-not-meets-clause-done g c =
    let document : c.document.result.now ≡ c.args.self.now.document = c.document.ensures ∙ ap (λ s. s.document) c.self.view_is in
    let text = string_bytes c.in-Ok.text in
    on_ok c.refuse_unmet_at.result
    (change_unmet c.args.change c.args.place.now (headers_of c.args.request.now) (body_of c.args.request.now) c.args.self.now c.refuse_unmet_at.new.response text
    (subst (λ (d : ReplicaValue). IsValueAt d.state c.args.place.now text) document c.in-Ok.ensures.told)
    (cc (c.meets.ensures, c.if-not-meets.true, c.headers.ensures, c.in_ok-current-in-Ok.ensures, c.as_bytes.ensures.value, c.current.view_is)))
    c.refuse_unmet_at.ensures

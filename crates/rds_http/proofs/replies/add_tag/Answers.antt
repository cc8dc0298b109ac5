use Rattle.std.proofs.Common.{◌∙◌, ap, codes, string_bytes}
use Rattle.http_server.specs.Response.{fields_of}
use Rattle.rds_http.proofs.Changed.{on_ok}
use Rattle.rds_http.proofs.Shown.{two_more}
use Rattle.rds_http.proofs.replies.add_tag.Goals as goal

pub returns-clause-fields : goal.returns-clause-fields
returns-clause-fields c =
    on_ok c.add_header.result
    (two_more (fields_of c.args.response.now) (fields_of c.add_field.new.response) (fields_of c.add_header.new.self)
    (codes "cache-control", codes "no-cache") (codes "etag") (string_bytes c.args.tag) c.in-Ok.value.bytes
    c.in_ok-add_field.ensures.fields (ap (λ v. v.bytes) c.in-Ok.ensures.ok ∙ ap (λ v. v.items) c.into_bytes.ensures.value))
    c.add_header.ensures.headers

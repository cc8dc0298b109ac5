use Rattle.std.proofs.Common.{◌∙◌, ap, sym, string_bytes}
use Rattle.http_server.specs.Response.{fields_of}
use Rattle.rds_http.specs.Tags.{always, is_known}
use Rattle.rds_http.proofs.Changed.{on_ok}
use Rattle.rds_http.proofs.Shown.{question_told}
use Rattle.rds_http.proofs.reading.tell_question.Goals as goal

pub returns-in_ok-add_own-in-Ok : goal.returns-in_ok-add_own-in-Ok
returns-in_ok-add_own-in-Ok c =
    let same = c.seen_of-seen.ensures.tag in
    on_ok c.fill_tagged.result
    (question_told c.args.headers.now c.args.document.now c.args.tag (string_bytes c.seen_of-seen.result.tag) c.in-Ok.bytes
    (fields_of c.add_own-in-Ok.new.response) c.fill_tagged.new.response c.requires.tag (same ∙ c.in_ok-text.ensures.ok)
    (ap (λ t. is_known c.args.headers.now (always t)) same ∙ sym c.seen_of-seen.ensures.known ∙ c.if-seen.false)
    c.in-Ok.ensures c.in_ok-add_own-in-Ok.ensures.headers)
    c.fill_tagged.ensures

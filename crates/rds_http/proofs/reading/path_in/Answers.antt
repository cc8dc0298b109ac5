use Rattle.std.proofs.Common.{◌≡◌, ◌∙◌, Ok, ap, inr, string_bytes, subst, sym}
use Rattle.std.specs.Str.{IsUtf8}
use Rattle.percent_encoding.specs.Percent.{percent_decode}
use Rattle.rds_http.proofs.Paths.{others_are_none, text_is_path}
use Rattle.rds_http.proofs.reading.path_in.Goals as goal

pub returns-in_ok-into_owned-in-Ok : goal.returns-in_ok-into_owned-in-Ok
returns-in_ok-into_owned-in-Ok c =
    let is : IsUtf8 (percent_decode c.args.place.now) = subst IsUtf8 c.percent_decode.ensures.bytes c.in-Ok.ensures.ok_only_if_utf8 in
    let text : string_bytes c.in_ok-into_owned-in-Ok.field-0 ≡ percent_decode c.args.place.now =
    c.in_ok-into_owned-in-Ok.ensures.ok ∙ c.in-Ok.ensures.value ∙ c.percent_decode.ensures.bytes in
    text_is_path c.args.place.now is ∙ ap (λ t. Ok t) (sym text)

pub returns-in-Err-Utf8 : goal.returns-in-Err-Utf8
returns-in-Err-Utf8 c =
    inr (others_are_none c.args.place.now (λ is. absurd (cc (c.in-Err-Utf8.ensures.utf8 (subst IsUtf8 (sym c.percent_decode.ensures.bytes) is)))))

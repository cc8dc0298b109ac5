use Rattle.std.proofs.Common.{◌≡◌, ◌∙◌, get_or, ap, sym, true, false, ◌==◌}
use Rattle.serde_json.specs.Read.{number_of, number_from}
use Rattle.fast_float.specs.Text.{scan}
use Rattle.rds_json.proofs.numbers.number_of.Goals as goal

pub returns-in-Some : goal.returns-in-Some
unfolding number_of
returns-in-Some c =
    let is = c.in-Some.ensures in
    c.negative_number.ensures ∙ ap (number_from true) c.scan.ensures.parts ∙ ap number_of (sym is) ∙ ap number_of c.as_bytes-bytes.ensures.value

pub returns-in-None : goal.returns-in-None
unfolding number_of
returns-in-None c =
    let s = c.as_bytes-bytes.result.now in
    let plain : (get_or s 0 0 == 45) ≡ false = c.in-None.ensures in
    let read : number_from false (scan s) ≡ number_of s = rw plain in
    c.plain_number.ensures ∙ ap (number_from false) c.scan-in-None.ensures.parts ∙ read ∙ ap number_of c.as_bytes-bytes.ensures.value

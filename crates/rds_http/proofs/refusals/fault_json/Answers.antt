use Rattle.std.proofs.Common.{decimal}
use Rattle.rds_names.specs.Fault.{name_of, number_of, words_of}
use Rattle.rds_http.proofs.Texts.{fault-joined}
use Rattle.rds_http.proofs.refusals.fault_json.Goals as goal

pub returns : goal.returns
returns c =
    let fault = c.args.fault in
    rw (
      c.in_ok-extend_from_slice-2.ensures.items,
      c.in_ok-extend_from_slice.ensures.items,
      c.into_bytes-text.ensures.value,
      c.in_ok-head.ensures.ok,
      c.number-number.ensures,
      c.name-name.ensures,
      c.words_in.ensures,
    )
    (fault-joined (decimal (number_of fault)) (name_of fault) (words_of fault))

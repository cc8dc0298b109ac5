use Rattle.std.specs.Str.{bytes_eq, str_to_ascii_lowercase}
use Rattle.std.proofs.lemmas.Bool.Decides.{same_from_decides}
use Rattle.std.proofs.lemmas.Slice.Eq.{bytes_eq-Decides}
use Rattle.rds_fields.proofs.names.are_same_names.Goals as goal

pub returns : goal.returns
returns c =
    let name = str_to_ascii_lowercase c.args.name.now in
    let other = str_to_ascii_lowercase c.args.other.now in
    same_from_decides c.eq_ignore_ascii_case.result (bytes_eq name other) c.eq_ignore_ascii_case.ensures.test (bytes_eq-Decides name other)

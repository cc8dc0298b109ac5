use Rattle.std.proofs.lemmas.Str.{IsUtf8-from_is_utf8}
use Rattle.rds_http.proofs.Changed.{no_name}
use Rattle.rds_http.proofs.changing.grow_in.Goals as goal

pub returns-in_default-clause-fault : goal.returns-in_default-clause-fault
returns-in_default-clause-fault g c =
    no_name c.args.bytes.now c.args.held.now.file.document
    (λ is. c.in_default.ensures.cases.0 (IsUtf8-from_is_utf8 c.args.bytes.now is))

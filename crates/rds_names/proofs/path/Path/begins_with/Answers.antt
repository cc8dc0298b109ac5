use Rattle.std.proofs.Common.{◌≡◌, drop, length}
use Rattle.std.specs.List.{starts_with}
use Rattle.std.specs.Str.{bytes_eq}
use Rattle.std.proofs.lemmas.Slice.Eq.{starts_is, bytes_eq-Decides}
use Rattle.rds_names.proofs.path.Path.begins_with.Goals as goal

pub returns-clause-rest : goal.returns-clause-rest
returns-clause-rest c =
    let value : c.starts_with.result ≡ starts_with bytes_eq c.args.self.now c.args.other.now = cc (c.starts_with.ensures.value, c.keys.ensures.keys, c.keys-2.ensures.keys) in
    let is = starts_is bytes_eq-Decides c.args.self.now c.args.other.now c.starts_with.result value in
    (λ t. (drop (length c.args.other.now) c.args.self.now, is.0 t), λ more. is.1 more.0 more.1)

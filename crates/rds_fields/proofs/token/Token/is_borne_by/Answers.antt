use Rattle.std.proofs.Common.{◌&&◌, ap, bytes_eq, codes, drop, sym}
use Rattle.rds_fields.proofs.Texts.{shorter-than_name}
use Rattle.rds_fields.proofs.token.Token.is_borne_by.Goals as goal

pub returns-in-None : goal.returns-in-None
returns-in-None c =
    sym (ap (λ same. same && bytes_eq (drop 7 c.args.value.now) c.args.self.now)
    (shorter-than_name c.args.value.now (codes "Bearer ") c.in-None.ensures.cases))

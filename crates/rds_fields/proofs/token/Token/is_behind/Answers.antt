use Rattle.std.proofs.Common.{◌∙◌, sym}
use Rattle.rds_fields.proofs.Texts.{bytes_eq-other, bytes_eq-rest}
use Rattle.rds_fields.proofs.token.Token.is_behind.Goals as goal

pub returns-in-Some : goal.returns-in-Some
returns-in-Some c =
    let e = c.in-Some.ensures.cases in
    c.is.ensures ∙ sym (bytes_eq-rest c.args.bytes.now c.args.start.now c.args.self.now c.in-Some.shown.now e.0 e.1)

pub returns-in-None : goal.returns-in-None
returns-in-None c = sym (bytes_eq-other c.args.bytes.now c.args.start.now c.args.self.now c.in-None.ensures.cases)

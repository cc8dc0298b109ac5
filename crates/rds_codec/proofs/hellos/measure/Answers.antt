use Rattle.std.proofs.Common.{ap, sym, ◌∙◌, ◌+◌}
use Rattle.rds_codec.proofs.HelloFormats.{hello_length}
use Rattle.rds_codec.proofs.hellos.measure.Goals as goal

pub returns-clause-length : goal.returns-clause-length
returns-clause-length c = ap (λ n. 1 + n) c.member_length.ensures.length ∙ sym (hello_length c.args.hello.now)

pub returns-clause-value : goal.returns-clause-value
returns-clause-value c = λ version own. record { version = version; member = c.member_length.ensures.is_member own }

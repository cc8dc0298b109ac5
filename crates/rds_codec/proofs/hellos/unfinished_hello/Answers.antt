use Rattle.rds_codec.specs.HelloTexts.{hello_at}
use Rattle.rds_codec.proofs.Parts.{same_part}
use Rattle.rds_codec.proofs.hellos.unfinished_hello.Goals as goal

pub returns : goal.returns
returns c = λ bytes. same_part (hello_at bytes)

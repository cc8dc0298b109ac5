use Rattle.rds_codec.proofs.HelloFormats.{hello_parts}
use Rattle.rds_codec.proofs.Texts.{OnOk-map}
use Rattle.rds_codec.proofs.hellos.put_hello.Goals as goal

pub returns : goal.returns
returns c =
    OnOk-map c.put_member.result (λ last. hello_parts c.args.hello.now c.args.out.now.items c.put_byte.new.out.items c.put_member.new.out.items c.in_ok-put_byte.ensures last) c.put_member.ensures

use Rattle.std.proofs.Common.{arith}
use Rattle.std.proofs.lemmas.Grind.{common_steps}
use Rattle.rds_keep.proofs.KeptTexts.{is_new_file}
use Rattle.rds_keep.proofs.sums.encode_file.Goals as goal

pub returns-clause-stored : goal.returns-clause-stored
returns-clause-stored g c =
    let text = c.in_ok-bytes.ensures.text in
    let fits = rw c.as_slice.ensures.value at c.hold_bytes.ensures in
    is_new_file c.args.replica.now c.in_ok-bytes.bytes.items c.put_record.new.out.items fits text.0 text.1 c.in_ok-bytes.ensures.again (grind (arith, common_steps))

use Rattle.std.proofs.Common.{◌∙◌, ap, decimal}
use Rattle.rds_output.proofs.ReplyPieces.{fault_pieces, same_part}
use Rattle.rds_output.proofs.output.write_fault_line.Goals as goal

pub returns-clause-part : goal.returns-clause-part
returns-clause-part g c =
    let number = c.of-number.ensures.text ∙ ap decimal (c.from.ensures ∙ c.number.ensures) in
    let name = c.as_bytes.ensures.value ∙ c.name.ensures in
    same_part (g.W.Write.contents c.args.writer.now.inner) (g.W.Write.contents c.write_pieces.new.self.inner) _ _ c.write_pieces.result (fault_pieces c.of-number.result.now c.as_bytes.result.now c.args.fault number name)
    c.write_pieces.ensures.part

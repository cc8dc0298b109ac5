use Rattle.std.proofs.Common.{◌∙◌, ap, decimal}
use Rattle.rds_output.proofs.ReplyPieces.{refused_line_pieces, same_part}
use Rattle.rds_output.proofs.reply.write_refused_line.Goals as goal

pub returns-clause-part : goal.returns-clause-part
returns-clause-part g c =
    let number = c.of.ensures.text ∙ ap decimal (c.from.ensures ∙ c.number.ensures) in
    let name = c.as_bytes.ensures.value ∙ c.name.ensures in
    let line = c.of-2.ensures.text ∙ ap decimal c.from-2.ensures in
    same_part (g.W.Write.contents c.args.writer.now.inner) (g.W.Write.contents c.write_pieces.new.self.inner) _ _ c.write_pieces.result
    (refused_line_pieces c.of.result.now c.as_bytes.result.now c.of-2.result.now c.args.line c.args.fault number name line) c.write_pieces.ensures.part

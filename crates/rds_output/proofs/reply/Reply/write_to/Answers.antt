use Rattle.std.proofs.Common.{◌∙◌, ap, decimal}
use Rattle.rds_output.proofs.ReplyPieces.{answered_pieces, asked_pieces, refused_pieces, same_part, taken_pieces}
use Rattle.rds_output.proofs.reply.Reply.write_to.Goals as goal

pub returns-in-Done-clause-part : goal.returns-in-Done-clause-part
returns-in-Done-clause-part g c = rw c.in-Done.is c.write_all.ensures.part

pub returns-in-Answered-clause-part : goal.returns-in-Answered-clause-part
returns-in-Answered-clause-part g c =
    let number = c.of-number-in-Answered.ensures.text ∙ ap decimal c.from-in-Answered.ensures in
    rw c.in-Answered.is (same_part (g.W.Write.contents c.args.writer.now.inner) (g.W.Write.contents c.write_pieces-in-Answered.new.self.inner) _ _ c.write_pieces-in-Answered.result
    (answered_pieces c.of-number-in-Answered.result.now c.of-components.result.now c.in-Answered.number c.in-Answered.components number c.of-components.ensures.text) c.write_pieces-in-Answered.ensures.part)

pub returns-in-Refused-clause-part : goal.returns-in-Refused-clause-part
returns-in-Refused-clause-part g c =
    let number = c.of-number-in-Refused.ensures.text ∙ ap decimal (c.from-in-Refused.ensures ∙ c.number.ensures) in
    let name = c.as_bytes-name.ensures.value ∙ c.name.ensures in
    rw c.in-Refused.is (same_part (g.W.Write.contents c.args.writer.now.inner) (g.W.Write.contents c.write_pieces-in-Refused.new.self.inner) _ _ c.write_pieces-in-Refused.result
    (refused_pieces c.of-number-in-Refused.result.now c.as_bytes-name.result.now c.in-Refused.fault number name) c.write_pieces-in-Refused.ensures.part)

pub returns-in-Asked-clause-part : goal.returns-in-Asked-clause-part
returns-in-Asked-clause-part g c =
    let number = c.of-number.ensures.text ∙ ap decimal c.from.ensures in
    rw c.in-Asked.is (same_part (g.W.Write.contents c.args.writer.now.inner) (g.W.Write.contents c.write_pieces.new.self.inner) _ _ c.write_pieces.result
    (asked_pieces c.of-number.result.now c.in-Asked.number number) c.write_pieces.ensures.part)

pub returns-in-Taken-clause-part : goal.returns-in-Taken-clause-part
returns-in-Taken-clause-part g c =
    rw c.in-Taken.is (same_part (g.W.Write.contents c.args.writer.now.inner) (g.W.Write.contents c.write_pieces-in-Taken.new.self.inner) _ _ c.write_pieces-in-Taken.result
    (taken_pieces c.of-components-in-Taken.result.now c.in-Taken.components c.of-components-in-Taken.ensures.text) c.write_pieces-in-Taken.ensures.part)

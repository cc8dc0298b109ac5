use Rattle.std.proofs.Common.{◌≡◌, ◌∙◌, ap, decimal, rules}
use Rattle.rds_output.proofs.ReplyPieces.{edited_pieces, edited_without_dot, same_bytes, same_part}
use Rattle.rds_output.proofs.reply.write_edited.Goals as goal

pub returns-in-Some-clause-bytes : goal.returns-in-Some-clause-bytes
returns-in-Some-clause-bytes g c =
    let name : c.as_bytes.result.now ≡ c.in-Some.name = search rules in
    let seq : c.of.result.now ≡ decimal c.in-Some.seq = search rules in
    let killed = c.of-killed.ensures.text ∙ ap decimal c.from.ensures in
    rw c.in-Some.is (same_bytes (g.W.Write.contents c.args.writer.now.inner) (g.W.Write.contents c.write_pieces.new.self.inner) _ _ c.write_pieces.result
    (edited_pieces c.in-Some.name c.of.result.now c.of-killed.result.now c.as_bytes.result.now c.in-Some.seq c.args.killed name seq killed) c.write_pieces.ensures.bytes)

pub returns-in-Some-clause-part : goal.returns-in-Some-clause-part
returns-in-Some-clause-part g c =
    let name : c.as_bytes.result.now ≡ c.in-Some.name = search rules in
    let seq : c.of.result.now ≡ decimal c.in-Some.seq = search rules in
    let killed = c.of-killed.ensures.text ∙ ap decimal c.from.ensures in
    rw c.in-Some.is (same_part (g.W.Write.contents c.args.writer.now.inner) (g.W.Write.contents c.write_pieces.new.self.inner) _ _ c.write_pieces.result
    (edited_pieces c.in-Some.name c.of.result.now c.of-killed.result.now c.as_bytes.result.now c.in-Some.seq c.args.killed name seq killed) c.write_pieces.ensures.part)

pub returns-in-None-clause-part : goal.returns-in-None-clause-part
returns-in-None-clause-part g c =
    let killed = c.of-killed.ensures.text ∙ ap decimal c.from.ensures in
    rw c.in-None.is (same_part (g.W.Write.contents c.args.writer.now.inner) (g.W.Write.contents c.write_pieces-in-None.new.self.inner) _ _ c.write_pieces-in-None.result
    (edited_without_dot c.of-killed.result.now c.args.killed killed) c.write_pieces-in-None.ensures.part)

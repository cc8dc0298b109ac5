use Rattle.std.proofs.Common.{◌≡◌, ◌∷◌, ◌++◌, [], ℕ, List, ap, rules, string_bytes}
use Rattle.rds_output.proofs.ReplyPieces.{same_bytes, same_part}
use Rattle.rds_lines.proofs.Beginnings.{fault_begun, line_begun}
use Rattle.rds_output.proofs.Beginnings.{front_written}
use Rattle.rds_lines.proofs.Running.{line_written, fault_written}
use Rattle.rds_lines.proofs.run.run_join.Goals as goal

pub returns-in-Ok-clause-ran : goal.returns-in-Ok-clause-ran
returns-in-Ok-clause-ran g c =
    let before = g.W.Write.contents c.args.writer.now.inner in
    let after = g.W.Write.contents c.write_pieces.new.self.inner in
    let line : c.as_bytes.result.now ≡ string_bytes c.in-Ok.line = search rules in
    let same = ap (λ (l : List ℕ). l ++ 10 ∷ []) line in
    let whole = same_bytes before after (c.as_bytes.result.now ++ 10 ∷ []) (string_bytes c.in-Ok.line ++ 10 ∷ []) c.write_pieces.result same c.write_pieces.ensures.bytes in
    let part = same_part before after (c.as_bytes.result.now ++ 10 ∷ []) (string_bytes c.in-Ok.line ++ 10 ∷ []) c.write_pieces.result same c.write_pieces.ensures.part in
    record {
      join = line_written (g.R.Read.remaining c.args.reader.now.inner) before after c.in-Ok.line _ _ _ _ c.write_pieces.result c.in-Ok.ensures.line whole c.write_pieces.ensures.counted c.status_of.ensures;
      part = line_begun (g.R.Read.remaining c.args.reader.now.inner) before after c.in-Ok.line _ c.in-Ok.ensures.line (front_written before after (string_bytes c.in-Ok.line ++ 10 ∷ []) c.write_pieces.result whole part);
      unread = search rules;
      unread_part = search rules;
      most = c.join_line.ensures.most;
    }

pub returns-in-Err-clause-ran : goal.returns-in-Err-clause-ran
returns-in-Err-clause-ran g c = record {
  join = fault_written (g.R.Read.remaining c.args.reader.now.inner) (g.W.Write.contents c.args.writer.now.inner) (g.W.Write.contents c.write_fault.new.writer.inner) c.in-Err.refusal c.fault.result _ _ _ c.fault.ensures c.in-Err.ensures.line
      c.write_fault.ensures.written;
  part = fault_begun (g.R.Read.remaining c.args.reader.now.inner) (g.W.Write.contents c.args.writer.now.inner) (g.W.Write.contents c.write_fault.new.writer.inner) c.in-Err.refusal c.fault.result _ c.fault.ensures c.in-Err.ensures.line
      c.write_fault.ensures.part;
  unread = search rules;
  unread_part = search rules;
  most = c.join_line.ensures.most;
}

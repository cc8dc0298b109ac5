use Rattle.std.proofs.Common.{arith}
use Rattle.rds_session.specs.Messages.{type_byte}
use Rattle.rds_session.proofs.Cutting.{message_written}
use Rattle.rds_session.proofs.writing.put_message.Goals as goal

pub returns : goal.returns
returns c = (
  omega arith,
  message_written c.args.send.now.items c.put_first.new.send.items c.put_chunks.new.send.items (type_byte c.args.kind) c.args.body.now c.split_at.result.0.now c.split_at.result.1.now c.min.result
      c.min.ensures c.split_at.ensures.front c.split_at.ensures.back c.in_ok-put_first.ensures.ok c.in_ok-put_chunks.ensures.ok,
)

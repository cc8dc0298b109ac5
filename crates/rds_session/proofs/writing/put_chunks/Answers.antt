use Rattle.std.proofs.Common.{◌<◌, length, rules}
use Rattle.rds_session.proofs.Cutting.{chunk_goes}
use Rattle.rds_session.proofs.writing.put_chunks.Goals as goal

pub loop-rest-preserved : goal.loop-rest-preserved
loop-rest-preserved c =
    let pos : 0 < length c.loop-rest.rest.now = search rules in
    chunk_goes c.loop-rest.send.items c.loop-rest.rest.now _ c.put_chunk.new.send.items c.split_at.result.0.now c.split_at.result.1.now c.min.result
    pos c.loop-rest.invariant c.min.ensures c.split_at.ensures.front c.split_at.ensures.back c.in_ok-put_chunk.ensures.ok

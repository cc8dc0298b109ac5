use Rattle.rds_fields.proofs.TagTexts.{IsSplit, frame_of, framed}
use Rattle.rds_fields.proofs.tags.digits_in.Goals as goal

pub returns-then-is_frame-clause-some : goal.returns-then-is_frame-clause-some
returns-then-is_frame-clause-some c =
    let split : IsSplit c.args.text.now c.split_at.result.0.now c.split_at-2.result.0.now c.split_at-3.result.0.now c.split_at-4.result.0.now c.split_at-4.result.1.now =
    record {
      one = c.split_at.result.1.now;
      two = c.split_at-2.result.1.now;
      three = c.split_at-3.result.1.now;
      at_start = c.split_at.ensures.by_index.0;
      at_hash = c.split_at-2.ensures.by_index.0;
      at_dash = c.split_at-3.ensures.by_index.0;
      at_mark = c.split_at-4.ensures.by_index.0;
      start_len = c.split_at.ensures.front_len;
      hash_len = c.split_at-2.ensures.front_len;
      dash_len = c.split_at-3.ensures.front_len;
      mark_len = c.split_at-4.ensures.front_len;
    } in
    framed c.args.text.now c.split_at.result.0.now c.split_at-2.result.0.now c.split_at-3.result.0.now c.split_at-4.result.0.now c.split_at-4.result.1.now split
    (c.is_frame.ensures.0 c.if-is_frame.true)

pub returns-else-is_frame-clause-none : goal.returns-else-is_frame-clause-none
returns-else-is_frame-clause-none c none hash mark of_hash of_mark is =
    let split : IsSplit c.args.text.now c.split_at.result.0.now c.split_at-2.result.0.now c.split_at-3.result.0.now c.split_at-4.result.0.now c.split_at-4.result.1.now =
    record {
      one = c.split_at.result.1.now;
      two = c.split_at-2.result.1.now;
      three = c.split_at-3.result.1.now;
      at_start = c.split_at.ensures.by_index.0;
      at_hash = c.split_at-2.ensures.by_index.0;
      at_dash = c.split_at-3.ensures.by_index.0;
      at_mark = c.split_at-4.ensures.by_index.0;
      start_len = c.split_at.ensures.front_len;
      hash_len = c.split_at-2.ensures.front_len;
      dash_len = c.split_at-3.ensures.front_len;
      mark_len = c.split_at-4.ensures.front_len;
    } in
    absurd (cc (c.is_frame.ensures.1 (frame_of c.args.text.now c.split_at.result.0.now c.split_at-2.result.0.now c.split_at-3.result.0.now c.split_at-4.result.0.now c.split_at-4.result.1.now hash mark split of_hash of_mark is), c.if-is_frame.false))

use Rattle.rds_questions.proofs.TagTexts.{tag_added}
use Rattle.rds_questions.proofs.tags.put_tag.Goals as goal

pub returns : goal.returns
returns c =
    tag_added c.args.out.now.items c.put_hash.new.out.items c.put_u64.new.out.items c.put_u64-2.new.out.items c.args.tag.now c.in_ok-put_hash.ensures c.in_ok-put_u64.ensures c.in_ok-put_u64-2.ensures

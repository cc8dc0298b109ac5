use Rattle.std.proofs.Common.{rules, ◌≡◌, ◌<◌, [], ◌++◌, length, arith}
use Rattle.std.proofs.lemmas.Result.{err_from_is_err_and}
use Rattle.std.proofs.lemmas.Grind.{common_steps}
use Rattle.rds_feeds.specs.declared.unfinished.Progress.TheVariants.{More}
use Rattle.rds_keep.proofs.FeedSteps.{block_read, block_refused, block_extra, block_whole}
use Rattle.rds_keep.proofs.feeds.read_block.Goals as goal

pub returns-in_err-reached-in-More-clause-err : goal.returns-in_err-reached-in-More-clause-err
returns-in_err-reached-in-More-clause-err g c =
    let p = err_from_is_err_and c.from_residual-in_err-reached-in-More.result c.from_residual-in_err-reached-in-More.ensures.1 in
    let bytes : c.deref.result.now ≡ c.args.rest.now.items ++ c.args.block.now = grind (arith, common_steps) in
    rw (p.1, p.2, c.in-More.is) (block_refused g.U.Unfinished.finish c.in-More.unfinished c.args.rest.now.items c.args.block.now c.deref.result.now c.in_err-reached-in-More.field-0.0 bytes c.in_err-reached-in-More.ensures.err)

pub returns-then-not-is_empty-2-clause-err : goal.returns-then-not-is_empty-2-clause-err
returns-then-not-is_empty-2-clause-err g c =
    let bytes : c.deref.result.now ≡ c.args.rest.now.items ++ c.args.block.now = grind (arith, common_steps) in
    let some : 0 < length c.in_ok-reached-in-More.behind.now = search rules in
    rw c.in-More.is (block_extra g.U.Unfinished.finish c.in-More.unfinished c.args.rest.now.items c.args.block.now c.deref.result.now c.in_ok-reached-in-More.behind.now c.in-Whole-reached.whole bytes
    (rw c.in-Whole-reached.is at c.in_ok-reached-in-More.ensures.ok) some)

pub returns-in-Whole-reached-clause-ok : goal.returns-in-Whole-reached-clause-ok
returns-in-Whole-reached-clause-ok g c =
    let bytes : c.deref.result.now ≡ c.args.rest.now.items ++ c.args.block.now = grind (arith, common_steps) in
    let none : length c.in_ok-reached-in-More.behind.now ≡ 0 = search rules in
    let empty : c.replace-bytes.new.dest.items ≡ [] = grind (arith, common_steps) in
    rw c.in-More.is (block_whole g.U.Unfinished.finish c.in-More.unfinished c.args.rest.now.items c.args.block.now c.deref.result.now c.in_ok-reached-in-More.behind.now c.replace-bytes.new.dest.items
    c.in-Whole-reached.whole bytes (rw c.in-Whole-reached.is at c.in_ok-reached-in-More.ensures.ok) none empty)

pub returns-clause-ok : goal.returns-clause-ok
returns-clause-ok g c =
    let bytes : c.deref.result.now ≡ c.args.rest.now.items ++ c.args.block.now = grind (arith, common_steps) in
    rw c.in-More.is (block_read g.U.Unfinished.finish c.in-More.unfinished c.args.rest.now.items c.args.block.now c.deref.result.now c.in_ok-reached-in-More.behind.now c.in_ok-rest-in-More-reached.field-0.items
    (More c.in-More-reached.unfinished) bytes c.in_ok-rest-in-More-reached.ensures.items (rw c.in-More-reached.is at c.in_ok-reached-in-More.ensures.ok))

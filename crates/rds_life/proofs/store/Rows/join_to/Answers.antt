use Rattle.std.proofs.Common.{◌∙◌, ap}
use Rattle.std.specs.FinSet as set
use Rattle.rds_life.specs.Added.{gone_rows}
use Rattle.rds_life.proofs.Additions.{joined_in}
use Rattle.rds_life.proofs.store.Rows.join_to.Goals as goal

pub returns-clause-ok : goal.returns-clause-ok
returns-clause-ok g c =
    let seen = set.contains (g.S.DotSet.contents c.args.seen.now) in
    let own_seen = set.contains (g.S.DotSet.contents c.args.own_seen.now) in
    joined_in seen own_seen c.args.self.now c.args.target.now c.deref.result.now c.join_without.new.target c.requires.seen
    c.len-in_order.ensures.rise c.len-still_in_order.ensures.rise c.requires.fit.rise (c.deref.ensures.value ∙ c.in_ok-gone.ensures.ok ∙ ap (gone_rows own_seen c.args.self.now) c.mapped.ensures) c.in_ok-join_without.ensures.ok

use Rattle.rds_briefs.proofs.Shorter.{run_put}
use Rattle.rds_briefs.proofs.writing.put_run.Goals as goal

pub returns : goal.returns
returns g c =
    run_put (g.S.DotSet.contents c.args.live.now) c.args.run c.args.text.now c.put_packed.new.self c.put_byte.new.self c.put_packed-2.new.self c.put_lives.new.text c.put_packed.ensures c.put_byte.ensures c.put_packed-2.ensures c.put_lives.ensures

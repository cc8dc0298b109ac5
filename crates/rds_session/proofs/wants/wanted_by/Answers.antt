use Rattle.rds_session.proofs.Wanting.{replaced_inside}
use Rattle.rds_session.proofs.wants.wanted_by.Goals as goal

pub with_parts-requires : goal.with_parts-requires
with_parts-requires g c =
    let own = c.args.own.now in
    let wants = c.args.wants.now in
    record {
      inside = rw (c.in_ok-seen.ensures.ok, c.in_ok-live.ensures.ok, c.live-3.ensures, c.live-4.ensures, c.live-2.ensures, c.seen-2.ensures.dots)
          (replaced_inside own.live own.seen _ wants.live c.seen-2.ensures.inside);
    }

use Rattle.rds_session.proofs.Wanting.{union_inside}
use Rattle.rds_session.proofs.wants.wants_of.Goals as goal

pub with_parts-requires : goal.with_parts-requires
with_parts-requires g c = record { inside = rw (c.in_ok-seen.ensures.ok) (union_inside _ _) }

use Rattle.std.proofs.Common.{arith}
use Rattle.rds_life.proofs.MappedRows.{moved_on}
use Rattle.rds_life.proofs.row_map.RowMap.of.Goals as goal

pub moving-preserved-in_default-insert : goal.moving-preserved-in_default-insert
moving-preserved-in_default-insert c =
    let on = moved_on _ _ _ _ _ (c.in-Some.dot, c.in-Some.entry) c.requires c.in-Some.ensures.items c.moving.invariant.all c.in_default-insert.ensures.entries in
    record { all = on.0; room = omega (arith, on.1, c.in-Some.ensures.len, c.in-Some.ensures.capacity, c.moving.invariant.room) }

pub moving-preserved-in_default-insert-2 : goal.moving-preserved-in_default-insert-2
moving-preserved-in_default-insert-2 c =
    let on = moved_on _ _ _ _ _ (c.in-Some.dot, c.in-Some.entry) c.requires c.in-Some.ensures.items c.moving.invariant.all c.in_default-insert.ensures.entries in
    record { all = on.0; room = omega (arith, on.1, c.in-Some.ensures.len, c.in-Some.ensures.capacity, c.moving.invariant.room) }

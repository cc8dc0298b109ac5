use Rattle.std.proofs.Common.{◌≡◌, ◌+◌, ◌≤◌, [], ◌++◌, None, length, option_to_list, vec_len, vec_capacity}
use Rattle.std.specs.FinSet as set
use Rattle.std.specs.Vec.Iter.{into_iter_items, into_iter_len}
use Rattle.rds_life.proofs.Moves.{IsMoving}
use Rattle.rds_life.proofs.joining.move_rows.Given as goal

abbrev pub invariant-moving : goal.invariant-moving
invariant-moving g l =
    let left_has = set.contains (g.S.DotSet.contents l.seen) in
    let right_has = set.contains (g.S.DotSet.contents l.other_seen) in
    record {
      moves : IsMoving left_has right_has l.fn.own.items l.fn.other l.rows.items (option_to_list l.next ++ into_iter_items l.mine) l.other (into_iter_items l.theirs);
      ended : l.next ≡ None → into_iter_items l.mine ≡ [];
      room : vec_len l.rows + (length (option_to_list l.next) + into_iter_len l.mine + into_iter_len l.theirs) ≤ vec_capacity l.rows;
    }

abbrev pub decreases-moving : goal.decreases-moving
decreases-moving g l = length (option_to_list l.next) + into_iter_len l.mine + length l.other

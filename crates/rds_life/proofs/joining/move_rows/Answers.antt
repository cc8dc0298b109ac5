use Rattle.std.proofs.Common.{◌++◌, length, option_to_list, sym, ◌∙◌, ap, arith}
use Rattle.std.specs.FinSet as set
use Rattle.std.specs.Vec.Iter.{into_iter_items}
use Rattle.rds_life.proofs.Moves.{ends, moves_both, moves_own, moves_rest}
use Rattle.rds_life.proofs.joining.move_rows.Goals as goal

pub returns-in-None-default : goal.returns-in-None-default
returns-in-None-default g c =
    let sl = set.contains (g.S.DotSet.contents c.args.seen.now) in
    let sr = set.contains (g.S.DotSet.contents c.args.other_seen.now) in
    let mine = into_iter_items c.moving.mine in
    let theirs = into_iter_items c.moving.theirs in
    let none = ap (λ n. option_to_list n ++ mine) c.in-None-default.is-0 ∙ c.moving.invariant.ended c.in-None-default.is-0 in
    moves_rest sl sr c.args.own.items c.args.other.now c.moving.rows.items (option_to_list c.moving.next ++ mine) c.moving.other.now theirs c.move_all.new.rows.items none c.moving.invariant.moves c.move_all.ensures

pub moving-preserved-in-Less : goal.moving-preserved-in-Less
moving-preserved-in-Less g c =
    let first = ap (λ n. option_to_list n ++ into_iter_items c.moving.mine) c.in-Some-Some.is-0 in
    let one = ap (λ n. length (option_to_list n)) c.in-Some-Some.is-0 in
    record {
      moves = moves_own first c.in-Some-Some.ensures.cases.0 c.next-next-in-Less.ensures.items c.moving.invariant.moves (sym c.cmp.ensures ∙ c.in-Less.is) c.move_unseen-in-Less.ensures.rows;
      ended = ends c.moving.mine c.next-next-in-Less.new.self c.next-next-in-Less.result c.next-next-in-Less.ensures.cases;
      room = omega (arith, one, c.moving.invariant.room, c.move_unseen-in-Less.ensures.len, c.move_unseen-in-Less.ensures.capacity, c.next-next-in-Less.ensures.len);
    }

pub moving-preserved-in-Equal : goal.moving-preserved-in-Equal
moving-preserved-in-Equal g c =
    let first = ap (λ n. option_to_list n ++ into_iter_items c.moving.mine) c.in-Some-Some.is-0 in
    let one = ap (λ n. length (option_to_list n)) c.in-Some-Some.is-0 in
    record {
      moves = moves_both first c.in-Some-Some.ensures.cases.0 c.next-next-in-Equal.ensures.items c.moving.invariant.moves (sym c.cmp.ensures ∙ c.in-Equal.is) c.move_row.ensures.rows;
      ended = ends c.moving.mine c.next-next-in-Equal.new.self c.next-next-in-Equal.result c.next-next-in-Equal.ensures.cases;
      room = omega (arith, one, c.moving.invariant.room, c.move_row.ensures.len, c.move_row.ensures.capacity, c.next-next-in-Equal.ensures.len);
    }

use Rattle.std.proofs.Common.{Some, subst, arith}
use Rattle.rds_dots.specs.declared.dot.Run.{Run}
use Rattle.rds_gaps.specs.Lookup.{IsParted}
use Rattle.rds_gaps.proofs.Tops.{most_of, top_none, top_last, top_other}
use Rattle.rds_gaps.proofs.searching.top.Goals as goal

pub returns-then-end-eq0 : goal.returns-then-end-eq0
returns-then-end-eq0 c =
    top_none c.args.runs.now c.requires c.args.replica (subst (IsParted (Some (most_of c.args.replica)) c.args.runs.now) c.if-end-eq0.true c.index_after-end.ensures.parted)

pub returns-then-run-replica : goal.returns-then-run-replica
returns-then-run-replica c =
    let none : Run = record { replica = 0; lo = 0; hi = 0 } in
    let some = c.if-end-eq0.false in
    top_last c.args.runs.now c.requires c.args.replica c.index_after-end.result (omega arith) c.index_after-end.ensures.bound c.index_after-end.ensures.parted none c.if-run-replica.true

pub returns-else-run-replica : goal.returns-else-run-replica
returns-else-run-replica c =
    let none : Run = record { replica = 0; lo = 0; hi = 0 } in
    let some = c.if-end-eq0.false in
    top_other c.args.runs.now c.requires c.args.replica c.index_after-end.result (omega arith) c.index_after-end.ensures.bound c.index_after-end.ensures.parted none c.if-run-replica.false

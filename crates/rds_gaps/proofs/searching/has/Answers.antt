use Rattle.std.proofs.Common.{ap, sym, ◌∙◌, arith}
use Rattle.rds_gaps.proofs.Members.{covers_found, covers_zero, found, found_same, found_other}
use Rattle.rds_gaps.proofs.searching.has.Goals as goal

pub returns-then-dot-eq0 : goal.returns-then-dot-eq0
returns-then-dot-eq0 c = covers_zero c.args.runs.now c.requires c.args.dot c.if-dot-eq0.true

pub returns-then-run-dot : goal.returns-then-run-dot
returns-then-run-dot c =
    let one = c.if-dot-eq0.false in
    found_same c.args.dot c.in-Some.run' c.if-run-dot.true ∙ ap (found c.args.dot) c.in-Some.ensures ∙ sym (covers_found c.args.runs.now c.requires c.args.dot (omega arith))

pub returns-else-run-dot : goal.returns-else-run-dot
returns-else-run-dot c =
    let one = c.if-dot-eq0.false in
    found_other c.args.dot c.in-Some.run' c.if-run-dot.false ∙ ap (found c.args.dot) c.in-Some.ensures ∙ sym (covers_found c.args.runs.now c.requires c.args.dot (omega arith))

pub returns-in-None : goal.returns-in-None
returns-in-None c =
    let one = c.if-dot-eq0.false in
    ap (found c.args.dot) c.in-None.ensures ∙ sym (covers_found c.args.runs.now c.requires c.args.dot (omega arith))

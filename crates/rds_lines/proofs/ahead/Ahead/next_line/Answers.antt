use Rattle.std.proofs.Common.{◌∙◌, ◌<◌, ◌++◌, [], ap, sym, subst, refl, arith, Bool, List, ℕ, length, true, Option, Some, Result, String}
use Rattle.std.specs.Global.{Global}
use Rattle.std.specs.Prelude.{IfSome}
use Rattle.rds_names.specs.declared.fault.Fault.{Fault}
use Rattle.rds_lines.specs.Lines.{until_newline}
use Rattle.rds_lines.specs.Ahead.{IsOfSomeLine, TakesLine, left_of, bytes_untaken}
use Rattle.rds_lines.proofs.Pieces.{Walks, one_line_on, rest_shorter, walks_end, walks_first, walks_kept, walks_nothing, walks_on, walks_out}
use Rattle.rds_lines.proofs.Spent.{read_more, unread}
use Rattle.rds_lines.proofs.ahead.Ahead.next_line.Goals.{then-begun, else-begun+in-Ok-1, else-begun+in-Err-1}
use Rattle.rds_lines.proofs.ahead.Ahead.next_line.Goals as goal

pub pieces-init : goal.pieces-init
pieces-init g c = record {
  walks = walks_first (bytes_untaken c.args.self.now (g.R.Read.remaining c.args.reader.now.inner)) c.new.result c.new.ensures.items;
  held = ([], refl, (c.new.ensures.items, omega arith));
  bound = unread (g.R.Read.remaining c.args.reader.now.inner) _;
  fewer = omega arith;
  steady = refl;
  within = omega arith;
  less = λ e. absurd cc;
}

pub returns-then-is_empty-clause-taken : goal.returns-then-is_empty-clause-taken
returns-then-is_empty-clause-taken g c =
    let first = bytes_untaken c.args.self.now (g.R.Read.remaining c.args.reader.now.inner) in
    let held = g.R.Read.remaining c.fill.new.reader.inner in
    let bytes = c.fill.new.self in
    let now = bytes_untaken c.fill.new.self held in
    let walked = walks_kept first _ now c.pieces.line c.pieces.begun c.pieces.invariant.walks c.in_ok-fill.ensures.kept in
    let none = c.if-is_empty.ensures in
    let nothing = c.in_ok-fill.ensures.end none in
    let given = TakesLine first now in
    elim c.if-begun.branch [
      | then-begun w ↦ subst given (sym w.result-is) (walks_end first held c.pieces.line _ bytes (subst (λ (b : Bool). Walks first now c.pieces.line b) w.if-begun.true walked) none nothing w.text_of.ensures)
      | else-begun+in-Ok-1 w ↦ subst given (sym w.result-is) (walks_nothing first held c.pieces.line bytes (subst (λ (b : Bool). Walks first now c.pieces.line b) w.if-begun.false walked) none nothing)
      | else-begun+in-Err-1 w ↦ subst given (sym w.result-is) (walks_nothing first held c.pieces.line bytes (subst (λ (b : Bool). Walks first now c.pieces.line b) w.if-begun.false walked) none nothing)
    ]

pub returns-then-ended-clause-taken : goal.returns-then-ended-clause-taken
returns-then-ended-clause-taken g c =
    let first = bytes_untaken c.args.self.now (g.R.Read.remaining c.args.reader.now.inner) in
    let held = g.R.Read.remaining c.fill.new.reader.inner in
    let now = bytes_untaken c.fill.new.self held in
    let walked = walks_kept first _ now c.pieces.line c.pieces.begun c.pieces.invariant.walks c.in_ok-fill.ensures.kept in
    let out = walks_out first held c.pieces.line c.take_piece-longer.result.0 c.text_of-then-ended.result c.pieces.begun c.fill.new.self walked c.if-is_empty.ensures (rw c.if-ended.true at c.take_piece-longer.ensures.ended) c.take_piece-longer.ensures.line c.text_of-then-ended.ensures in
    subst (λ (a : List ℕ). TakesLine first (bytes_untaken a held) (Some c.text_of-then-ended.result)) (sym c.take_piece-longer.ensures.rest) out

pub returns-then-ended-clause-line : goal.returns-then-ended-clause-line
returns-then-ended-clause-line g c =
    let held = c.pieces.invariant.held in
    (held.0 ++ until_newline c.fill.new.self, one_line_on held.0 c.fill.new.self held.1, c.text_of-then-ended.ensures (held.0 ++ until_newline c.fill.new.self) (c.take_piece-longer.ensures.line held.0 held.2))

pub returns-then-is_empty-clause-line : goal.returns-then-is_empty-clause-line
returns-then-is_empty-clause-line g c =
    elim c.if-begun.branch [
      | then-begun w ↦ subst (λ (l : Option (Result (String Global) Fault)). IfSome l IsOfSomeLine) (sym w.result-is) (c.pieces.invariant.held.0, c.pieces.invariant.held.1, w.text_of.ensures c.pieces.invariant.held.0 c.pieces.invariant.held.2)
      | else-begun+in-Ok-1 w ↦ subst (λ (l : Option (Result (String Global) Fault)). IfSome l IsOfSomeLine) (sym w.result-is) tt
      | else-begun+in-Err-1 w ↦ subst (λ (l : Option (Result (String Global) Fault)). IfSome l IsOfSomeLine) (sym w.result-is) tt
    ]

pub returns-then-ended-clause-falls : goal.returns-then-ended-clause-falls
returns-then-ended-clause-falls g c =
    omega (arith, ap length c.take_piece-longer.ensures.rest, rest_shorter c.fill.new.self c.if-is_empty.ensures, c.in_ok-fill.ensures.falls, c.pieces.invariant.within)

pub pieces-smaller : goal.pieces-smaller
pieces-smaller g c =
    omega (arith, ap length c.take_piece-longer.ensures.rest, rest_shorter c.fill.new.self c.if-is_empty.ensures, c.in_ok-fill.ensures.falls)

pub pieces-preserved : goal.pieces-preserved
pieces-preserved g c =
    let first = bytes_untaken c.args.self.now (g.R.Read.remaining c.args.reader.now.inner) in
    let held = g.R.Read.remaining c.fill.new.reader.inner in
    let now = bytes_untaken c.fill.new.self held in
    let walked = walks_kept first _ now c.pieces.line c.pieces.begun c.pieces.invariant.walks c.in_ok-fill.ensures.kept in
    let on = walks_on first held c.pieces.line c.take_piece-longer.result.0 c.pieces.begun c.fill.new.self walked c.if-is_empty.ensures (rw c.if-ended.false at c.take_piece-longer.ensures.ended) c.take_piece-longer.ensures.line in
    let less : left_of c.take_piece-longer.new.self c.fill.new.reader.left < left_of c.args.self.now c.args.reader.now.left = omega (arith, ap length c.take_piece-longer.ensures.rest, rest_shorter c.fill.new.self c.if-is_empty.ensures, c.in_ok-fill.ensures.falls, c.pieces.invariant.within) in
    record {
      walks = subst (λ (a : List ℕ). Walks first (bytes_untaken a held) c.take_piece-longer.result.0 true) (sym c.take_piece-longer.ensures.rest) on;
      held = (c.pieces.invariant.held.0 ++ until_newline c.fill.new.self, one_line_on c.pieces.invariant.held.0 c.fill.new.self c.pieces.invariant.held.1, c.take_piece-longer.ensures.line c.pieces.invariant.held.0 c.pieces.invariant.held.2);
      bound = read_more _ (g.R.Read.remaining c.pieces.reader.inner) _ _ c.pieces.reader.left _ c.pieces.invariant.bound c.fill.ensures.bound c.pieces.invariant.fewer c.fill.ensures.left;
      fewer = omega (arith, c.fill.ensures.left, c.pieces.invariant.fewer);
      steady = c.in_ok-fill.ensures.steady ∙ c.pieces.invariant.steady;
      within = omega (arith, less);
      less = λ e. less;
    }

pub returns-in_err-fill-clause-bound : goal.returns-in_err-fill-clause-bound
returns-in_err-fill-clause-bound g c =
    read_more _ (g.R.Read.remaining c.pieces.reader.inner) _ _ c.pieces.reader.left _ c.pieces.invariant.bound c.fill.ensures.bound c.pieces.invariant.fewer c.fill.ensures.left

pub returns-then-is_empty-clause-bound : goal.returns-then-is_empty-clause-bound
returns-then-is_empty-clause-bound g c =
    read_more _ (g.R.Read.remaining c.pieces.reader.inner) _ _ c.pieces.reader.left _ c.pieces.invariant.bound c.fill.ensures.bound c.pieces.invariant.fewer c.fill.ensures.left

pub returns-then-ended-clause-bound : goal.returns-then-ended-clause-bound
returns-then-ended-clause-bound g c =
    read_more _ (g.R.Read.remaining c.pieces.reader.inner) _ _ c.pieces.reader.left _ c.pieces.invariant.bound c.fill.ensures.bound c.pieces.invariant.fewer c.fill.ensures.left

use Rattle.std.proofs.Common.{◌∙◌, ◌++◌, ap, subst, arith, List, ℕ}
use Rattle.rds_lines.specs.Ahead.{IsLineHeld}
use Rattle.rds_lines.specs.Lines.{after_line, until_newline}
use Rattle.rds_lines.proofs.Pieces.{rest_stands, rest_within_slice}
use Rattle.rds_lines.proofs.ahead.Ahead.take_piece.Goals as goal

pub overflow_sub-self : goal.overflow_sub-self
overflow_sub-self c = rest_within_slice c.self.inside.chunk c.split_line.result.1.now c.self.inside.at c.self.inside.end c.self.invariant.0 (omega (arith, c.self.invariant.1, c.self.told)) c.split_line.ensures.rest

pub returns-clause-rest : goal.returns-clause-rest
returns-clause-rest c =
    let rest = rest_stands c.self.inside.chunk c.split_line.result.1.now c.self.inside.at c.self.inside.end c.self.invariant.0 (omega (arith, c.self.invariant.1, c.self.told)) c.split_line.ensures.rest in
    rest ∙ c.split_line.ensures.rest ∙ ap after_line c.self.view_is

pub returns-clause-line : goal.returns-clause-line
returns-clause-line c = λ taken held.
    let line = c.split_line.ensures.line ∙ ap until_newline c.self.view_is in
    subst (λ (l : List ℕ). IsLineHeld (taken ++ l) c.extended-longer.result) line (c.extended-longer.ensures taken held)

use Rattle.std.proofs.Common.{◌≡◌, ◌∙◌, ap, sym, subst}
use Rattle.rds_counts.specs.Counted.{Counted, number, counts_of, AreCountRows}
use Rattle.rds_counts.specs.Drawn.{greatest_rows}
use Rattle.rds_counts.proofs.DrawnLemmas.{drawn_are, drawn_number}
use Rattle.rds_counts.proofs.counts.Counts.joined.Goals as goal

pub with_rows-requires : goal.with_rows-requires
with_rows-requires c =
    let xs = c.self.inside.rows.items in
    let ys = c.other.inside.rows.items in
    let is : c.in_ok-rows.rows.items ≡ greatest_rows xs ys = cc (c.in_ok-rows.ensures.ok, c.deref.ensures.value, c.deref-2.ensures.value) in
    record { rows = subst AreCountRows (sym is) (drawn_are xs ys c.self.invariant c.other.invariant) }

pub returns-clause-ok : goal.returns-clause-ok
returns-clause-ok c = λ q.
    let xs = c.self.inside.rows.items in
    let ys = c.other.inside.rows.items in
    let is : c.in_ok-rows.rows.items ≡ greatest_rows xs ys = cc (c.in_ok-rows.ensures.ok, c.deref.ensures.value, c.deref-2.ensures.value) in
    ap (λ (m : Counted). number m q) c.with_rows.ensures.value
    ∙ ap (λ rows. number (counts_of rows) q) is
    ∙ drawn_number xs ys c.self.invariant c.other.invariant c.args.self.now c.args.other.now c.self.view_is c.other.view_is q

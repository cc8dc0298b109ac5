use Rattle.std.proofs.Common.{◌≡◌, ◌∙◌, ◌++◌, sym, ap, subst, arith, true, not, Some, List, Result, Ok, Err, OnOk}
use Rattle.std.proofs.Common.{OnErr}
use Rattle.std.specs.FinSet as set
use Rattle.std.specs.List.{list_all}
use Rattle.std.specs.declared.alloc.AllocError.{AllocError}
use Rattle.rds_dots.specs.declared.dot.Dot.{Dot}
use Rattle.rds_dots.specs.Dots.{dot_cmp, is_dot, comes_after}
use Rattle.rds_dots.specs.Ascending.{ascends}
use Rattle.rds_dots.specs.Listed.{dots_of}
use Rattle.rds_dots.proofs.Parts.{back_rises}
use Rattle.rds_dots.proofs.Inserts.{all_upto, put_rises, put_all, put_contains, insert_rises, insert_all}
use Rattle.rds_dots.proofs.Inserts.{insert_contains}
use Rattle.rds_dots.proofs.list_set.ListSetDotSet.insert_run.Goals as goal

-- what holds of both outcomes
either_way : (P : List Dot → Type 0) (r : Result (Unit {0}) AllocError) (new put old : List Dot) → OnOk r (new ≡ put) → OnErr r (new ≡ old) → P put → P old → P new
either_way P (Ok x) new put old ok err p q = subst P (sym ok) p
either_way P (Err x) new put old ok err p q = subst P (sym err) q

pub split_after-requires-2 : goal.split_after-requires-2
split_after-requires-2 c = back_rises c.split_after.result.0.now c.split_after.result.1.now (ap ascends (c.split_after.ensures.whole ∙ c.deref.ensures.value) ∙ c.args.self.now.ascending)

-- the run comes after all dots, and is put behind them
pub invariant_of-self : goal.invariant_of-self
invariant_of-self c =
    let s = c.args.self.now in
    let run = c.args.run in
    let e = c.split_after.ensures in
    let upto = all_upto _ c.split_after.result.0.now c.split_after.result.1.now s.dots.items (e.whole ∙ c.deref.ensures.value) c.if-is_empty.ensures e.upto in
    record {
      ascending = either_way (λ ds. ascends ds ≡ true) c.push_run.result _ _ _ c.push_run.ensures.ok c.push_run.ensures.err (put_rises s.dots.items run c.requires upto s.ascending) s.ascending;
      are_dots = either_way (λ ds. list_all is_dot ds ≡ true) c.push_run.result _ _ _ c.push_run.ensures.ok c.push_run.ensures.err (put_all s.dots.items run c.requires upto s.are_dots (omega arith)) s.are_dots;
    }

pub returns-then-is_empty-clause-ok : goal.returns-then-is_empty-clause-ok
returns-then-is_empty-clause-ok c = λ d.
    let s = c.args.self.now in
    let e = c.split_after.ensures in
    let upto = all_upto _ c.split_after.result.0.now c.split_after.result.1.now s.dots.items (e.whole ∙ c.deref.ensures.value) c.if-is_empty.ensures e.upto in
    ap (λ ds. set.contains (set.from_list {R = dot_cmp} ds) d) c.in_ok-push_run.ensures.ok ∙ put_contains s.dots.items c.args.run c.requires upto d

-- the run comes before the last dots, and is put between
pub invariant_of-drop : goal.invariant_of-drop
invariant_of-drop c =
    let s = c.args.self.now in
    let run = c.args.run in
    let e = c.split_after.ensures in
    let f = c.split_after-2.ensures in
    let front = c.split_after.result.0.now in
    let later = c.split_after-2.result.1.now in
    let most = ap (λ d. list_all (λ e. not (comes_after (Some d) e)) c.split_after-2.result.0.now) (sym c.last.ensures) ∙ f.upto in
    let past = ap (λ d. list_all (comes_after (Some d)) later) (sym c.last.ensures) ∙ f.later in
    let whole : front ++ c.split_after.result.1.now ≡ s.dots.items = e.whole ∙ c.deref.ensures.value in
    let items : c.extend_from_slice.new.self.items ≡ (front ++ dots_of run) ++ later = cc (c.in_ok-extend_from_slice.ensures.items, c.in_ok-push_run-2.ensures.ok, c.in_ok-dots.ensures.items) in
    record {
      ascending = ap ascends items ∙ insert_rises s.dots.items front _ _ later run c.requires whole f.whole e.upto e.later most past s.ascending;
      are_dots = ap (list_all is_dot) items ∙ insert_all s.dots.items front _ _ later run c.requires whole f.whole e.upto e.later most past s.are_dots (omega arith);
    }

pub returns-clause-ok : goal.returns-clause-ok
returns-clause-ok c = λ d.
    let s = c.args.self.now in
    let run = c.args.run in
    let e = c.split_after.ensures in
    let f = c.split_after-2.ensures in
    let front = c.split_after.result.0.now in
    let later = c.split_after-2.result.1.now in
    let most = ap (λ d. list_all (λ e. not (comes_after (Some d) e)) c.split_after-2.result.0.now) (sym c.last.ensures) ∙ f.upto in
    let past = ap (λ d. list_all (comes_after (Some d)) later) (sym c.last.ensures) ∙ f.later in
    let whole : front ++ c.split_after.result.1.now ≡ s.dots.items = e.whole ∙ c.deref.ensures.value in
    let items : c.extend_from_slice.new.self.items ≡ (front ++ dots_of run) ++ later = cc (c.in_ok-extend_from_slice.ensures.items, c.in_ok-push_run-2.ensures.ok, c.in_ok-dots.ensures.items) in
    ap (λ ds. set.contains (set.from_list {R = dot_cmp} ds) d) items ∙ insert_contains s.dots.items front _ _ later run c.requires whole f.whole e.upto e.later most past d

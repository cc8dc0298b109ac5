use Rattle.std.proofs.Common.{◌≡◌, ◌∙◌, ◌+◌, Ok, Err, ap, arith, subst}
use Rattle.rds_names.specs.declared.fault.Fault.{Fault}
use Rattle.rds_counts.specs.Counted.{number, place}
use Rattle.rds_state.specs.Chosen.{AreRaised}
use Rattle.rds_state.specs.Value.{coordinates, StateValue}
use Rattle.rds_state.proofs.RaiseLemmas.{are_raised}
use Rattle.rds_tree.proofs.EffectMade.{raise_due, raised_anew}
use Rattle.rds_tree.proofs.edit_delta.raise.Goals as goal

pub returns-in-Err-clause-due : goal.returns-in-Err-clause-due
returns-in-Err-clause-due g c =
    let old = c.args.replica.now in
    let before = c.number_of-before.result in
    let was : before ≡ number old.state.counts (place c.args.key.now old.own c.args.which) = c.number_of-before.ensures.number ∙ (λ i. number ((c.counts.ensures ∙ ap (λ (s : StateValue). s.counts) c.state.ensures.state) i) (place c.args.key.now (c.own-own.ensures.own i) c.args.which)) in
    raise_due c.empty-counts.result (place c.args.key.now c.own-own.result c.args.which) (number old.state.counts (place c.args.key.now old.own c.args.which)) c.args.by before c.in-Err.fault c.empty-counts.ensures was
    (omega (arith, c.number_of-before.ensures.within, c.if-before-by.false)) (λ f. c.in-Err.ensures.full.0 (ap (λ (x : Fault). Err x) f)) c.in-Err.ensures.faults

pub returns-clause-numbers : goal.returns-clause-numbers
returns-clause-numbers g c q =
    let old = c.args.replica.now in
    let before = c.number_of-before.result in
    let empty = c.empty-counts.result in
    let new = c.raise.new.self in
    let sum = before + c.args.by in
    let was : before ≡ number old.state.counts (place c.args.key.now old.own c.args.which) = c.number_of-before.ensures.number ∙ (λ i. number ((c.counts.ensures ∙ ap (λ (s : StateValue). s.counts) c.state.ensures.state) i) (place c.args.key.now (c.own-own.ensures.own i) c.args.which)) in
    let raised : AreRaised empty (place c.args.key.now old.own c.args.which) sum new = subst (λ own. AreRaised empty (place c.args.key.now own c.args.which) sum new) c.own-own.ensures.own
    (are_raised empty new (place c.args.key.now c.own-own.result c.args.which) sum (Ok tt) c.in_default.ensures.raised c.in_default.ensures.others) in
    ap (λ m. number m q) c.from_parts.ensures.counts
    ∙ raised_anew empty new (coordinates old.state) (place c.args.key.now old.own c.args.which) c.args.by sum c.empty-counts.ensures (ap (λ n. n + c.args.by) was) raised q

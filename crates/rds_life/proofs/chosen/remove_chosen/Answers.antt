use Rattle.std.proofs.Common.{◌≡◌, Bool, not, rules, ap, refl, length, arith}
use Rattle.std.specs.List.{filter}
use Rattle.std.proofs.lemmas.Fn.{filter_same}
use Rattle.std.proofs.lemmas.List.Filters.{length-filter_both}
use Rattle.std.proofs.lemmas.List.Sums.{length-filter}
use Rattle.rds_names.specs.declared.entry.Entry.{Entry}
use Rattle.rds_dots.specs.declared.dot.Dot.{Dot}
use Rattle.rds_life.proofs.chosen.remove_chosen.Goals as goal

pub returns-clause-kept : goal.returns-clause-kept
returns-clause-kept g c = filter_same _ _ _ (λ x b f' k. search rules) _ _ c.retain.ensures.filtered

pub returns-clause-count : goal.returns-clause-count
returns-clause-count g c =
    let rows = c.args.rows.now.items in
    let chosen : Dot × Entry → Bool = λ r. g.C.Choice.chosen c.args.choice.now r.0 r.1 in
    let kept : c.retain.new.self.items ≡ filter (λ r. not (chosen r)) rows = filter_same _ _ _ (λ x b f' k. search rules) _ _ c.retain.ensures.filtered in
    let both = length-filter_both chosen (λ r. not (chosen r)) (λ r. refl) rows in
    let count = length-filter chosen rows in
    let after = ap length kept in
    let l = c.len.ensures in
    let b = c.len-before.ensures in
    omega (arith, both, count, after, l, b)

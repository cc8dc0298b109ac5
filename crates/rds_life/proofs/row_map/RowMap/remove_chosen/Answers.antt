use Rattle.std.proofs.Common.{◌≡◌, Bool, not, rules, ◌∙◌, ap, refl, length, arith}
use Rattle.std.specs.List.{filter}
use Rattle.std.proofs.lemmas.Map.Made.{filter_same_pairs}
use Rattle.std.proofs.lemmas.List.Filters.{length-filter_both}
use Rattle.std.proofs.lemmas.List.Sums.{length-filter}
use Rattle.rds_names.specs.declared.entry.Entry.{Entry}
use Rattle.rds_dots.specs.declared.dot.Dot.{Dot}
use Rattle.rds_life.proofs.row_map.RowMap.remove_chosen.Goals as goal

pub returns-clause-kept : goal.returns-clause-kept
returns-clause-kept g c = filter_same_pairs _ (λ r. not (g.C.Choice.chosen c.args.choice.now r.0 r.1)) _ (λ k v b w f' called. search rules) _ _ c.retain.ensures.filtered ∙ ap (filter (λ r. not (g.C.Choice.chosen c.args.choice.now r.0 r.1))) c.self.view_is

pub returns-clause-count : goal.returns-clause-count
returns-clause-count g c =
    let rows = c.args.self.now in
    let chosen : Dot × Entry → Bool = λ r. g.C.Choice.chosen c.args.choice.now r.0 r.1 in
    let kept : c.retain.new.self.entries ≡ filter (λ r. not (chosen r)) rows = returns-clause-kept g c in
    let both = length-filter_both chosen (λ r. not (chosen r)) (λ r. refl) rows in
    let count = length-filter chosen rows in
    let after = ap length kept in
    let l = c.len.ensures.len in
    let b = c.len-before.ensures.len in
    let was = ap length c.self.view_is in
    omega (arith, both, count, after, l, b, was)

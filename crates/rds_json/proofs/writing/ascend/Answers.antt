use Rattle.std.proofs.Common.{◌≡◌, nat_cmp, subst, rules}
use Rattle.std.proofs.lemmas.List.Sorted.{answers_always}
use Rattle.std.specs.Cmp.Lexicographic.{slice_cmp}
use Rattle.std.specs.List.{IsAllAdjacentAnswer}
use Rattle.std.specs.Ordering.{is_lt}
use Rattle.rds_json.proofs.Ascending.{ascend_by_pairs}
use Rattle.rds_json.proofs.writing.ascend.Goals as goal

pub returns : goal.returns
returns g c = λ is.
    let pairs = c.is_sorted_by.ensures.cases (λ x y. is_lt (slice_cmp nat_cmp x.0 y.0)) (answers_always _ _ _ (λ f a r f' called. search rules)) in
    ascend_by_pairs c.args.rows.now (subst (IsAllAdjacentAnswer (λ x y b. b ≡ is_lt (slice_cmp nat_cmp x.0 y.0)) c.args.rows.now) is pairs)

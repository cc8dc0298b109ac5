use Rattle.std.proofs.Common.{◌∙◌, ◌++◌, [], ◌∷◌, ap, sym, pos, ℕ, List, append_assoc, append-nil, codes}
use Rattle.std.proofs.lemmas.Int.{to_z-of_z}
use Rattle.std.specs.Int.{w64}
use Rattle.std.specs.Int.Signed.{lt_z}
use Rattle.std.specs.Prelude.{string_bytes, unsigned_abs}
use Rattle.rds_listing.specs.Dump.{count_line}
use Rattle.rds_listing.proofs.Amounts.{above_zero, at_zero, below_zero}
use Rattle.rds_listing.proofs.dumping.push_sum.Goals as goal

pub returns-then-amount-eq0-clause-text : goal.returns-then-amount-eq0-clause-text
returns-then-amount-eq0-clause-text c =
    let same = to_z-of_z w64 c.args.sum c.ranges.sum in
    let up = count_line (codes "inc") c.args.key.now 1 ++ 10 ∷ [] in
    let down = count_line (codes "dec") c.args.key.now 1 ++ 10 ∷ [] in
    let old = string_bytes c.args.text.now in
    c.in_ok-push_count-2.ensures.text
    ∙ ap (λ (t : List ℕ). t ++ down) c.in_ok-push_count.ensures.text
    ∙ append_assoc old up down
    ∙ ap (λ (t : List ℕ). old ++ (up ++ t)) (sym (append-nil down))
    ∙ ap (λ (t : List ℕ). old ++ t) (sym (at_zero c.args.key.now c.args.sum c.unsigned_abs-amount.result (c.unsigned_abs-amount.ensures.value ∙ ap unsigned_abs same) c.if-amount-eq0.true))

pub returns-then-sum-lt0-clause-text : goal.returns-then-sum-lt0-clause-text
returns-then-sum-lt0-clause-text c =
    let same = to_z-of_z w64 c.args.sum c.ranges.sum in
    c.in_ok-push_amounts.ensures.text
    ∙ ap (λ (t : List ℕ). string_bytes c.args.text.now ++ t) (sym (below_zero c.args.key.now c.args.sum c.unsigned_abs-amount.result (c.unsigned_abs-amount.ensures.value ∙ ap unsigned_abs same)
    (sym (ap (λ z. lt_z z (pos 0)) same) ∙ c.if-sum-lt0.true)))

pub returns-clause-text : goal.returns-clause-text
returns-clause-text c =
    let same = to_z-of_z w64 c.args.sum c.ranges.sum in
    c.in_ok-push_amounts-2.ensures.text
    ∙ ap (λ (t : List ℕ). string_bytes c.args.text.now ++ t) (sym (above_zero c.args.key.now c.args.sum c.unsigned_abs-amount.result (c.unsigned_abs-amount.ensures.value ∙ ap unsigned_abs same) c.if-amount-eq0.false
    (sym (ap (λ z. lt_z z (pos 0)) same) ∙ c.if-sum-lt0.false)))

use Rattle.std.proofs.Common.{◌≡◌, ◌∙◌, sym, ap, ◌+◌, ◌-◌, ◌∷◌, length, take, rules, arith, length-drop}
use Rattle.std.proofs.lemmas.Iterator.{YieldsList-from_slice}
use Rattle.std.proofs.lemmas.Iterator.Search.{position_from_yields_List}
use Rattle.std.proofs.lemmas.Str.{IsCharBoundary-after_ascii}
use Rattle.rds_names.proofs.Cuts.{is_slash, found, cut_none, cut_some}
use Rattle.rds_names.specs.Path.{segments}
use Rattle.rds_names.proofs.path.cut_once.Goals.{After-position}
use Rattle.rds_names.proofs.path.cut_once.Goals as goal

place_is : (c : After-position) → c.position.result ≡ found c.args.text.now
place_is c = position_from_yields_List is_slash _ _ c.position.result c.position.ensures.ran (YieldsList-from_slice c.args.text.now cc) (λ x b q called. search rules)

pub returns-in_err-at : goal.returns-in_err-at
returns-in_err-at c = rw c.from_residual.ensures (cut_none c.args.text.now (sym (place_is (goal.at.returns-in_err-at c).After-position) ∙ c.in_err-at.was))

-- a character ends at '/'
pub range_from-requires : goal.range_from-requires
range_from-requires c =
    let at = cut_some c.args.text.now c.in_ok-at.at (sym (place_is (goal.at.range_from-requires c).After-position) ∙ c.in_ok-at.was) in
    (λ _. IsCharBoundary-after_ascii c.args.text.now c.in_ok-at.at c.utf8.text at.within (omega (arith, at.slash)))

pub returns : goal.returns
returns c =
    let at = cut_some c.args.text.now c.in_ok-at.at (sym (place_is (goal.at.returns c).After-position) ∙ c.in_ok-at.was) in
    let from_zero : c.in_ok-at.at - 0 ≡ c.in_ok-at.at = omega arith in
    let first : c.range.result.now ≡ take c.in_ok-at.at c.args.text.now = c.range.ensures.value ∙ ap (λ n. take n c.args.text.now) from_zero in (
      at.parts ∙ (λ i. sym first i ∷ segments (sym c.range_from.ensures.value i)),
      omega (arith, at.within, ap length c.range_from.ensures.value, length-drop (c.in_ok-at.at + 1) c.args.text.now),
    )

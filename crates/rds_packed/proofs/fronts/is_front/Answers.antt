use Rattle.std.proofs.Common.{◌≡◌, ◌∙◌, ℕ, List, eqb, drop, ap, sym}
use Rattle.rds_packed.specs.FrontTexts.{shared}
use Rattle.rds_packed.proofs.FrontLaws.{front_is}
use Rattle.rds_packed.proofs.fronts.is_front.Goals as goal

pub returns : goal.returns
returns c =
    let before = c.args.before.now in
    let own = c.args.own.now in
    let n = c.args.count in
    let back : c.split_at.result.1.now ≡ drop n before = c.split_at.ensures.back ∙ ap (λ m. drop m before) c.from.ensures in
    let is : c.shared.result ≡ shared (drop n before) own = c.shared.ensures.shared ∙ ap (λ (t : List ℕ). shared t own) back in
    sym (front_is before own n (eqb c.shared.result 0) c.requires (ap (λ m. eqb m 0) (sym is)))

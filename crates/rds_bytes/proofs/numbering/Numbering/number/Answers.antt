use Rattle.std.proofs.Common.{◌≡◌, ◌∙◌, Some, sym, ap, List, ℕ}
use Rattle.std.specs.Prelude.{slice_get}
use Rattle.rds_bytes.proofs.PlaceLaws.{at_stays, at_number}
use Rattle.rds_bytes.proofs.numbering.Numbering.number.Goals as goal

pub returns-then-has_at-clause-keys : goal.returns-then-has_at-clause-keys
returns-then-has_at-clause-keys c =
    let keys = c.args.self.now.keys.items in
    let at : slice_get keys c.args.guess ≡ Some c.args.key.now = ap (λ (ks : List (List ℕ)). slice_get ks c.args.guess) (sym c.as_slice.ensures.value) ∙ c.has_at.ensures.at c.if-has_at.true in
    at_stays keys c.args.guess c.args.key.now at

pub returns-then-has_at-clause-number : goal.returns-then-has_at-clause-number
returns-then-has_at-clause-number c =
    let keys = c.args.self.now.keys.items in
    let at : slice_get keys c.args.guess ≡ Some c.args.key.now = ap (λ (ks : List (List ℕ)). slice_get ks c.args.guess) (sym c.as_slice.ensures.value) ∙ c.has_at.ensures.at c.if-has_at.true in
    at_number c.args.self.now.places keys c.args.guess c.args.key.now c.requires at

pub returns-then-has_at-2-clause-keys : goal.returns-then-has_at-2-clause-keys
returns-then-has_at-2-clause-keys c =
    let keys = c.args.self.now.keys.items in
    let second = c.follower-second.result in
    let at : slice_get keys second ≡ Some c.args.key.now = ap (λ (ks : List (List ℕ)). slice_get ks second) (sym c.as_slice-2.ensures.value) ∙ c.has_at-2.ensures.at c.if-has_at-2.true in
    at_stays keys second c.args.key.now at

pub returns-then-has_at-2-clause-number : goal.returns-then-has_at-2-clause-number
returns-then-has_at-2-clause-number c =
    let keys = c.args.self.now.keys.items in
    let second = c.follower-second.result in
    let at : slice_get keys second ≡ Some c.args.key.now = ap (λ (ks : List (List ℕ)). slice_get ks second) (sym c.as_slice-2.ensures.value) ∙ c.has_at-2.ensures.at c.if-has_at-2.true in
    at_number c.args.self.now.places keys second c.args.key.now c.requires at

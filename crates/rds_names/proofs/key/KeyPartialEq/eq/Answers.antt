use Rattle.std.proofs.Common.{◌≡◌, ◌∙◌, sym, ap, Bool}
use Rattle.std.proofs.lemmas.Bool.Decides.{same_from_decides, Decides-eqb, Decides-at}
use Rattle.std.proofs.lemmas.Slice.Eq.{bytes_eq-Decides}
use Rattle.std.specs.Prelude.{◌&&◌}
use Rattle.std.specs.Str.{bytes_eq}
use Rattle.rds_names.specs.Conditions.{and_left}
use Rattle.rds_names.proofs.Room.{same_keys}
use Rattle.rds_names.proofs.key.KeyPartialEq.eq.Goals as goal

pub returns-then-len-other_len-clause-same : goal.returns-then-len-other_len-clause-same
returns-then-len-other_len-clause-same c =
    let own = c.in-Inline-Inline.own in
    let others = c.in-Inline-Inline.others in
    let is : c.have_same_bytes.result ≡ bytes_eq own others = same_from_decides _ _ c.have_same_bytes.ensures (bytes_eq-Decides own others) in
    let long = (Decides-eqb c.in-Inline-Inline.len c.in-Inline-Inline.other_len).1 c.if-len-other_len.true in
    Decides-at _ _ (is ∙ ap (λ (t : Bool). t && bytes_eq own others) (sym long)) (same_keys c.self.inside.form c.other.inside.form own others _ _ _ _ c.in-Inline-Inline.is-0 c.in-Inline-Inline.is-1 c.self.view_is c.other.view_is c.self.invariant.1 c.other.invariant.1)

pub returns-then-len-other_len-clause-value : goal.returns-then-len-other_len-clause-value
returns-then-len-other_len-clause-value c = same_from_decides _ _ (returns-then-len-other_len-clause-same c) (bytes_eq-Decides _ _)

pub returns-else-len-other_len-clause-same : goal.returns-else-len-other_len-clause-same
returns-else-len-other_len-clause-same c =
    let told = same_keys c.self.inside.form c.other.inside.form _ _ _ _ _ _ c.in-Inline-Inline.is-0 c.in-Inline-Inline.is-1 c.self.view_is c.other.view_is c.self.invariant.1 c.other.invariant.1 in (
      (λ long. absurd (c.if-len-other_len.false ((Decides-eqb _ _).0 long))),
      (λ same. and_left _ (bytes_eq c.in-Inline-Inline.own c.in-Inline-Inline.others) (told.1 same)),
    )

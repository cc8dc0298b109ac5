use Rattle.std.proofs.Common.{◌≡◌, ◌∷◌, [], subst, sym, ◌∙◌, refl}
use Rattle.std.proofs.lemmas.List.{nil_from_length}
use Rattle.rds_journal.specs.Records.{HasNoRecord, IsBegun}
use Rattle.rds_journal.proofs.Places.{none_in_nothing, none_before, none_behind, begun_of}
use Rattle.rds_journal.proofs.torn.has_no_record.Goals as goal

pub returns-then-is_some : goal.returns-then-is_some
returns-then-is_some c =
    let begun = begun_of (λ x. x.0.now) (λ x. x.1.now) c.seeking.rest.now c.first_record.result c.first_record.ensures.first (sym c.is_some.ensures ∙ c.if-is_some.true) in
    (λ yes. absurd (cc), λ none. absurd (c.seeking.invariant.1 none 0 begun))

pub seeking-preserved : goal.seeking-preserved
seeking-preserved c =
    let b = c.in-Some.field-0-0.now in
    let later = c.in-Some.later.now in
    let is : c.seeking.rest.now ≡ b ∷ later = c.in-Some.ensures.cases.0 in
    let here : IsBegun (b ∷ later) → ⊥ = subst (λ l. IsBegun l → ⊥) is (c.first_record.ensures.none (sym c.is_some.ensures ∙ c.if-is_some.false)) in (
      λ none. c.seeking.invariant.0 (subst HasNoRecord (sym is) (none_before b later here none)),
      λ none. none_behind b later (subst HasNoRecord is (c.seeking.invariant.1 none)),
    )

pub returns : goal.returns
returns c =
    let is : c.seeking.rest.now ≡ [] = nil_from_length c.seeking.rest.now c.in_default.ensures.cases in
    (λ yes. c.seeking.invariant.0 (subst HasNoRecord (sym is) none_in_nothing), λ none. refl)

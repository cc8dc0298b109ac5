use Rattle.std.proofs.Common.{inl, inr, sym, ◌∙◌}
use Rattle.std.proofs.lemmas.List.{append_cancel_left}
use Rattle.rds_session.specs.Session.{course}
use Rattle.rds_session.specs.OneResult.{HasOneResult}
use Rattle.rds_session.proofs.laws.a_step_of_a_session_has_one_result.Goals as goal

one_result : HasOneResult
one_result side kept heard input new other sent said first second lasts stays = elim first [
  | inl a ↦ elim second [
    | inl b ↦ (a.standing ∙ sym b.standing, append_cancel_left (course side kept heard).1 sent said (sym a.beyond ∙ b.beyond))
    | inr b ↦ absurd (stays b.ended)
  ]
  | inr a ↦ absurd (lasts a.ended)
]

pub returns : goal.returns
returns c = one_result

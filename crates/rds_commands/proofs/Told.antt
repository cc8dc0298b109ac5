-- What is reported of an answer that is there.
use Rattle.std.proofs.Common.{◌≡◌, ◌⊎◌, Ok, Err, inl, inr}
use Rattle.rds_words.proofs.OneMeaning.{ok_isnt_err}

-- it isn't Memory, so it is what was asked for
pub not_refused : {X E : Type 0} {P : Type 0} (x : X) (e : E) → (Ok x ≡ Err e) ⊎ P → P
not_refused x e h = elim h [ inl refused ↦ absurd (ok_isnt_err x e refused) | inr is ↦ is ]

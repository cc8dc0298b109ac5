use Rattle.std.proofs.Common.{◌≡◌, ◌∙◌, ap, subst, ℕ, false, true, Vec}
use Rattle.std.specs.Global.{Global}
use Rattle.std.specs.Str.{IsUtf8}
use Rattle.std.proofs.lemmas.Str.{IsUtf8-string_bytes}
use Rattle.rds_lines.specs.Ahead.{IsLineHeld}
use Rattle.rds_lines.proofs.Pieces.{text_is_line, other_is_none}
use Rattle.rds_lines.proofs.ahead.text_of.Goals as goal

pub returns-in-Ok : goal.returns-in-Ok
returns-in-Ok c = λ taken held.
    let given = subst (IsLineHeld taken) c.in_ok-line.was held in
    let bytes = ap (λ (v : Vec ℕ Global). v.items) c.in-Ok.ensures.ok in
    (text_is_line taken c.in_ok-line.field-0.items given (subst IsUtf8 bytes (IsUtf8-string_bytes c.in-Ok.text)), bytes ∙ given.0)

pub returns : goal.returns
returns c = λ taken held.
    let given = subst (IsLineHeld taken) c.in_ok-line.was held in
    other_is_none taken c.in_ok-line.field-0.items given (λ utf8. let bad : false ≡ true = c.in-Err.ensures.succeeds utf8 in cc)

use Rattle.std.proofs.Common.{◌≡◌, ◌∙◌, ◌&&◌, ap, sym}
use Rattle.std.specs.List.{starts_with, slice_get}
use Rattle.std.specs.Option.{option_copied}
use Rattle.std.specs.Prelude.{Some}
use Rattle.std.specs.Str.{bytes_eq}
use Rattle.rds_tree.proofs.UnderKey.{under_key, under_none}
use Rattle.rds_tree.proofs.one_key.is_under.Goals as goal

pub returns-then-eq : goal.returns-then-eq
returns-then-eq c =
    let above = c.args.above.now in
    let path = c.args.path.now in
    let key = c.args.key.now in
    let there : slice_get path c.len.result ≡ Some c.in-Some.next.now = sym c.key.ensures ∙ ap option_copied c.in-Some.is in
    c.begins_with.ensures.value ∙ ap (λ b. b && starts_with bytes_eq path above) (sym c.if-eq.true ∙ c.eq.ensures.value)
    ∙ sym (under_key above path key c.in-Some.next.now (ap (slice_get path) (sym c.len.ensures.keys) ∙ there))

pub returns-else-eq : goal.returns-else-eq
returns-else-eq c =
    let above = c.args.above.now in
    let path = c.args.path.now in
    let key = c.args.key.now in
    let there : slice_get path c.len.result ≡ Some c.in-Some.next.now = sym c.key.ensures ∙ ap option_copied c.in-Some.is in
    c.if-eq.false ∙ ap (λ b. b && starts_with bytes_eq path above) (sym c.if-eq.false ∙ c.eq.ensures.value)
    ∙ sym (under_key above path key c.in-Some.next.now (ap (slice_get path) (sym c.len.ensures.keys) ∙ there))

pub returns-in-None : goal.returns-in-None
returns-in-None c = sym (under_none c.args.above.now c.args.path.now c.args.key.now (ap (slice_get c.args.path.now) (sym c.len.ensures.keys) ∙ (sym c.key.ensures ∙ ap option_copied c.in-None.is)))

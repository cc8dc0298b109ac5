use Rattle.std.proofs.Common.{◌∙◌, sym, ap}
use Rattle.std.specs.Ordering.{nat_cmp, ordering_then}
use Rattle.rds_names.proofs.WordOrder.{key_order, then_decided}
use Rattle.rds_names.proofs.key.KeyOrd.cmp.Goals as goal

pub returns-in-Equal : goal.returns-in-Equal
returns-in-Equal c =
    let lengths = nat_cmp c.in-Inline-Inline.len c.in-Inline-Inline.that_len in
    c.cmp.ensures
    ∙ ap (λ o. ordering_then o lengths) (sym c.in-Equal.is ∙ c.room_order.ensures)
    ∙ sym (key_order c.self.inside.form c.other.inside.form _ _ _ _ _ _ c.in-Inline-Inline.is-0 c.in-Inline-Inline.is-1 c.self.view_is c.other.view_is c.self.invariant.1 c.other.invariant.1)

pub returns-in_default-room_order : goal.returns-in_default-room_order
returns-in_default-room_order c =
    let lengths = nat_cmp c.in-Inline-Inline.len c.in-Inline-Inline.that_len in
    then_decided c.room_order.result lengths c.in_default-room_order.not-Equal
    ∙ ap (λ o. ordering_then o lengths) c.room_order.ensures
    ∙ sym (key_order c.self.inside.form c.other.inside.form _ _ _ _ _ _ c.in-Inline-Inline.is-0 c.in-Inline-Inline.is-1 c.self.view_is c.other.view_is c.self.invariant.1 c.other.invariant.1)

use Rattle.std.proofs.Common.{◌<◌, ◌&&◌, ◌∙◌, add-one, ap, arith, length, nat_eq, slice_index, sym}
use Rattle.rds_fields.proofs.Texts.{bytes_eq-more}
use Rattle.rds_fields.proofs.token.are_same.Goals as goal

pub loop-i-preserved : goal.loop-i-preserved
loop-i-preserved c =
    let i = c.loop-i.i in
    let shown = c.args.shown.now in
    let due = c.args.due.now in
    let in_shown : i < length shown = omega arith in
    let in_due : i < length due = omega arith in
    rw add-one (ap (λ s. s && nat_eq (slice_index shown i) (slice_index due i)) c.loop-i.invariant ∙ sym (bytes_eq-more i shown due in_shown in_due))

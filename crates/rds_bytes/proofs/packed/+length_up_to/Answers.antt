use Rattle.std.proofs.Common.{◌≡◌, ◌-◌, ◌/◌, suc, length, refl, ap, List, ℕ, arith}
use Rattle.rds_bytes.specs.Packed.{packed_text_up_to}
use Rattle.rds_bytes.proofs.WrittenPacked.{text_alone, text_goes_on}
use Rattle.rds_bytes.proofs.packed.+length_up_to.Goals as goal

pub returns-then-number-lt128-clause-length : goal.returns-then-number-lt128-clause-length
returns-then-number-lt128-clause-length t c =
    let text = text_alone c.args.more c.args.number c.if-number-lt128.true in
    rw text refl

pub returns-clause-length : goal.returns-clause-length
returns-clause-length t c =
    let text : length (packed_text_up_to c.args.more c.args.number) ≡ suc (length (packed_text_up_to (c.args.more - 1) (c.args.number / 128))) =
    ap (λ (bytes : List ℕ). length bytes) (text_goes_on c.args.more c.args.number c.requires (omega (arith, c.if-number-lt128.false))) in
    let rest = c.length_up_to.ensures.length in
    omega (arith, text, rest)

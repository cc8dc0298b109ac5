use Rattle.std.proofs.Common.{rules, ◌≤◌, ◌<◌, ◌^◌, zero, suc, ◌≡◌, ◌≢◌, ℕ, ◌+◌, ◌-◌, ◌*◌, Bool, true, false, cond, ltb, List, [], ◌∷◌, Result, Ok, Err, refl, sym, ap, ◌∙◌, arith}
use Rattle.rds_bytes.specs.Packed.{packed_up_to}
use Rattle.rds_bytes.specs.Reading.{ReadsExactly}
use Rattle.rds_bytes.proofs.packed.+read_up_to.Goals as goal
use Rattle.rds_bytes.proofs.ReadPacked.{first_fails, first_alone, first_only, rest_fails, rest_zero, rest_joins, small_below, high_below, byte_below}

pub returns-in_err-byte-clause-read : goal.returns-in_err-byte-clause-read
returns-in_err-byte-clause-read t c =
    let failed = first_fails c.args.more c.args.bytes.now c.in_err-byte.field-0.0 c.in_err-byte.ensures in
    search rules

pub returns-then-byte-lt128-clause-limit : goal.returns-then-byte-lt128-clause-limit
returns-then-byte-lt128-clause-limit t c =
    let below = small_below c.args.more c.in_ok-byte.byte c.if-byte-lt128.true in
    let is = c.from.ensures in
    rw is below

pub returns-then-byte-lt128-clause-read : goal.returns-then-byte-lt128-clause-read
returns-then-byte-lt128-clause-read t c =
    let read = first_alone c.args.more c.args.bytes.now c.in_ok-byte.byte c.in_ok-byte.rest.now c.in_ok-byte.ensures c.if-byte-lt128.true in
    let is = c.from.ensures in
    rw is read

pub returns-then-more-eq0-clause-read : goal.returns-then-more-eq0-clause-read
returns-then-more-eq0-clause-read t c =
    first_only c.args.more c.args.bytes.now c.in_ok-byte.byte c.in_ok-byte.rest.now c.in_ok-byte.ensures (omega (arith, c.if-byte-lt128.false)) c.if-more-eq0.true

pub returns-in_err-high-clause-read : goal.returns-in_err-high-clause-read
returns-in_err-high-clause-read t c =
    let failed = rest_fails c.args.more (c.args.more - 1) c.args.bytes.now c.in_ok-byte.byte c.in_ok-byte.rest.now c.in_err-high.field-0.0 (omega (arith, c.if-more-eq0.false)) c.in_ok-byte.ensures (omega (arith, c.if-byte-lt128.false)) c.in_err-high.ensures.read in
    search rules

pub returns-then-high-eq0-clause-read : goal.returns-then-high-eq0-clause-read
returns-then-high-eq0-clause-read t c =
    rest_zero c.args.more (c.args.more - 1) c.args.bytes.now c.in_ok-byte.byte c.in_ok-byte.rest.now c.in_ok-high.high c.in_ok-high.rest.now (omega (arith, c.if-more-eq0.false)) c.in_ok-byte.ensures (omega (arith, c.if-byte-lt128.false)) c.in_ok-high.ensures.read c.if-high-eq0.true

pub overflow_mul-result : goal.overflow_mul-result
overflow_mul-result t c =
    let below = high_below c.args.more c.in_ok-high.high c.requires (omega (arith, c.if-more-eq0.false)) c.in_ok-high.ensures.limit in
    omega (arith, below)

pub overflow_add-result : goal.overflow_add-result
overflow_add-result t c =
    let below = high_below c.args.more c.in_ok-high.high c.requires (omega (arith, c.if-more-eq0.false)) c.in_ok-high.ensures.limit in
    let small = byte_below c.args.bytes.now c.in_ok-byte.byte c.in_ok-byte.rest.now (λ i. omega (arith, c.type_inv.bytes i)) c.in_ok-byte.ensures in
    let is = c.from-2.ensures in
    omega (arith, below, small, is)

pub returns-clause-read : goal.returns-clause-read
returns-clause-read t c =
    let read = rest_joins c.args.more (c.args.more - 1) c.args.bytes.now c.in_ok-byte.byte c.in_ok-byte.rest.now c.in_ok-high.high c.in_ok-high.rest.now (omega (arith, c.if-more-eq0.false)) c.in_ok-byte.ensures (omega (arith, c.if-byte-lt128.false)) c.in_ok-high.ensures.read (omega (arith, c.if-high-eq0.false)) in
    let is = c.from-2.ensures in
    rw is read

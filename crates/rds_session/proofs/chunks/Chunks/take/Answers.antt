use Rattle.std.proofs.Common.{◌≡◌, ◌++◌, arith, length-append, sym, ap, ◌∙◌}
use Rattle.std.proofs.lemmas.List.{take-append-drop}
use Rattle.rds_session.specs.Begun.{MessageValue}
use Rattle.rds_session.specs.Chunks.{scan}
use Rattle.rds_session.proofs.Scans.{run_taken, run_too_long}
use Rattle.rds_session.proofs.chunks.Chunks.take.Goals as goal

pub returns-then-count-length-clause-ok : goal.returns-then-count-length-clause-ok
returns-then-count-length-clause-ok g c =
    run_too_long (scan c.args.piece.now c.args.self.under) c.bytes.rest.now c.bytes.message.came c.bytes.place c.in-Within.left c.min-length.result c.bytes.count
    c.bytes.invariant.0 c.in-Within.is (omega arith) (omega arith) c.bytes.invariant.1 c.if-count-length.true

pub bytes-preserved : goal.bytes-preserved
bytes-preserved g c =
    let front = c.split_at.result.0.now in
    let new = c.in_ok-message-in-Within.message in
    let came : new.came ≡ c.bytes.message.came ++ front = ap (λ (m : MessageValue). m.came) c.in_ok-message-in-Within.ensures.ok in (
      run_taken (scan c.args.piece.now c.args.self.under) c.bytes.rest.now front c.split_at.result.1.now c.bytes.message.came new.came c.bytes.place c.place_of-place.result c.in-Within.left c.min-length.result c.bytes.count
          c.bytes.invariant.0 c.in-Within.is (rw (c.split_at.ensures.front, c.split_at.ensures.back) (sym (take-append-drop c.min-length.result c.bytes.rest.now))) c.split_at.ensures.front_len (omega arith) c.bytes.invariant.1 c.if-count-length.false came c.place_of-place.ensures,
      rw came (omega (arith, length-append c.bytes.message.came front, c.split_at.ensures.front_len, c.bytes.invariant.1)),
      ap (λ (m : MessageValue). m.expected) c.in_ok-message-in-Within.ensures.ok ∙ c.bytes.invariant.2,
    )

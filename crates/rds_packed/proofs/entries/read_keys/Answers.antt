use Rattle.std.proofs.Common.{◌≡◌, [], ◌∙◌, ap, subst, ℕ, List, Ok}
use Rattle.std.proofs.lemmas.Result.{err_from_is_err_and}
use Rattle.rds_bytes.specs.Reading.{Reader, Fails, rows_after}
use Rattle.rds_packed.proofs.Loops.{goes_on, ends, is_done}
use Rattle.rds_bytes.proofs.KeyLoops.{noted}
use Rattle.rds_packed.proofs.entries.read_keys.Goals as goal

pub returns-in_err-key-clause-read : goal.returns-in_err-key-clause-read
returns-in_err-key-clause-read g c =
    let f : List (List ℕ) → Reader (List ℕ) = λ _. g.K.KeySource.reader c.args.keys.now in
    let p = err_from_is_err_and c.from_residual.result c.from_residual.ensures.1 in
    let fails = subst (λ (r : Reader (List ℕ)). Fails c.in_err-key.field-0.0 (r c.loop.rest.now)) c.loop.invariant.1.1 c.in_err-key.ensures.read in
    rw (p.1, p.2) (ends f c.loop.found.items c.args.count c.loop.counter c.loop.rest.now (rows_after f [] c.args.count c.args.bytes.now) c.in_err-key.field-0.0 c.loop-test.true fails c.loop.invariant.0)

pub loop-preserved : goal.loop-preserved
loop-preserved g c =
    let f : List (List ℕ) → Reader (List ℕ) = λ _. g.K.KeySource.reader c.args.keys.now in
    let key = c.in_ok-key.key in
    let read = subst (λ (r : Reader (List ℕ)). r c.loop.rest.now ≡ Ok (key, c.in_ok-key.after.now)) c.loop.invariant.1.1 c.in_ok-key.ensures.read in
    rw c.in_ok-push.ensures.items (
      goes_on f c.loop.found.items c.args.count c.loop.counter c.loop.rest.now (rows_after f [] c.args.count c.args.bytes.now) key c.in_ok-key.after.now c.loop-test.true read c.loop.invariant.0,
      (
        noted g.K.KeySource.after c.args.keys.now c.loop.keys c.read.new.self c.loop.found.items key c.loop.invariant.1.0 c.in_ok-key.ensures.after,
        ap g.K.KeySource.reader c.in_ok-key.ensures.after ∙ g.met.K.KeySource.steady c.loop.keys key ∙ c.loop.invariant.1.1,
      ),
    )

pub returns-clause-read : goal.returns-clause-read
returns-clause-read g c =
    let f : List (List ℕ) → Reader (List ℕ) = λ _. g.K.KeySource.reader c.args.keys.now in
    is_done f c.loop.found.items c.args.count c.loop.counter c.loop.rest.now (rows_after f [] c.args.count c.args.bytes.now) c.loop-test.false c.loop.invariant.0

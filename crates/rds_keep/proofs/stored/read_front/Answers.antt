use Rattle.std.proofs.Common.{◌++◌, length}
use Rattle.std.proofs.lemmas.Result.{err_from_is_err_and}
use Rattle.rds_keep.specs.Kept.{RefusesBytes}
use Rattle.rds_keep.specs.Stored.{first_and}
use Rattle.rds_keep.proofs.FirstParts.{known_end, lost_first}
use Rattle.rds_keep.proofs.stored.read_front.Goals as goal

pub returns-in_err-front-clause-refused : goal.returns-in_err-front-clause-refused
returns-in_err-front-clause-refused g c =
    let p = err_from_is_err_and c.from_residual-in_err-front.result c.from_residual-in_err-front.ensures.1 in
    let first = c.in_ok-first.first in
    let behind = c.in_ok-first.behind.items in
    let e = c.in_err-front.field-0.0 in
    let why = rw c.deref.ensures.value at c.in_err-front.ensures.refused in
    rw (p.1, p.2) (lost_first (λ input. RefusesBytes input e) (g.R.Read.remaining c.args.reader.now.inner) (g.R.Read.remaining c.read_first.new.reader.inner) first.format first.replica behind c.in_ok-first.ensures.loses
    (known_end {P = λ input. RefusesBytes (first_and first.format first.replica (behind ++ input)) e} (g.R.Read.remaining c.read_first.new.reader.inner) (length behind) c.in_ok-first.ensures.end (λ input at_end. why input at_end)))

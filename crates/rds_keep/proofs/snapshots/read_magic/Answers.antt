use Rattle.std.proofs.Common.{inl, inr, arith}
use Rattle.std.proofs.lemmas.Result.{err_from_is_err_and}
use Rattle.rds_keep.proofs.Fronts.{is_magic, magic_is_four, refused_by, is_foreign, is_short}
use Rattle.rds_keep.proofs.snapshots.read_magic.Goals as goal

-- ---- the front is of no format

pub returns-in_err-_format-clause-bad : goal.returns-in_err-_format-clause-bad
returns-in_err-_format-clause-bad g c =
    let p = err_from_is_err_and c.from_residual-in_err-_format.result c.from_residual-in_err-_format.ensures.1 in
    let read = rw c.as_slice.ensures.value at c.in_err-_format.ensures in
    rw (p.1, p.2) (is_foreign (g.R.Read.remaining c.args.reader.now.inner) c.in_ok-front.front.items _ c.in_ok-front.ensures.front read)

pub returns-in_err-_format-clause-cut : goal.returns-in_err-_format-clause-cut
returns-in_err-_format-clause-cut g c =
    let p = err_from_is_err_and c.from_residual-in_err-_format.result c.from_residual-in_err-_format.ensures.1 in
    let read = rw c.as_slice.ensures.value at c.in_err-_format.ensures in
    rw (p.1, p.2) (is_short (g.R.Read.remaining c.args.reader.now.inner) c.in_ok-front.front.items _ c.args.reader.now.budget c.read_front.new.self.left c.in_ok-front.ensures.front c.in_ok-front.ensures.bound read)

pub returns-in_err-_format-clause-fault : goal.returns-in_err-_format-clause-fault
returns-in_err-_format-clause-fault g c =
    let p = err_from_is_err_and c.from_residual-in_err-_format.result c.from_residual-in_err-_format.ensures.1 in
    let read = rw c.as_slice.ensures.value at c.in_err-_format.ensures in
    rw (p.1, p.2) (elim (refused_by c.in_ok-front.front.items _ read) [ inl bad ↦ inl bad | inr cut ↦ inr (inl cut) ])

pub returns-in_err-_format-clause-counted : goal.returns-in_err-_format-clause-counted
returns-in_err-_format-clause-counted g c =
    let p = err_from_is_err_and c.from_residual-in_err-_format.result c.from_residual-in_err-_format.ensures.1 in
    let read = rw c.as_slice.ensures.value at c.in_err-_format.ensures in
    rw (p.1, p.2) (λ is. absurd (elim (refused_by c.in_ok-front.front.items _ read) [ inl bad ↦ cc | inr cut ↦ cc ]))

-- ---- it is a format's

pub returns-clause-magic : goal.returns-clause-magic
returns-clause-magic g c =
    let read = rw c.as_slice.ensures.value at c.in_ok-_format.ensures in
    is_magic c.in_ok-front.front.items c.in_ok-_format._rest.now c.in_ok-_format._format c.in_ok-front.ensures.within read

pub returns-clause-bound : goal.returns-clause-bound
returns-clause-bound g c =
    let read = rw c.as_slice.ensures.value at c.in_ok-_format.ensures in
    let own = is_magic c.in_ok-front.front.items c.in_ok-_format._rest.now c.in_ok-_format._format c.in_ok-front.ensures.within read in
    omega (arith, magic_is_four c.in_ok-front.front.items own, c.in_ok-front.ensures.bound)

use Rattle.std.proofs.Common.{refl}
use Rattle.std.proofs.lemmas.Result.{err_from_is_err_and}
use Rattle.rds_lines.proofs.Running.{refused_line, joined_line}
use Rattle.rds_lines.proofs.run.join_line.Goals as goal

pub returns-in_err-text-clause-line : goal.returns-in_err-text-clause-line
returns-in_err-text-clause-line g c =
    let p = err_from_is_err_and c.from_residual-in_err-text.result c.from_residual-in_err-text.ensures.1 in
    refused_line (g.R.Read.remaining c.args.reader.now.inner) c.in_ok-input.input.items c.deref.result.now _ c.from_residual-in_err-text.result c.in_err-text.field-0.0
    c.in_ok-input.ensures.front c.deref.ensures.value c.in_err-text.ensures (rw (p.1, p.2) refl)

pub returns-clause-line : goal.returns-clause-line
returns-clause-line g c =
    joined_line (g.R.Read.remaining c.args.reader.now.inner) c.in_ok-input.input.items c.deref.result.now c.in_ok-text.text.items c.as_slice.result.now _ c.in_ok-encode.field-0
    c.in_ok-input.ensures.front c.deref.ensures.value c.in_ok-text.ensures c.as_slice.ensures.value c.in_ok-encode.ensures

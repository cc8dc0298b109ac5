use Rattle.std.proofs.Common.{◌∙◌, ap}
use Rattle.std.specs.Global.{Global}
use Rattle.std.specs.Prelude.{String, string_bytes}
use Rattle.rds_listing.specs.Conflicts.{conflicts_text}
use Rattle.rds_commands.proofs.Values.{lines_written}
use Rattle.rds_commands.proofs.listing.run_conflicts.Goals as goal

pub returns-in-Ok-clause-written : goal.returns-in-Ok-clause-written
returns-in-Ok-clause-written g c = λ wrote.
    lines_written conflicts_text 3 c.args.path.now c.args.text.now c.in-Ok.done.file (string_bytes c.in-Ok.done.told) c.deref.result.now (g.W.Write.contents c.args.writer.now.inner) (g.W.Write.contents c.write_lines.new.writer.inner) c.write_lines.result
    c.in-Ok.ensures.told (c.deref.ensures ∙ ap (λ (s : String Global). string_bytes s) c.into_told.ensures) (c.write_lines.ensures.written wrote)

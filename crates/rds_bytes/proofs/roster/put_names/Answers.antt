use Rattle.std.proofs.Common.{sym, ap, ◌∙◌, ◌++◌, List, ℕ}
use Rattle.rds_bytes.specs.Spelling.{short_text}
use Rattle.rds_bytes.proofs.Adding.{added-more}
use Rattle.rds_bytes.proofs.roster.put_names.Goals as goal

pub loop-number-preserved : goal.loop-number-preserved
loop-number-preserved c =
    added-more short_text c.args.roster.now.names c.loop-number.number c.in-Some.name c.put_u16.new.out.items c.loop-number.out.items c.put_short.new.out.items
    (sym c.in-Some.ensures) c.loop-number.invariant (c.in_ok-put_short-in-Some.ensures ∙ ap (λ (t : List ℕ). c.loop-number.out.items ++ short_text t) c.as_str.ensures.text)

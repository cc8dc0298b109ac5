use Rattle.std.proofs.Common.{sym, ap, ◌∙◌}
use Rattle.rds_codec.specs.FormatTexts.{state_at_in}
use Rattle.rds_codec.specs.declared.formats.Format.{Format}
use Rattle.rds_codec.proofs.states.unfinished_state.Goals as goal

pub returns-in-One : goal.returns-in-One
returns-in-One g c = λ bytes. c.unfinished_one.ensures bytes ∙ ap (λ (f : Format). state_at_in f c.args.replicas bytes) (sym c.in-One.is)

pub returns-in-Two : goal.returns-in-Two
returns-in-Two g c = λ bytes. c.unfinished_two.ensures bytes ∙ ap (λ (f : Format). state_at_in f c.args.replicas bytes) (sym c.in-Two.is)

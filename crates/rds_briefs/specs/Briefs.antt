-- Briefs as a kind of texts.
use Rattle.std.specs.Prelude.{◌≡◌, ◌⊎◌, ℕ, List, ◌++◌}
use Rattle.rds_names.specs.declared.fault.Fault.{Fault}
use Rattle.rds_names.specs.declared.fault.Fault.TheVariants.{Memory, Cut, Bad}
use Rattle.rds_dots.specs.Runs.{runs_of}
use Rattle.rds_delta.specs.Digested.{DigestValue}
use Rattle.rds_bytes.specs.Spelling.{counters_text}
use Rattle.rds_codec.specs.DigestTexts.{IsDigestOf}
use Rattle.rds_codec.specs.Kinds.{Kind}
use Rattle.rds_briefs.specs.BriefTexts.{runs_text}

-- the runs of the seen dots, each with its live ones, and the counters
unfoldable pub brief_text : DigestValue → List ℕ
brief_text g = runs_text g.live (runs_of g.seen) ++ counters_text g.counts

-- the briefs of digests of so many replicas
abbrev pub brief_kind : ℕ → Kind DigestValue
brief_kind replicas = record { is_value = IsDigestOf replicas; text = brief_text }

-- why bytes have no brief in front: memory ran out, or they end inside a part, or a part that is there is none
abbrev pub RefusesBrief : Fault → Type 0
RefusesBrief e = (e ≡ Memory) ⊎ ((e ≡ Cut) ⊎ (e ≡ Bad))

-- What the bodies of messages are read as.
use Rattle.std.specs.Prelude.{ℕ, List, Result, if◌then◌else◌}
use Rattle.rds_names.specs.declared.fault.Fault.{Fault}
use Rattle.rds_delta.specs.Digested.{DigestValue}
use Rattle.rds_briefs.specs.ReadBriefs.{brief_at}
use Rattle.rds_codec.specs.AnswerValues.{AnswerValue}
use Rattle.rds_codec.specs.DigestTexts.{digest_at}
use Rattle.rds_codec.specs.FormatTexts.{answer_at_in}
use Rattle.rds_codec.specs.HelloTexts.{hello_at}
use Rattle.rds_codec.specs.Decoding.{all_of}
use Rattle.rds_codec.specs.declared.formats.Format.{Format}
use Rattle.rds_codec.specs.declared.hellos.Hello.{Hello}
use Rattle.rds_session.specs.Versions.{says_briefs}
use Rattle.rds_session.specs.declared.version.Version.{Version}

unfoldable pub hello_in : List ℕ → Result Hello Fault
hello_in body = all_of hello_at body

-- by its brief or its text, as the version says it, of a roster of so many replicas
unfoldable pub digest_in : Version → ℕ → List ℕ → Result DigestValue Fault
digest_in version replicas body = if says_briefs version then all_of (brief_at replicas) body else all_of (digest_at replicas) body

-- in a format, of as many
unfoldable pub answer_in : Format → ℕ → List ℕ → Result AnswerValue Fault
answer_in format replicas body = all_of (answer_at_in format replicas) body

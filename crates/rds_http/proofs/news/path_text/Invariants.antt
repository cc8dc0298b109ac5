use Rattle.std.proofs.Common.{◌≡◌, ◌++◌, drop}
use Rattle.std.specs.List.{join_with_byte}
use Rattle.std.specs.Prelude.{string_bytes}
use Rattle.rds_http.proofs.NewsTexts.{slashed}
use Rattle.rds_http.proofs.news.path_text.Given as goal

abbrev pub invariant-loop-key : goal.invariant-loop-key
invariant-loop-key l = string_bytes l.text ++ slashed (drop l.key-index l.rest) ≡ join_with_byte 47 l.keys

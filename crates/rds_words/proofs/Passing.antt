-- A word that the walk of a command goes over with no fault, and what may be wrong at its end.
use Rattle.std.proofs.Common.{◌≡◌, [], false}
use Rattle.clap.specs.Words.{Kinds, Shape, Text}
use Rattle.clap.specs.Kinds.{or_else}
use Rattle.clap.specs.Faults.{check_fault, defaults_fault, settle_fault, turn_fault}
use Rattle.clap.specs.Walk.{Held, Walk, finished, settled, walked}

-- one word leads from a standing to another
abbrev pub Steps : Shape → Walk → Text → Walk → Type 0
Steps s from word to = (walked s.rules [] from word ≡ to) × (turn_fault s [] from word ≡ [])

-- what may be wrong behind the last word
abbrev pub end_fault : Shape → Held → Kinds
end_fault s h = or_else (settle_fault s.rules s.args_override_self h)
    (or_else (defaults_fault (settled s.rules h).rows s.rules) (check_fault s (finished s.rules h) false))

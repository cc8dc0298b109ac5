-- How much a session hears.
use Rattle.std.specs.Prelude.{ℕ, ◌*◌}

-- how many bytes so many reads of a session give at most
abbrev pub most_heard : ℕ → ℕ
most_heard reads = 16384 * reads

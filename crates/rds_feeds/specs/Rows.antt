-- A count, and that many rows.
use Rattle.std.specs.Prelude.{ℕ, zero, suc, Ok}
use Rattle.std.specs.Int.{Width, w16, w32}
use Rattle.rds_bytes.specs.Reading.{◌>>=◌, Reader, number_at}
use Rattle.rds_feeds.specs.declared.many.CountWidth.{CountWidth}
use Rattle.rds_feeds.specs.declared.many.CountWidth.TheVariants.{Two, Four}
use Rattle.rds_feeds.specs.declared.many.Many.{Many}
use Rattle.rds_feeds.specs.declared.many.Many.TheVariants.{Count, Rows, Row}
use Rattle.rds_feeds.specs.Chained.{chain}

abbrev pub width_of : CountWidth → Width
width_of Two = w16
width_of Four = w32

-- so many rows, each after those before it
unfoldable pub times : {V : Type 0} → (V → Reader V) → ℕ → V → Reader V
times next zero rows bytes = Ok (rows, bytes)
times next (suc n) rows bytes = next rows bytes >>= λ x. times next n x.0 x.1

-- a count, and that many rows
abbrev pub many : {V : Type 0} → Width → (V → Reader V) → V → Reader V
many width next rows = chain (number_at width) (λ n. times next n rows)

abbrev pub many_finish : {U V : Type 0} → (U → Reader V) → (V → Reader V) → Many U V → Reader V
many_finish row next (Count width rows) = many (width_of width) next rows
many_finish row next (Rows left rows) = times next left rows
many_finish row next (Row u left) = chain (row u) (times next left)

-- A set of dots in few bytes that is read row by row, and each row gap by gap.
use Rattle.std.specs.Prelude.{ℕ}
use Rattle.rds_bytes.specs.Reading.{Reader, made_at}
use Rattle.rds_feeds.specs.Chained.{chain}
use Rattle.rds_feeds.specs.Parts.{makes}
use Rattle.rds_feeds.specs.Rows.{times}
use Rattle.rds_feeds.specs.SeenDots.{RowsValue, GapsValue, begin_row, add_gap, whole_row}
use Rattle.rds_packed.specs.SeenReading.{packed_gap_at, packed_head_at}

-- how the next gap is read, and the dots before it are put in
abbrev pub next_packed_gap : GapsValue → Reader GapsValue
next_packed_gap g = made_at (add_gap g) (packed_gap_at g.top g.before)

abbrev pub packed_gaps_of : ℕ × GapsValue → Reader GapsValue
packed_gaps_of x = times next_packed_gap x.0 x.1

-- how the next row is read, and its dots are put in
abbrev pub next_packed_row : RowsValue → Reader RowsValue
next_packed_row r = makes (chain (made_at (begin_row r) (packed_head_at r.replicas r.least)) packed_gaps_of) whole_row

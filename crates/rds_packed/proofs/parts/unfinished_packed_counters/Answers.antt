use Rattle.std.proofs.Common.{ℕ, Option, ◌++◌, ◌∷◌, [], sym, ◌∙◌}
use Rattle.rds_counts.specs.declared.row.CountRow.{CountRow}
use Rattle.rds_counts.specs.Counted.{counts_of}
use Rattle.rds_bytes.specs.Packed.{packed_at}
use Rattle.rds_bytes.specs.Reading.{made_at}
use Rattle.rds_feeds.specs.Numbered.{with_met}
use Rattle.rds_packed.specs.CountTexts.{packed_count_row_at, packed_count_rows_at, packed_counters_at}
use Rattle.rds_packed.specs.PackedReading.{packed_key_at}
use Rattle.rds_packed.specs.CountsValue.{CountsValue}
use Rattle.rds_packed.proofs.CountsRead.{counts_met}
use Rattle.rds_packed.proofs.RowsRead.{twice, rows_read}
use Rattle.rds_packed.proofs.parts.unfinished_packed_counters.Goals as goal

pub returns : goal.returns
unfolding packed_counters_at packed_count_rows_at
returns g c =
    let lives = c.args.lives in
    let row = packed_count_row_at (packed_key_at lives.0) c.args.replicas in
    rw c.new.ensures.items
    (λ bytes. rows_read row (λ (l : CountsValue). made_at (λ x. (l.0, l.1 ++ x.0 ∷ [])) (made_at (with_met (counts_met l.0.0) l.1) (packed_count_row_at (packed_key_at l.0.0.0) l.0.1 l.1)))
    (λ rows. ((lives, c.args.replicas), rows)) (λ before bytes. twice (λ (x : CountRow × Option ℕ). ((lives, c.args.replicas), before ++ x.0 ∷ [])) (with_met (counts_met lives) before) (row before bytes))
    (λ m. (m.0.0.0, (m.0.0.1, counts_of m.1))) _ packed_at c.unfinished_packed.ensures bytes
    ∙ sym (twice (λ counts. (lives.0, (lives.1, counts))) counts_of (packed_count_rows_at (packed_key_at lives.0) c.args.replicas bytes)))

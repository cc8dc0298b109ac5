-- How much there is of a replica.
use Rattle.std.proofs.Common.{◌≡◌, ◌+◌, ◌-◌, ◌∙◌, List, [], ◌∷◌, length, map as each, Some, None, ap, append-nil, arith, refl, sym}
use Rattle.std.proofs.lemmas.List.{length-map}
use Rattle.std.specs.Prelude.{count_by}
use Rattle.std.specs.List.{filter_map}
use Rattle.std.specs.FinMap as map
use Rattle.rds_counts.specs.declared.row.CountRow.{CountRow}
use Rattle.rds_counts.specs.Counted.{AreCountRows, Counted, counts_of}
use Rattle.rds_counts.specs.Value.{value_of}
use Rattle.rds_dots.specs.declared.dot.Dot.{Dot}
use Rattle.rds_life.specs.Life.{Dead, Life, Live, Lived, is_dead, live_row, live_rows}
use Rattle.rds_state.proofs.CountLemmas.{count-cons}
use Rattle.rds_tree.specs.Distinct.{distinct}
use Rattle.rds_tree.specs.Document.{sums_of}
use Rattle.rds_names.specs.Key.{key_cmp}
use Rattle.rds_tree.proofs.CountedKeys.{sums_whole}
use Rattle.rds_lines.specs.Overview.{dead_count}

-- each seen dot is live or dead
live_or_dead : (es : List (Dot × Life)) → length (filter_map (λ x. live_row x.0 x.1) es) + count_by (λ x. is_dead (Some x.1)) es ≡ length es
live_or_dead [] = refl
live_or_dead ((d, Live e) ∷ es) = omega (arith, live_or_dead es, count-cons (λ (x : Dot × Life). is_dead (Some x.1)) (d, Live e) es)
live_or_dead ((d, Dead) ∷ es) = omega (arith, live_or_dead es, count-cons (λ (x : Dot × Life). is_dead (Some x.1)) (d, Dead) es)

pub dead_are : (lives : Lived) → map.len lives - length (live_rows lives) ≡ dead_count lives
dead_are lives = omega (arith, live_or_dead (map.entries lives), map.len-entries lives)

-- the keys of rows, each once, are the counters
pub counted_by_rows : (counts : Counted) (rows : List CountRow) → AreCountRows rows → counts ≡ counts_of rows
    → length (distinct key_cmp None (each (λ r. r.key) rows)) ≡ length (sums_of counts)
counted_by_rows counts rows are is =
    let keys = distinct key_cmp None (each (λ (r : CountRow). r.key) rows) in
    sym (length-map keys (λ k. (k, value_of counts k)))
    ∙ ap length (sums_whole counts rows [] (each (λ k. (k, value_of counts k)) keys) None are is refl (append-nil _))

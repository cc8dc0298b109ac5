-- What a text within the limit can count.
use Rattle.std.proofs.Common.{ℕ, ◌^◌, ◌<◌, ◌≤◌, List, [], ◌∷◌, length, ap, ◌∙◌, arith, length-append}
use Rattle.std.specs.List.{flat_map}
use Rattle.std.proofs.lemmas.List.Concat.{flat_map-cons}
use Rattle.rds_names.specs.declared.entry.Entry.{Entry}
use Rattle.rds_dots.specs.declared.dot.Dot.{Dot}
use Rattle.rds_dots.specs.Dots.{Dots}
use Rattle.rds_dots.specs.Runs.{runs_of}
use Rattle.rds_bytes.specs.declared.dots.Gap.{Gap}
use Rattle.rds_bytes.specs.declared.dots.DotRow.{DotRow}
use Rattle.rds_codec.specs.declared.limits.TheConstants.{LIMIT}
use Rattle.rds_counts.specs.Counted.{Counted}
use Rattle.rds_counts.specs.RowsOf.{count_rows}
use Rattle.rds_bytes.specs.DotRows.{rows_from, CanCountAll}
use Rattle.rds_bytes.specs.Spelling.{gap_text, gaps_text, dot_row_text, dots_text, live_row_text, live_rows_text, count_row_text, counters_text}
use Rattle.rds_bytes.proofs.DotFormats.{CanCountDots}
use Rattle.rds_bytes.proofs.LiveFormats.{CanCountRows}

pub longer : {A : Type 0} (f : A → List ℕ) → ((a : A) → 1 ≤ length (f a)) → (xs : List A) → length xs ≤ length (flat_map f xs)
longer f some [] = omega arith
longer f some (x ∷ xs) =
    let e = ap length (flat_map-cons f x xs) ∙ length-append (f x) (flat_map f xs) in
    let one = some x in
    let again = longer f some xs in omega arith

gaps_within : (gs : List Gap) → length gs ≤ length (gaps_text gs)
gaps_within gs = let e = longer gap_text (λ g. omega arith) gs in omega arith

rows_within : (n : ℕ) → n < 2 ^ 32 → (rows : List DotRow) → length (flat_map dot_row_text rows) ≤ n → CanCountAll rows
rows_within n few [] le = tt
rows_within n few (r ∷ rows) le =
    let e = ap length (flat_map-cons dot_row_text r rows) ∙ length-append (dot_row_text r) (flat_map dot_row_text rows) in
    let gaps = gaps_within r.gaps in
    (omega arith, rows_within n few rows (omega arith))

pub dots_within : (s : Dots) → length (dots_text s) ≤ LIMIT → CanCountDots s
unfolding dots_text
dots_within s le = rows_within LIMIT (omega arith) (rows_from 0 (runs_of s)) (omega arith)

pub counts_within : (m : Counted) → length (counters_text m) ≤ LIMIT → length (count_rows m) < 2 ^ 32
unfolding counters_text
counts_within m le = let e = longer count_row_text (λ r. omega arith) (count_rows m) in omega arith

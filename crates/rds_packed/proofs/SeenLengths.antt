-- The gaps of a set of dots are no more than the bytes of its text.
use Rattle.std.proofs.Common.{ℕ, ◌-◌, ◌<◌, ◌≤◌, ◌^◌, List, [], ◌∷◌, length, arith, length-append, ap, ◌∙◌}
use Rattle.std.specs.List.{flat_map}
use Rattle.std.proofs.lemmas.List.Concat.{flat_map-cons}
use Rattle.rds_dots.specs.Dots.{Dots}
use Rattle.rds_dots.specs.Runs.{runs_of}
use Rattle.rds_bytes.specs.declared.dots.Gap.{Gap}
use Rattle.rds_bytes.specs.declared.dots.DotRow.{DotRow}
use Rattle.rds_bytes.specs.DotRows.{rows_from, CanCountAll}
use Rattle.rds_bytes.specs.Packed.{packed_text_up_to, packed_text}
use Rattle.rds_packed.specs.SeenTexts.{packed_gap_text, packed_gaps_text, row_head_of, packed_head_text, packed_dot_row_text, packed_dots_text}

packed_some : (n : ℕ) → 1 ≤ length (packed_text n)
unfolding packed_text_up_to
packed_some n = omega arith

gaps_below : (gs : List Gap) (from : ℕ) → length gs ≤ length (packed_gaps_text from gs)
gaps_below [] from = omega arith
gaps_below (g ∷ gs) from =
    let later = gaps_below gs g.hi in
    let both = length-append (packed_gap_text from g) (packed_gaps_text g.hi gs) in
    let own = length-append (packed_text (g.lo - from)) (packed_text (g.hi - g.lo)) in
    let some = packed_some (g.lo - from) in
    omega (arith, later, both, own, some)

rows_below : (n : ℕ) → n < 2 ^ 32 → (rows : List DotRow) → length (flat_map packed_dot_row_text rows) ≤ n → CanCountAll rows
rows_below n few [] le = tt
rows_below n few (r ∷ rows) le =
    let both = ap length (flat_map-cons packed_dot_row_text r rows) ∙ length-append (packed_dot_row_text r) (flat_map packed_dot_row_text rows) in
    let own = length-append (packed_head_text (row_head_of r)) (packed_gaps_text 0 r.gaps) in
    let gaps = gaps_below r.gaps 0 in
    (omega (arith, few, le, both, own, gaps), rows_below n few rows (omega (arith, le, both)))

-- so a set whose text is short has gaps that four bytes can count
pub short_dots : (n : ℕ) → n < 2 ^ 32 → (s : Dots) → length (packed_dots_text s) ≤ n → CanCountAll (rows_from 0 (runs_of s))
unfolding packed_dots_text
short_dots n few s le =
    let rows = rows_from 0 (runs_of s) in
    let both = length-append (packed_text (length rows)) (flat_map packed_dot_row_text rows) in
    rows_below n few rows (omega (arith, le, both))

-- The text of a replica without components is short, in each format.
use Rattle.std.proofs.Common.{filter_map, ◌≡◌, ℕ, ◌+◌, ◌≤◌, inl, inr, false, List, [], length, refl, sym, ◌∙◌, ap, arith}
use Rattle.std.specs.Prelude.{is_some}
use Rattle.std.proofs.lemmas.List.{nil_from_length}
use Rattle.std.specs.List.{flat_map}
use Rattle.std.specs.FinMap as map
use Rattle.std.specs.FinSet as set
use Rattle.rds_names.specs.declared.entry.Entry.{Entry}
use Rattle.rds_names.specs.declared.fault.Fault.{Fault}
use Rattle.rds_names.specs.declared.fault.Fault.TheVariants.{Memory}
use Rattle.rds_counts.specs.Counted.{Above, Counted}
use Rattle.rds_counts.specs.Place.{Place, place_cmp}
use Rattle.rds_counts.specs.declared.row.CountRow.{CountRow}
use Rattle.rds_counts.specs.RowsOf.{count_rows, rows_of}
use Rattle.rds_dots.specs.declared.dot.Dot.{Dot}
use Rattle.rds_dots.specs.declared.dot.Run.{Run}
use Rattle.rds_dots.specs.Dots.{dot_cmp}
use Rattle.rds_dots.specs.Runs.{runs_of}
use Rattle.rds_dots.specs.RunsOf.{runs_are}
use Rattle.rds_life.specs.Life.{Life, Lived, seen_of, live_row, live_rows}
use Rattle.rds_life.proofs.Views.{contains-seen_of}
use Rattle.rds_state.specs.Fits.{ReplicaValue}
use Rattle.rds_state.specs.Value.{StateValue}
use Rattle.rds_bytes.specs.DotRows.{rows_from}
use Rattle.rds_bytes.specs.Spelling.{dot_rows_text, dots_text, live_row_text, keyed_live_rows_text, count_rows_text, keyed_count_rows_text, counters_text, keyed_counters_text, member_text}
use Rattle.rds_bytes.specs.Table.{table_of, rows_table}
use Rattle.rds_bytes.specs.TableTexts.{table_text, number_text}
use Rattle.rds_codec.specs.StateTexts.{snapshot_text_in, table_in, state_text_in}
use Rattle.rds_codec.specs.declared.formats.Format.{Format}
use Rattle.rds_codec.specs.declared.formats.Format.TheVariants.{One, Two}
use Rattle.rds_codec.specs.Writing.{IsUnwritten}
use Rattle.rds_codec.specs.declared.limits.TheConstants.{LIMIT}
use Rattle.rds_codec.proofs.Texts.{numbered_rows_text, numbered_counters_text, one_length, two_length, snapshot_length}

none_seen : (d : Dot) → set.contains (seen_of map.empty) d ≡ false
none_seen d = contains-seen_of map.empty d ∙ ap is_some (map.get-empty {X = Life} dot_cmp d)

no_runs : runs_of (seen_of map.empty) ≡ []
no_runs = runs_are (seen_of map.empty) [] (record { maximal = refl; same = λ d. sym (none_seen d) })

no_dots : length (dots_text (seen_of map.empty)) ≡ 2
unfolding dots_text
no_dots = ap (λ (rs : List Run). length (dot_rows_text (rows_from 0 rs))) no_runs

no_lives : map.entries {K = Dot} {X = Life} {R = dot_cmp} map.empty ≡ []
no_lives = nil_from_length _ (sym (map.len-entries map.empty) ∙ map.len-empty dot_cmp Life)

no_counts : map.entries {K = Place} {X = Above} {R = place_cmp} map.empty ≡ []
no_counts = nil_from_length _ (sym (map.len-entries map.empty) ∙ map.len-empty place_cmp Above)

no_live : length (flat_map live_row_text (live_rows map.empty)) ≡ 0
no_live = ap (λ (es : List (Dot × Life)). length (flat_map live_row_text (filter_map (λ x. live_row x.0 x.1) es))) no_lives

no_counters : length (counters_text map.empty) ≡ 4
unfolding counters_text
no_counters = ap (λ (es : List (Place × Above)). length (count_rows_text (rows_of es))) no_counts

empty_one : (v : StateValue) → v.lives ≡ map.empty → v.counts ≡ map.empty → length (state_text_in One v) ≡ 10
empty_one v lives counts =
    sym (one_length v 2 0 4 (sym (ap (λ (l : Lived). length (dots_text (seen_of l))) lives ∙ no_dots))
    (sym (ap (λ (l : Lived). length (flat_map live_row_text (live_rows l))) lives ∙ no_live)) (sym (ap (λ (m : Counted). length (counters_text m)) counts ∙ no_counters)))

-- ---- in format 2

no_rows : live_rows map.empty ≡ []
no_rows = ap (λ (es : List (Dot × Life)). filter_map (λ x. live_row x.0 x.1) es) no_lives

no_count_rows : count_rows map.empty ≡ []
no_count_rows = ap rows_of no_counts

-- the table of no keys, no rows and no rows of counters
nothing_length : length (table_text (rows_table [] [])) + length (keyed_live_rows_text (number_text (rows_table [] [])) []) + length (keyed_count_rows_text (number_text (rows_table [] [])) []) ≡ 12
unfolding table_of table_text
nothing_length = refl

abbrev lengths : List (Dot × Entry) → List CountRow → ℕ
lengths rows counts =
    length (table_text (rows_table rows counts)) + length (keyed_live_rows_text (number_text (rows_table rows counts)) rows) + length (keyed_count_rows_text (number_text (rows_table rows counts)) counts)

lengths_are : (v : StateValue) → length (table_text (table_in v)) + length (numbered_rows_text v) + length (numbered_counters_text v) ≡ lengths (live_rows v.lives) (count_rows v.counts)
unfolding keyed_counters_text
lengths_are v = refl

empty_two : (v : StateValue) → v.lives ≡ map.empty → v.counts ≡ map.empty → length (state_text_in Two v) ≡ 14
empty_two v lives counts =
    let whole = two_length v in
    let dots = ap (λ (l : Lived). length (dots_text (seen_of l))) lives ∙ no_dots in
    let rows = ap live_rows lives ∙ no_rows in
    let counted = ap count_rows counts ∙ no_count_rows in
    let rest = lengths_are v ∙ (λ i. lengths (rows i) (counted i)) ∙ nothing_length in
    omega (arith, whole, dots, rest)

-- ---- a snapshot

empty_within : (format : Format) (v : StateValue) → v.lives ≡ map.empty → v.counts ≡ map.empty → length (state_text_in format v) ≤ 14
empty_within One v lives counts = let e = empty_one v lives counts in omega (arith, e)
empty_within Two v lives counts = let e = empty_two v lives counts in omega (arith, e)

pub small_snapshot : (format : Format) (v : ReplicaValue) → length (member_text v.roster v.own) ≤ 4420 → v.state.lives ≡ map.empty → v.state.counts ≡ map.empty → length (snapshot_text_in format v) ≤ LIMIT
small_snapshot format v few lives counts =
    let whole = snapshot_length format v in
    let state = empty_within format v.state lives counts in
    omega (arith, few, whole, state)

-- a text within the limit wants nothing but memory
pub wants_memory : (n : ℕ) (e : Fault) → n ≤ LIMIT → IsUnwritten n e → e ≡ Memory
wants_memory n e within h = elim h [ inl memory ↦ memory.0 | inr long ↦ absurd (let above = long.1 in omega (arith, within, above)) ]

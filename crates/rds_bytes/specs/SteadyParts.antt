-- The readers of the parts are steady.
use Rattle.std.proofs.Common.{ℕ, zero, suc, Bool, true, false, cond, ltb, List, Option, eqb}
use Rattle.std.specs.Int.{w16, w32, w64}
use Rattle.rds_names.specs.declared.entry.Entry.{Entry}
use Rattle.rds_names.specs.declared.scalar.Scalar.TheVariants.{Null, Bool as Truth}
use Rattle.rds_dots.specs.declared.dot.Dot.{Dot}
use Rattle.rds_dots.specs.Dots.{Dots}
use Rattle.rds_counts.specs.Counted.{counts_of}
use Rattle.rds_counts.specs.declared.row.CountRow.{CountRow}
use Rattle.rds_bytes.specs.declared.dots.Gap.{Gap}
use Rattle.rds_bytes.specs.declared.dots.DotRow.{DotRow}
use Rattle.rds_bytes.specs.Entries.{entry_of_tuple}
use Rattle.rds_bytes.specs.RowDots.{dots_of_rows}
use Rattle.rds_bytes.specs.Packed.{packed_by, nothing_at, packed_up_to, packed_at}
use Rattle.rds_bytes.specs.Reading.{Reader, when_at, last, magic_at, short_at, key_at, name_at, new_name_at, names_at, roster_by, roster_at, replica_at, member_at, header_at, gap_by, gap_at, gaps_at, numbers_at, dot_row_by, dot_row_at, dot_rows_at, dots_at, row_head_by, row_head_at, row_gaps_at, kind_by, kind_at, int_at, text_at, int_scalar, text_scalar, text_scalar_at, tagged_at, scalar_at, dot_by, dot_at, counts_at, count_row_by, keyed_path_at, keyed_entry_at, keyed_live_row_at, keyed_live_rows_at, keyed_place_at, keyed_count_row_at, keyed_count_rows_at, keyed_counters_at, path_at, entry_at, live_row_at, live_rows_at, place_at, count_row_at, count_rows_at, counters_at}
use Rattle.rds_bytes.specs.Steady.{IsSteady}
use Rattle.rds_bytes.specs.SteadyLaws.{agrees_bind, made_steady, then_steady, pair_steady, when_steady, drawn_steady, chosen_steady, given_steady, bad_steady, rows_steady, list_steady, byte_steady, number_steady, bytes_steady, string_steady}

-- ---- texts and rosters

pub magic_steady : IsSteady magic_at
unfolding magic_at
magic_steady = when_steady _ _ (bytes_steady 4)

pub short_steady : (least most : ℕ) → IsSteady (short_at least most)
unfolding short_at
short_steady least most = when_steady _ _ (string_steady _ (when_steady _ _ byte_steady))

pub key_steady : IsSteady key_at
unfolding key_at
key_steady = when_steady _ _ (short_steady 1 64)

pub name_steady : IsSteady name_at
unfolding name_at
name_steady = when_steady _ _ (short_steady 1 16)

pub new_name_steady : (before : List (List ℕ)) → IsSteady (new_name_at before)
unfolding new_name_at
new_name_steady before = when_steady _ _ name_steady

pub names_steady : IsSteady names_at
unfolding names_at
names_steady = list_steady _ _ (when_steady _ _ (number_steady w16)) new_name_steady

pub roster_steady : IsSteady roster_at
unfolding roster_at
roster_steady = drawn_steady roster_by _ (pair_steady _ _ key_steady names_steady)

pub replica_steady : (replicas : ℕ) → IsSteady (replica_at replicas)
unfolding replica_at
replica_steady replicas = when_steady _ _ byte_steady

pub member_steady : IsSteady member_at
unfolding member_at
member_steady = then_steady _ _ roster_steady (λ roster. replica_steady _)

pub header_steady : IsSteady header_at
unfolding header_at
header_steady = made_steady _ _ (pair_steady _ _ magic_steady member_steady)

-- ---- a set of dots

pub gap_steady : (top : ℕ) (before : Option Gap) → IsSteady (gap_at top before)
unfolding gap_at
gap_steady top before = made_steady gap_by _ (then_steady _ _ (when_steady _ _ (number_steady w64)) (λ lo. when_steady _ _ (number_steady w64)))

pub gaps_steady : (top : ℕ) → IsSteady (gaps_at top)
unfolding gaps_at
gaps_steady top = list_steady _ _ (number_steady w32) (λ before. gap_steady top (last before))

pub row_gaps_steady : (top count : ℕ) → IsSteady (row_gaps_at top count)
row_gaps_steady top count = rows_steady _ (λ before. gap_steady top (last before)) _ count

pub row_head_steady : (replicas least : ℕ) → IsSteady (row_head_at replicas least)
unfolding row_head_at
row_head_steady replicas least = made_steady row_head_by _ (pair_steady _ _ (when_steady _ _ byte_steady) (pair_steady _ _ (when_steady _ _ (number_steady w64)) (number_steady w32)))

pub numbers_steady : IsSteady numbers_at
unfolding numbers_at
numbers_steady = then_steady _ _ (when_steady _ _ (number_steady w64)) gaps_steady

pub dot_row_steady : (replicas : ℕ) (before : List DotRow) → IsSteady (dot_row_at replicas before)
unfolding dot_row_at
dot_row_steady replicas before = made_steady dot_row_by _ (pair_steady _ _ (when_steady _ _ byte_steady) numbers_steady)

pub dot_rows_steady : (replicas : ℕ) → IsSteady (dot_rows_at replicas)
unfolding dot_rows_at
dot_rows_steady replicas = list_steady _ _ (number_steady w16) (dot_row_steady replicas)

pub dots_steady : (replicas : ℕ) → IsSteady (dots_at replicas)
unfolding dots_at
dots_steady replicas = made_steady dots_of_rows _ (dot_rows_steady replicas)

-- ---- live rows

pub kind_steady : IsSteady kind_at
unfolding kind_at
kind_steady = made_steady kind_by _ (when_steady _ _ byte_steady)

pub int_steady : IsSteady int_at
unfolding int_at
int_steady = made_steady _ _ (number_steady w64)

pub text_steady : IsSteady text_at
unfolding text_at
text_steady = when_steady _ _ (string_steady _ (when_steady _ _ (number_steady w16)))

pub text_scalar_steady : IsSteady text_scalar_at
unfolding text_scalar_at
text_scalar_steady = made_steady text_scalar _ (when_steady _ _ text_steady)

pub tagged_steady : (tag : ℕ) → IsSteady (tagged_at tag)
tagged_steady tag =
    chosen_steady (eqb tag 0) _ _ (given_steady Null)
    (chosen_steady (eqb tag 1) _ _ (given_steady (Truth false))
    (chosen_steady (eqb tag 2) _ _ (given_steady (Truth true))
    (chosen_steady (eqb tag 3) _ _ (made_steady int_scalar _ int_steady)
    (chosen_steady (eqb tag 4) _ _ text_scalar_steady bad_steady))))

pub scalar_steady : IsSteady scalar_at
unfolding scalar_at
scalar_steady bytes more = agrees_bind more _ _ (λ tag. tagged_at tag.0 tag.1) (byte_steady bytes more) (λ tag rest. tagged_steady tag rest more)

pub dot_steady : (seen : Dots) (before : List (Dot × Entry)) → IsSteady (dot_at seen before)
unfolding dot_at
dot_steady seen before = when_steady _ _ (made_steady dot_by _ (pair_steady _ _ byte_steady (number_steady w64)))

pub counts_steady : IsSteady counts_at
unfolding counts_at
counts_steady = then_steady _ _ (when_steady _ _ (number_steady w64)) (λ p. when_steady _ _ (number_steady w64))

-- ---- rows, for any steady reader of their keys

module _ (key : Reader (List ℕ)) (key_is : IsSteady key) where
  pub keyed_path_steady : IsSteady (keyed_path_at key)
  unfolding keyed_path_at
  keyed_path_steady = when_steady _ _ (list_steady _ _ (when_steady _ _ byte_steady) (λ _. key_is))

  pub keyed_entry_steady : IsSteady (keyed_entry_at key)
  unfolding keyed_entry_at
  keyed_entry_steady = drawn_steady entry_of_tuple _ (pair_steady _ _ keyed_path_steady (pair_steady _ _ kind_steady scalar_steady))

  pub keyed_live_row_steady : (seen : Dots) (before : List (Dot × Entry)) → IsSteady (keyed_live_row_at key seen before)
  unfolding keyed_live_row_at
  keyed_live_row_steady seen before = pair_steady _ _ (dot_steady seen before) keyed_entry_steady

  pub keyed_live_rows_steady : (seen : Dots) → IsSteady (keyed_live_rows_at key seen)
  unfolding keyed_live_rows_at
  keyed_live_rows_steady seen = list_steady _ _ (number_steady w32) (keyed_live_row_steady seen)

  pub keyed_place_steady : (replicas : ℕ) (before : List CountRow) → IsSteady (keyed_place_at key replicas before)
  unfolding keyed_place_at
  keyed_place_steady replicas before = when_steady _ _ (pair_steady _ _ key_is byte_steady)

  pub keyed_count_row_steady : (replicas : ℕ) (before : List CountRow) → IsSteady (keyed_count_row_at key replicas before)
  unfolding keyed_count_row_at
  keyed_count_row_steady replicas before = made_steady count_row_by _ (pair_steady _ _ (keyed_place_steady replicas before) counts_steady)

  pub keyed_count_rows_steady : (replicas : ℕ) → IsSteady (keyed_count_rows_at key replicas)
  unfolding keyed_count_rows_at
  keyed_count_rows_steady replicas = list_steady _ _ (number_steady w32) (keyed_count_row_steady replicas)

  pub keyed_counters_steady : (replicas : ℕ) → IsSteady (keyed_counters_at key replicas)
  unfolding keyed_counters_at
  keyed_counters_steady replicas = made_steady counts_of _ (keyed_count_rows_steady replicas)

-- ---- rows of which each key is a short text

pub entry_steady : IsSteady entry_at
unfolding entry_at path_at keyed_entry_at keyed_path_at
entry_steady = keyed_entry_steady key_at key_steady

pub live_row_steady : (seen : Dots) (before : List (Dot × Entry)) → IsSteady (live_row_at seen before)
unfolding live_row_at entry_at path_at keyed_live_row_at keyed_entry_at keyed_path_at
live_row_steady = keyed_live_row_steady key_at key_steady

pub live_rows_steady : (seen : Dots) → IsSteady (live_rows_at seen)
unfolding live_rows_at live_row_at entry_at path_at keyed_live_rows_at keyed_live_row_at keyed_entry_at keyed_path_at
live_rows_steady = keyed_live_rows_steady key_at key_steady

pub count_row_steady : (replicas : ℕ) (before : List CountRow) → IsSteady (count_row_at replicas before)
unfolding count_row_at place_at keyed_count_row_at keyed_place_at
count_row_steady = keyed_count_row_steady key_at key_steady

pub counters_steady : (replicas : ℕ) → IsSteady (counters_at replicas)
unfolding counters_at count_rows_at count_row_at place_at keyed_counters_at keyed_count_rows_at keyed_count_row_at keyed_place_at
counters_steady = keyed_counters_steady key_at key_steady

-- ---- packed numbers

either_steady : {A : Type 0} (b : Bool) (f g : Reader A) → IsSteady f → IsSteady g → IsSteady (cond b f g)
either_steady true f g s t = s
either_steady false f g s t = t

packed_up_to_steady : (more : ℕ) → IsSteady (packed_up_to more)
unfolding packed_up_to
packed_up_to_steady zero = when_steady _ _ byte_steady
packed_up_to_steady (suc more) =
    made_steady packed_by _
    (then_steady _ _ byte_steady
    (λ b. either_steady (ltb b 128) nothing_at (when_at (ltb 0) (packed_up_to more)) (given_steady 0) (when_steady _ _ (packed_up_to_steady more))))

pub packed_steady : IsSteady packed_at
packed_steady = packed_up_to_steady 6

-- The readers of live rows in few bytes are steady.
use Rattle.std.proofs.Common.{ℕ, ◌+◌, Bool, true, false, cond, eqb, leb, ltb, List, length}
use Rattle.std.specs.Prelude.{slice_get}
use Rattle.std.specs.FinSet as set
use Rattle.rds_names.specs.declared.entry.Entry.{Entry}
use Rattle.rds_names.specs.declared.scalar.Scalar.TheVariants.{Null, Bool as Truth}
use Rattle.rds_dots.specs.declared.dot.Dot.{Dot}
use Rattle.rds_dots.specs.Dots.{Dots}
use Rattle.rds_bytes.specs.Reading.{Reader, text_scalar, int_scalar, byte_at, when_at, pair_at, list_at}
use Rattle.rds_bytes.specs.Packed.{packed_at}
use Rattle.rds_bytes.specs.Steady.{IsSteady}
use Rattle.rds_bytes.specs.SteadyLaws.{made_steady, then_steady, pair_steady, when_steady, drawn_steady, chosen_steady, given_steady, bad_steady, list_steady, byte_steady, string_steady}
use Rattle.rds_bytes.specs.SteadyParts.{int_steady, packed_steady}
use Rattle.rds_packed.specs.PackedReading.{packed_u32_at, packed_key_at, given_at, packed_string_at, wide_at, rising_scalar, falling_scalar, packed_text_scalar_at, payload_at, head_at, head_keys, head_tag, entry_of_head, place_after, step_by, dot_step_at, packed_dot_at, dot_before, packed_path_at, packed_entry_at, packed_row_at, packed_lives_at}

pub packed_u32_steady : IsSteady packed_u32_at
packed_u32_steady = when_steady _ _ packed_steady

pub packed_key_steady : (table : List (List ℕ)) → IsSteady (packed_key_at table)
unfolding packed_key_at
packed_key_steady table = drawn_steady (slice_get table) _ packed_u32_steady

-- ---- entries

packed_string_steady : IsSteady packed_string_at
unfolding packed_string_at
packed_string_steady = when_steady _ _ (string_steady _ (when_steady _ _ packed_steady))

packed_text_scalar_steady : IsSteady packed_text_scalar_at
unfolding packed_text_scalar_at
packed_text_scalar_steady = made_steady text_scalar _ (when_steady _ _ packed_string_steady)

wide_steady : IsSteady wide_at
unfolding wide_at
wide_steady = when_steady _ _ int_steady

payload_steady : (tag : ℕ) → IsSteady (payload_at tag)
unfolding payload_at
payload_steady tag =
    chosen_steady (eqb tag 0) _ _ (given_steady Null)
    (chosen_steady (eqb tag 1) _ _ (given_steady (Truth false))
    (chosen_steady (eqb tag 2) _ _ (given_steady (Truth true))
    (chosen_steady (eqb tag 3) _ _ packed_text_scalar_steady
    (chosen_steady (eqb tag 4) _ _ (made_steady rising_scalar _ packed_steady)
    (chosen_steady (eqb tag 5) _ _ (made_steady falling_scalar _ packed_steady)
    (chosen_steady (eqb tag 6) _ _ (made_steady int_scalar _ wide_steady) bad_steady))))))

head_steady : IsSteady head_at
unfolding head_at
head_steady = when_steady _ _ byte_steady

-- ---- dots

either_steady : {A : Type 0} (b : Bool) (f g : Reader A) → IsSteady f → IsSteady g → IsSteady (cond b f g)
either_steady true f g s t = s
either_steady false f g s t = t

place_steady : (from : Dot) (distance : ℕ) → IsSteady (place_after from distance)
place_steady from distance =
    either_steady (eqb distance 0) (pair_at (when_at (ltb from.replica) byte_at) packed_at) (given_at (from.replica, from.seq + distance))
    (pair_steady _ _ (when_steady _ _ byte_steady) packed_steady) (given_steady (from.replica, from.seq + distance))

dot_step_steady : (from : Dot) → IsSteady (dot_step_at from)
unfolding dot_step_at
dot_step_steady from = made_steady step_by _ (then_steady _ _ packed_steady (place_steady from))

packed_dot_steady : (seen : Dots) (before : List (Dot × Entry)) → IsSteady (packed_dot_at seen before)
unfolding packed_dot_at
packed_dot_steady seen before = when_steady (set.contains seen) _ (dot_step_steady (dot_before before))

-- ---- rows, for any steady reader of their keys

module _ (key : Reader (List ℕ)) (key_is : IsSteady key) where
  packed_path_steady : (count : ℕ) → IsSteady (packed_path_at key count)
  unfolding packed_path_at
  packed_path_steady count =
      when_steady (λ keys. leb (length keys) 8) (list_at (given_at count) (λ _. key)) (list_steady (given_at count) (λ _. key) (given_steady count) (λ _. key_is))

  pub packed_entry_steady : IsSteady (packed_entry_at key)
  unfolding packed_entry_at
  packed_entry_steady =
      drawn_steady entry_of_head _
      (then_steady _ _ head_steady (λ head. pair_steady _ _ (packed_path_steady (head_keys head)) (payload_steady (head_tag head))))

  pub packed_row_steady : (seen : Dots) (before : List (Dot × Entry)) → IsSteady (packed_row_at key seen before)
  unfolding packed_row_at
  packed_row_steady seen before = pair_steady _ _ (packed_dot_steady seen before) packed_entry_steady

  pub packed_lives_steady : (seen : Dots) → IsSteady (packed_lives_at key seen)
  unfolding packed_lives_at
  packed_lives_steady seen = list_steady _ _ packed_u32_steady (packed_row_steady seen)

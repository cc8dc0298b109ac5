-- A table is a format, and so are the numbers of its keys.
use Rattle.std.proofs.Common.{◌≡◌, ℕ, ◌^◌, ◌<◌, true, List, [], length, Some, refl, arith}
use Rattle.std.specs.Prelude.{slice_get}
use Rattle.std.specs.Int.{w32, to_be_bytes}
use Rattle.rds_bytes.specs.Spelling.{short_text}
use Rattle.rds_bytes.specs.Reading.{number_at, is_new}
use Rattle.rds_bytes.specs.Table.{has_key, table_number, IsTable}
use Rattle.rds_bytes.specs.TableTexts as texts
use Rattle.rds_bytes.specs.TableTexts.{table_text, number_text}
use Rattle.rds_bytes.specs.Values.{is_key_text}
use Rattle.rds_bytes.proofs.Format.{IsFormat, number32, drawn_format, when_format, refit}
use Rattle.rds_bytes.proofs.Lists.{list_format}
use Rattle.rds_bytes.proofs.PartFormats.{IsNewOf, key_format, all_pass, differ_of, new_of}
use Rattle.rds_bytes.proofs.TableLaws.{has_at, number_at_place, key_at_number, number_below}

new_key_format : (before : List (List ℕ)) → IsFormat (texts.new_key_at before) short_text (IsNewOf is_key_text before)
unfolding texts.new_key_at
new_key_format before = when_format (is_new before) _ _ _ key_format

abbrev pub CanCountKeys : List (List ℕ) → Type 0
CanCountKeys table = length table < 2 ^ 32

pub table_format : IsFormat texts.table_at table_text (λ table. CanCountKeys table × IsTable table)
unfolding texts.table_at table_text
table_format =
    refit _ _ _ (λ table. CanCountKeys table × IsTable table)
    (λ table h. (h.0, record { texts = all_pass is_key_text table [] h.1; differ = differ_of is_key_text table [] refl h.1 }))
    (λ table h. (h.0, new_of is_key_text table [] h.1.differ h.1.texts))
    (list_format _ _ _ new_key_format _ _ _ number32)

module _ (table : List (List ℕ)) (few : CanCountKeys table) (is : IsTable table) where
  number_there : (k : List ℕ) → has_key table k ≡ true → (table_number table k < 2 ^ 32) × (slice_get table (table_number table k) ≡ Some k)
  number_there k h = (let less = number_below table k h in (omega arith, key_at_number table k h))

  number_back : (n : ℕ) (k : List ℕ) → n < 2 ^ 32 → slice_get table n ≡ Some k → (has_key table k ≡ true) × (table_number table k ≡ n)
  number_back n k lt at = (has_at table n k at, number_at_place table n k is.differ at)

  pub numbered_format : IsFormat (texts.numbered_at table) (number_text table) (λ k. has_key table k ≡ true)
  unfolding texts.numbered_at
  numbered_format = drawn_format (slice_get table) (table_number table) (number_at w32) (to_be_bytes w32) _ _ number_there number_back number32

-- Rows and counters are formats over the numbers of a table's keys, so each has one text.
use Rattle.std.proofs.Common.{◌≡◌, ℕ, Bool, true, false, List, [], ◌∷◌, refl, sym, subst, ◌∙◌}
use Rattle.std.specs.List.{list_all}
use Rattle.std.specs.Str.{bytes_eq}
use Rattle.std.proofs.lemmas.Bool.{false≢true}
use Rattle.rds_names.specs.Conditions.{and_left, and_right}
use Rattle.rds_dots.specs.Dots.{Dots}
use Rattle.rds_bytes.specs.OneText.{HasOneText}
use Rattle.rds_bytes.specs.Reading.{Reader, keyed_live_rows_at, keyed_counters_at}
use Rattle.rds_bytes.specs.Spelling.{keyed_live_rows_text, keyed_counters_text}
use Rattle.rds_bytes.specs.Table.{has_key}
use Rattle.rds_bytes.specs.TableTexts.{table_text, number_text, table_at, numbered_at}
use Rattle.rds_bytes.specs.Tabled.{IsShortTable, IsKeyOf, AreTabledRows, AreTabledCounts}
use Rattle.rds_bytes.specs.Values.{is_key_text, IsKeyText, AreDotsOf}
use Rattle.rds_bytes.proofs.CounterFormats.{AreCountsWith, keyed_counters_format}
use Rattle.rds_bytes.proofs.Format.{IsFormat, refit}
use Rattle.rds_bytes.proofs.LiveFormats.{AreOnlyDots, AreLiveOf, keyed_live_format}
use Rattle.rds_bytes.proofs.TableFormats.{table_format, numbered_format}
use Rattle.rds_bytes.proofs.TableLaws.{same_key, head_has}

-- what all keys of a table pass, each of them passes
pub has_all : (P : List ℕ → Bool) (table : List (List ℕ)) (k : List ℕ) → list_all P table ≡ true → has_key table k ≡ true → P k ≡ true
has_all P [] k all h = absurd (false≢true h)
has_all P (x ∷ xs) k all h = by (bytes_eq k x) refl (λ more. has_all P xs k (and_right (P x) _ all) more)
  where
    by : (b : Bool) → bytes_eq k x ≡ b → (has_key xs k ≡ true → P k ≡ true) → P k ≡ true
    by true e later = subst (λ (y : List ℕ). P y ≡ true) (sym (same_key k x e)) (and_left (P x) (list_all P xs) all)
    by false e later = later (sym (head_has false x xs k e) ∙ h)

module _ (table : List (List ℕ)) (is : IsShortTable table) where
  texts_in : (k : List ℕ) → IsKeyOf table k → IsKeyText k
  texts_in k h = has_all is_key_text table k is.1.texts h

  pub tabled_rows_format : (s : Dots) → AreOnlyDots s → IsFormat (keyed_live_rows_at (numbered_at table) s) (keyed_live_rows_text (number_text table)) (AreTabledRows table s)
  tabled_rows_format s dots =
      refit _ _ (AreLiveOf (IsKeyOf table) s) (AreTabledRows table s)
      (λ rows h. record { few = h.0.0; are_rows = h.0.1.0; each_row = h.0.1.1; keys = h.1 })
      (λ rows h. ((h.few, (h.are_rows, h.each_row)), h.keys))
      (keyed_live_format (numbered_at table) (number_text table) (IsKeyOf table) texts_in (numbered_format table is.0 is.1) s dots)

  pub tabled_counters_format : (replicas : ℕ) → IsFormat (keyed_counters_at (numbered_at table) replicas) (keyed_counters_text (number_text table)) (AreTabledCounts table replicas)
  tabled_counters_format replicas =
      refit _ _ (AreCountsWith (IsKeyOf table) replicas) (AreTabledCounts table replicas)
      (λ m h. record { few = h.0.1; are_counts = h.0.0; keys = h.1 })
      (λ m h. ((h.are_counts, h.few), h.keys))
      (keyed_counters_format (numbered_at table) (number_text table) (IsKeyOf table) texts_in (numbered_format table is.0 is.1) replicas)

-- ---- in the words of the laws

pub one_text : {A : Type 0} (read : Reader A) (text : A → List ℕ) (Is : A → Type 0) → IsFormat read text Is → HasOneText read text Is
one_text read text Is p = record {
  taken = p.again;
  spelled = λ bytes a rest fits e. (let t = p.takes bytes (a, rest) fits e in (t.0.parts, t.1));
}

pub table_one_text : HasOneText table_at table_text IsShortTable
table_one_text = one_text _ _ _ table_format

pub number_one_text : (table : List (List ℕ)) → IsShortTable table → HasOneText (numbered_at table) (number_text table) (IsKeyOf table)
number_one_text table is = one_text _ _ _ (numbered_format table is.0 is.1)

pub rows_one_text : (table : List (List ℕ)) → IsShortTable table → (s : Dots) → AreDotsOf 256 s → HasOneText (keyed_live_rows_at (numbered_at table) s) (keyed_live_rows_text (number_text table)) (AreTabledRows table s)
rows_one_text table is s dots = one_text _ _ _ (tabled_rows_format table is s (λ d h. (dots d h).0))

pub counters_one_text : (table : List (List ℕ)) → IsShortTable table → (replicas : ℕ) → HasOneText (keyed_counters_at (numbered_at table) replicas) (keyed_counters_text (number_text table)) (AreTabledCounts table replicas)
counters_one_text table is replicas = one_text _ _ _ (tabled_counters_format table is replicas)

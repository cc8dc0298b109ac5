-- The keys that a state uses.
use Rattle.std.proofs.Common.{◌≡◌, ℕ, Bool, true, false, ◌||◌, List, [], ◌∷◌, ◌++◌, refl, sym, ap, subst, ◌∙◌, map as each}
use Rattle.std.specs.Str.{bytes_eq}
use Rattle.std.specs.List.{AllByRecursion, flat_map, list_all}
use Rattle.std.proofs.lemmas.List.Concat.{flat_map-cons}
use Rattle.rds_names.specs.Conditions.{and_true, and_left, and_right}
use Rattle.rds_names.specs.declared.entry.Entry.{Entry}
use Rattle.rds_dots.specs.declared.dot.Dot.{Dot}
use Rattle.rds_life.specs.Life.{live_rows}
use Rattle.rds_counts.specs.declared.row.CountRow.{CountRow}
use Rattle.rds_counts.specs.Counted.{Counted}
use Rattle.rds_counts.specs.RowsOf.{count_rows}
use Rattle.rds_counts.specs.RowsOfLemmas.{count_rows-counts_of}
use Rattle.rds_state.specs.Value.{StateValue}
use Rattle.rds_bytes.specs.Table.{has_key, AreIn}
use Rattle.rds_bytes.proofs.TableLaws.{same_key, head_has, table_has}
use Rattle.rds_bytes.specs.Values.{is_key_text, IsKeyText, HasKeys, HasKey, IsLiveRow, IsCountRowOf, AreCountsOf}
use Rattle.rds_codec.specs.StateTexts.{IsStateOf, keys_in, table_in}

-- each key of its rows is such a key
pub record HasStateKeys (IsKey : List ℕ → Type 0) (v : StateValue) : Type 0 where
  pub rows : AllByRecursion (HasKeys IsKey) (live_rows v.lives)
  pub counts : AllByRecursion (HasKey IsKey) (count_rows v.counts)

all_append : {A : Type 0} (P : A → Type 0) (xs ys : List A) → AllByRecursion P (xs ++ ys) → AllByRecursion P xs × AllByRecursion P ys
all_append P [] ys h = (tt, h)
all_append P (x ∷ xs) ys h = (let more = all_append P xs ys h.1 in ((h.0, more.0), more.1))

append_all : {A : Type 0} (P : A → Type 0) (xs ys : List A) → AllByRecursion P xs → AllByRecursion P ys → AllByRecursion P (xs ++ ys)
append_all P [] ys p q = q
append_all P (x ∷ xs) ys p q = (p.0, append_all P xs ys p.1 q)

abbrev path_of : Dot × Entry → List (List ℕ)
path_of row = row.1.path

abbrev key_of : CountRow → List ℕ
key_of r = r.key

module _ (P : List ℕ → Type 0) where
  rows_of_keys : (rows : List (Dot × Entry)) → AllByRecursion P (flat_map path_of rows) → AllByRecursion (HasKeys P) rows
  rows_of_keys [] h = tt
  rows_of_keys (row ∷ rows) h =
      let parts = all_append P (path_of row) (flat_map path_of rows) (subst (AllByRecursion P) (flat_map-cons path_of row rows) h) in
      (parts.0, rows_of_keys rows parts.1)

  keys_of_rows : (rows : List (Dot × Entry)) → AllByRecursion (HasKeys P) rows → AllByRecursion P (flat_map path_of rows)
  keys_of_rows [] h = tt
  keys_of_rows (row ∷ rows) h =
      subst (AllByRecursion P) (sym (flat_map-cons path_of row rows)) (append_all P (path_of row) (flat_map path_of rows) h.0 (keys_of_rows rows h.1))

  counts_of_keys : (rows : List CountRow) → AllByRecursion P (each key_of rows) → AllByRecursion (HasKey P) rows
  counts_of_keys [] h = tt
  counts_of_keys (r ∷ rows) h = (h.0, counts_of_keys rows h.1)

  keys_of_counts : (rows : List CountRow) → AllByRecursion (HasKey P) rows → AllByRecursion P (each key_of rows)
  keys_of_counts [] h = tt
  keys_of_counts (r ∷ rows) h = (h.0, keys_of_counts rows h.1)

  -- its rows say so of each key exactly where its keys do
  pub rows_have : (v : StateValue) → AllByRecursion P (keys_in v) → HasStateKeys P v
  rows_have v h =
      let parts = all_append P (flat_map path_of (live_rows v.lives)) (each key_of (count_rows v.counts)) h in
      record { rows = rows_of_keys (live_rows v.lives) parts.0; counts = counts_of_keys (count_rows v.counts) parts.1 }

  pub keys_have : (v : StateValue) → HasStateKeys P v → AllByRecursion P (keys_in v)
  keys_have v h =
      append_all P (flat_map path_of (live_rows v.lives)) (each key_of (count_rows v.counts)) (keys_of_rows (live_rows v.lives) h.rows) (keys_of_counts (count_rows v.counts) h.counts)

-- ---- they are text

text_path : (keys : List (List ℕ)) → list_all is_key_text keys ≡ true → AllByRecursion IsKeyText keys
text_path [] h = tt
text_path (k ∷ keys) h = (and_left (is_key_text k) _ h, text_path keys (and_right (is_key_text k) _ h))

path_text : (keys : List (List ℕ)) → AllByRecursion IsKeyText keys → list_all is_key_text keys ≡ true
path_text [] h = refl
path_text (k ∷ keys) h = and_true _ _ h.0 (path_text keys h.1)

text_rows : (rows : List (Dot × Entry)) → AllByRecursion IsLiveRow rows → AllByRecursion (HasKeys IsKeyText) rows
text_rows [] h = tt
text_rows (row ∷ rows) h = (text_path row.1.path h.0.0, text_rows rows h.1)

text_counts : (replicas : ℕ) (rows : List CountRow) → AllByRecursion (IsCountRowOf replicas) rows → AllByRecursion (HasKey IsKeyText) rows
text_counts replicas [] h = tt
text_counts replicas (r ∷ rows) h = (h.0.0, text_counts replicas rows h.1)

counts_are : (replicas : ℕ) (m : Counted) → AreCountsOf replicas m → AllByRecursion (IsCountRowOf replicas) (count_rows m)
counts_are replicas m h =
    subst (AllByRecursion (IsCountRowOf replicas)) (sym (ap count_rows (sym h.value) ∙ count_rows-counts_of h.rows h.are_rows)) h.each_row

-- the keys of a state that has a text are text
pub state_keys : (replicas : ℕ) (v : StateValue) → IsStateOf replicas v → HasStateKeys IsKeyText v
state_keys replicas v is = record { rows = text_rows (live_rows v.lives) is.entries; counts = text_counts replicas (count_rows v.counts) (counts_are replicas v.counts is.counts) }

pub keys_are_texts : (replicas : ℕ) (v : StateValue) → IsStateOf replicas v → list_all is_key_text (keys_in v) ≡ true
keys_are_texts replicas v is = path_text (keys_in v) (keys_have IsKeyText v (state_keys replicas v is))

-- ---- they are text where those of the table are

had_by : (b : Bool) (k x : List ℕ) (xs : List (List ℕ)) → bytes_eq k x ≡ b → IsKeyText x → (has_key xs k ≡ true → IsKeyText k) → (b || has_key xs k) ≡ true → IsKeyText k
had_by true k x xs e text later h = subst IsKeyText (sym (same_key k x e)) text
had_by false k x xs e text later h = later h

had_is_text : (table : List (List ℕ)) → AllByRecursion IsKeyText table → (k : List ℕ) → has_key table k ≡ true → IsKeyText k
had_is_text [] texts k h = absurd cc
had_is_text (x ∷ xs) texts k h =
    had_by (bytes_eq k x) k x xs refl texts.0 (had_is_text xs texts.1 k) (sym (head_has (bytes_eq k x) x xs k refl) ∙ h)

all_had : (table : List (List ℕ)) → AllByRecursion IsKeyText table → (keys : List (List ℕ)) → AreIn table keys → AllByRecursion IsKeyText keys
all_had table texts [] h = tt
all_had table texts (k ∷ keys) h = (had_is_text table texts k h.0, all_had table texts keys h.1)

pub by_table : (v : StateValue) → AllByRecursion IsKeyText (table_in v) → HasStateKeys IsKeyText v
by_table v texts = rows_have IsKeyText v (all_had (table_in v) texts (keys_in v) (table_has (keys_in v)))

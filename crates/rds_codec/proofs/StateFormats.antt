-- A state is a format, in each format.
use Rattle.std.proofs.Common.{◌≡◌, ℕ, ◌^◌, ◌<◌, ◌≤◌, true, List, [], ◌∷◌, ◌++◌, length, refl, sym, subst, arith, length-append}
use Rattle.std.specs.List.{AllByRecursion}
use Rattle.std.specs.Cmp.Lexicographic.{pointwise_decides}
use Rattle.std.proofs.lemmas.Slice.Eq.{bytes_eq-Decides}
use Rattle.rds_names.specs.declared.entry.Entry.{Entry}
use Rattle.rds_dots.specs.declared.dot.Dot.{Dot}
use Rattle.rds_dots.specs.Dots.{Dots}
use Rattle.rds_life.specs.Life.{Lived, lives_of, seen_of, live_rows}
use Rattle.rds_life.proofs.Views.{rows_of_lives, lived_of_parts, seen_of-lives_of, live_rows-lives_of}
use Rattle.rds_counts.specs.Counted.{Counted}
use Rattle.rds_counts.specs.RowsOf.{count_rows}
use Rattle.rds_state.specs.Value.{StateValue}
use Rattle.rds_bytes.specs.Reading as read
use Rattle.rds_bytes.specs.Reading.{Reader, then_at, pair_at, when_at, key_at}
use Rattle.rds_bytes.specs.Spelling.{short_text, dots_text, counts_text, keyed_live_row_text, keyed_live_rows_text, keyed_count_row_text, keyed_counters_text}
use Rattle.rds_bytes.specs.Table.{IsTable}
use Rattle.rds_bytes.specs.TableTexts.{table_text, number_text, table_at, numbered_at}
use Rattle.rds_bytes.specs.Tabled.{CanCount, IsShortTable, IsKeyOf}
use Rattle.rds_bytes.specs.Values.{is_key_text, AreDotsOf, HasKeys, IsKeyText, IsLiveRow}
use Rattle.rds_bytes.proofs.CounterFormats.{AreCountsWith, keyed_counters_format}
use Rattle.rds_bytes.proofs.DotFormats.{CanCountDots, AreDots, dots_format}
use Rattle.rds_bytes.proofs.Format.{IsFormat, pair_format, then_format, made_format, when_format, refit}
use Rattle.rds_bytes.proofs.LiveFormats.{AreLiveOf, CanCountRows, keyed_live_format}
use Rattle.rds_bytes.proofs.PartFormats.{key_format}
use Rattle.rds_bytes.proofs.TabledFormats.{has_all}
use Rattle.rds_bytes.proofs.TableFormats.{table_format, numbered_format}
use Rattle.rds_bytes.proofs.TableLaws.{table_differs, table_has, table_all}
use Rattle.rds_codec.specs.declared.formats.Format.{Format}
use Rattle.rds_codec.specs.declared.formats.Format.TheVariants.{One, Two}
use Rattle.rds_codec.specs.declared.limits.TheConstants.{LIMIT}
use Rattle.rds_codec.specs.StateTexts.{StateParts, IsStateOf, state_by, keys_in, table_in, body_text, state_text_in, TableParts, has_its_table, without_table, body_at, state_at_in}
use Rattle.rds_codec.proofs.StateKeys.{HasStateKeys, rows_have, state_keys, keys_are_texts}
use Rattle.rds_codec.proofs.Within.{longer, dots_within}

abbrev Tail : Type 0
Tail = List (Dot × Entry) × Counted

abbrev parts_of : StateValue → StateParts
parts_of v = (seen_of v.lives, (live_rows v.lives, v.counts))

-- its rows can be counted in their fields
pub record CanCountState (v : StateValue) : Type 0 where
  pub dots : CanCountDots (seen_of v.lives)
  pub rows : CanCountRows (live_rows v.lives)
  pub counts : length (count_rows v.counts) < 2 ^ 32

-- the same, and each of its keys is of a kind
record FitsBody (IsKey : List ℕ → Type 0) (replicas : ℕ) (v : StateValue) : Type 0 where
  is_state : IsStateOf replicas v
  can_count : CanCountState v
  keys : HasStateKeys IsKey v

same_state : (v : StateValue) (l : Lived) → l ≡ v.lives → (let w : StateValue = record { lives = l; counts = v.counts } in w) ≡ v
same_state v l e i = record { lives = e i; counts = v.counts }

-- ---- the parts, for a format of their keys

module _ (key : Reader (List ℕ)) (key_text : List ℕ → List ℕ) (IsKey : List ℕ → Type 0) (are_texts : (k : List ℕ) → IsKey k → IsKeyText k) (key_is : IsFormat key key_text IsKey) (replicas : ℕ) where
  abbrev tail_at : Dots → Reader Tail
  tail_at s = pair_at (read.keyed_live_rows_at key s) (read.keyed_counters_at key replicas)

  abbrev tail_text : Dots → Tail → List ℕ
  tail_text s p = keyed_live_rows_text key_text p.0 ++ keyed_counters_text key_text p.1

  abbrev IsTail : Dots → Tail → Type 0
  IsTail s p = AreLiveOf IsKey s p.0 × AreCountsWith IsKey replicas p.1

  tail_format : (s : Dots) → AreDots replicas s → IsFormat (tail_at s) (tail_text s) (IsTail s)
  tail_format s fits =
      pair_format _ _ _ _ _ _ (keyed_live_format key key_text IsKey are_texts key_is s (λ d h. (fits.0 d h).0)) (keyed_counters_format key key_text IsKey are_texts key_is replicas)

  abbrev body_parts_text : StateParts → List ℕ
  body_parts_text b = dots_text b.0 ++ tail_text b.0 b.1

  abbrev AreBodyParts : StateParts → Type 0
  AreBodyParts b = AreDots replicas b.0 × IsTail b.0 b.1

  parts_format : IsFormat (then_at (read.dots_at replicas) tail_at) body_parts_text AreBodyParts
  parts_format = then_format (read.dots_at replicas) tail_at dots_text tail_text (AreDots replicas) IsTail (dots_format replicas) tail_format

  body_there : (v : StateValue) → FitsBody IsKey replicas v → AreBodyParts (parts_of v) × (state_by (parts_of v) ≡ v)
  body_there v h =
      let is = h.is_state in
      let can = h.can_count in (
        (
          (is.dots, can.dots),
          (((can.rows, (rows_of_lives v.lives, is.entries)), h.keys.rows), ((is.counts, can.counts), h.keys.counts)),
        ),
        same_state v (lives_of (seen_of v.lives) (live_rows v.lives)) (lived_of_parts v.lives),
      )

  body_back : (p : StateParts) → AreBodyParts p → FitsBody IsKey replicas (state_by p) × (parts_of (state_by p) ≡ p)
  body_back p h =
      let s = p.0 in
      let rows = p.1.0 in
      let dots = h.0 in
      let are = h.1.0.0 in
      let counts = h.1.1 in
      let seen = seen_of-lives_of s rows in
      let live = live_rows-lives_of s rows are.1.0 in
      let is : IsStateOf replicas (state_by p) = record {
        dots = subst (AreDotsOf replicas) (sym seen) dots.0;
        entries = subst (AllByRecursion IsLiveRow) (sym live) are.1.1;
        counts = counts.0.0;
      } in
      let can : CanCountState (state_by p) = record { dots = subst CanCountDots (sym seen) dots.1; rows = subst CanCountRows (sym live) are.0; counts = counts.0.1 } in
      let keys : HasStateKeys IsKey (state_by p) = record { rows = subst (AllByRecursion (HasKeys IsKey)) (sym live) h.1.0.1; counts = counts.1 } in
      (record { is_state = is; can_count = can; keys = keys }, (λ i. (seen i, (live i, p.1.1))))

  body_format : IsFormat (body_at key replicas) (body_text key_text) (FitsBody IsKey replicas)
  unfolding body_at body_text
  body_format = made_format state_by parts_of _ body_parts_text AreBodyParts (FitsBody IsKey replicas) body_there body_back parts_format

-- ---- format 1

abbrev FitsOne : ℕ → StateValue → Type 0
FitsOne replicas v = IsStateOf replicas v × CanCountState v

one_format : (replicas : ℕ) → IsFormat (state_at_in One replicas) (state_text_in One) (FitsOne replicas)
unfolding state_at_in state_text_in
one_format replicas =
    refit _ _ (FitsBody IsKeyText replicas) (FitsOne replicas) (λ v h. (h.is_state, h.can_count))
    (λ v h. record { is_state = h.0; can_count = h.1; keys = state_keys replicas v h.0 })
    (body_format key_at short_text IsKeyText (λ k h. h) key_format replicas)

-- ---- format 2

-- its rows and its keys can be counted in their fields
pub record CanCountTwo (v : StateValue) : Type 0 where
  pub state : CanCountState v
  pub keys : CanCount (table_in v)

abbrev FitsTwo : ℕ → StateValue → Type 0
FitsTwo replicas v = IsStateOf replicas v × CanCountTwo v

abbrev table_parts_text : TableParts → List ℕ
table_parts_text p = table_text p.0 ++ body_text (number_text p.0) p.1

abbrev AreTableParts : ℕ → TableParts → Type 0
AreTableParts replicas p = IsShortTable p.0 × FitsBody (IsKeyOf p.0) replicas p.1

abbrev body_of : ℕ → List (List ℕ) → Reader StateValue
body_of replicas table = body_at (numbered_at table) replicas

table_parts_format : (replicas : ℕ) → IsFormat (then_at table_at (body_of replicas)) table_parts_text (AreTableParts replicas)
table_parts_format replicas =
    then_format table_at (body_of replicas) table_text (λ table. body_text (number_text table)) IsShortTable (λ table. FitsBody (IsKeyOf table) replicas) table_format
    (λ table is. body_format (numbered_at table) (number_text table) (IsKeyOf table) (λ k h. has_all is_key_text table k is.1.texts h) (numbered_format table is.0 is.1) replicas)

abbrev with_table : StateValue → TableParts
with_table v = (table_in v, v)

table_of_state : (replicas : ℕ) (v : StateValue) → IsStateOf replicas v → IsTable (table_in v)
table_of_state replicas v is = record { texts = table_all is_key_text (keys_in v) (keys_are_texts replicas v is); differ = table_differs (keys_in v) }

two_there : (replicas : ℕ) (v : StateValue) → FitsTwo replicas v → (AreTableParts replicas (with_table v) × (has_its_table (with_table v) ≡ true)) × (v ≡ v)
two_there replicas v h =
    let keys = rows_have (IsKeyOf (table_in v)) v (table_has (keys_in v)) in
    let parts : AreTableParts replicas (with_table v) = ((h.1.keys, table_of_state replicas v h.0), record { is_state = h.0; can_count = h.1.state; keys = keys }) in
    ((parts, (pointwise_decides bytes_eq-Decides (table_in v) (table_in v)).1 refl), refl)

two_back : (replicas : ℕ) (p : TableParts) → AreTableParts replicas p × (has_its_table p ≡ true) → FitsTwo replicas p.1 × (with_table p.1 ≡ p)
two_back replicas p h =
    let same : table_in p.1 ≡ p.0 = (pointwise_decides bytes_eq-Decides (table_in p.1) p.0).0 h.1 in
    let fits = h.0.1 in
    ((fits.is_state, record { state = fits.can_count; keys = subst CanCount (sym same) h.0.0.0 }), (λ i. (same i, p.1)))

two_format : (replicas : ℕ) → IsFormat (state_at_in Two replicas) (state_text_in Two) (FitsTwo replicas)
unfolding state_at_in state_text_in
two_format replicas =
    made_format without_table with_table (when_at has_its_table (then_at table_at (body_of replicas))) table_parts_text (λ p. AreTableParts replicas p × (has_its_table p ≡ true)) (FitsTwo replicas) (two_there replicas)
    (two_back replicas) (when_format has_its_table _ _ _ (table_parts_format replicas))

-- ---- within the limit

keys_within : (table : List (List ℕ)) → length (table_text table) ≤ LIMIT → CanCount table
unfolding table_text
keys_within table le = let e = longer short_text (λ k. omega arith) table in omega arith

rows_within : (key_text : List ℕ → List ℕ) (rows : List (Dot × Entry)) → length (keyed_live_rows_text key_text rows) ≤ LIMIT → length rows < 2 ^ 32
rows_within key_text rows le = let e = longer (keyed_live_row_text key_text) (λ row. omega arith) rows in omega arith

counts_within : (key_text : List ℕ → List ℕ) (m : Counted) → length (keyed_counters_text key_text m) ≤ LIMIT → length (count_rows m) < 2 ^ 32
unfolding keyed_counters_text
counts_within key_text m le =
    let e = longer (keyed_count_row_text key_text) (λ r. (let a = length-append (key_text r.key ++ (r.replica ∷ [])) (counts_text r.p r.n) in omega arith)) (count_rows m) in omega arith

body_within : (key_text : List ℕ → List ℕ) (v : StateValue) → length (body_text key_text v) ≤ LIMIT → CanCountState v
unfolding body_text
body_within key_text v le =
    let dots = dots_text (seen_of v.lives) in
    let rows = keyed_live_rows_text key_text (live_rows v.lives) in
    let counts = keyed_counters_text key_text v.counts in
    let a = length-append dots (rows ++ counts) in
    let b = length-append rows counts in
    record { dots = dots_within (seen_of v.lives) (omega arith); rows = rows_within key_text (live_rows v.lives) (omega arith); counts = counts_within key_text v.counts (omega arith) }

pub one_within : (v : StateValue) → length (state_text_in One v) ≤ LIMIT → CanCountState v
unfolding state_text_in
one_within v le = body_within short_text v le

pub two_within : (v : StateValue) → length (state_text_in Two v) ≤ LIMIT → CanCountTwo v
unfolding state_text_in
two_within v le =
    let a = length-append (table_text (table_in v)) (body_text (number_text (table_in v)) v) in
    record { state = body_within (number_text (table_in v)) v (omega arith); keys = keys_within (table_in v) (omega arith) }

-- ---- in each format

abbrev pub CanCountIn : Format → StateValue → Type 0
CanCountIn One = CanCountState
CanCountIn Two = CanCountTwo

abbrev pub FitsIn : Format → ℕ → StateValue → Type 0
FitsIn f n v = IsStateOf n v × CanCountIn f v

pub state_in_format : (f : Format) (n : ℕ) → IsFormat (state_at_in f n) (state_text_in f) (FitsIn f n)
state_in_format One = one_format
state_in_format Two = two_format

pub state_in_within : (f : Format) (v : StateValue) → length (state_text_in f v) ≤ LIMIT → CanCountIn f v
state_in_within One = one_within
state_in_within Two = two_within

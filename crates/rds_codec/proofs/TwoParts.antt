-- A table, and the parts that are read one after the other by its numbers.
use Rattle.std.proofs.Common.{◌≡◌, ℕ, Bool, true, false, cond, List, Result, Ok, Err, refl, ap, ◌∙◌}
use Rattle.rds_names.specs.declared.entry.Entry.{Entry}
use Rattle.rds_names.specs.declared.fault.Fault.{Fault}
use Rattle.rds_names.specs.declared.fault.Fault.TheVariants.{Bad}
use Rattle.rds_dots.specs.declared.dot.Dot.{Dot}
use Rattle.rds_dots.specs.Dots.{Dots}
use Rattle.rds_life.specs.Life.{lives_of}
use Rattle.rds_counts.specs.Counted.{Counted}
use Rattle.rds_state.specs.Value.{StateValue}
use Rattle.rds_bytes.specs.Reading.{◌>>=◌, Reader, pair_at, dots_at, keyed_live_rows_at, keyed_counters_at}
use Rattle.rds_bytes.specs.TableTexts.{table_at, numbered_at}
use Rattle.rds_codec.specs.StateTexts.{StateParts, TableParts as TextParts, state_by, has_its_table, without_table, body_at, state_at_in}
use Rattle.rds_feeds.specs.Chained.{chain}
use Rattle.rds_feeds.specs.Numbered.{TabledLives, TabledParts, has_own_table}
use Rattle.rds_feeds.specs.Parts.{makes}
use Rattle.rds_codec.specs.FormatTwo.{lives_after, counters_after, state_with_table}
use Rattle.rds_codec.specs.declared.formats.Format.TheVariants.{Two}
use Rattle.rds_codec.proofs.Parts.{pair_same}

abbrev Table : Type 0
Table = List (List ℕ)

abbrev Rows : Type 0
Rows = List (Dot × Entry)

-- ---- the parts

module _ (replicas : ℕ) where
  -- as they are read one after the other
  abbrev with_dots : Table → Dots × List ℕ → Result ((Table × Dots) × List ℕ) Fault
  with_dots t s = Ok ((t, s.0), s.1)

  abbrev then_dots : Table × List ℕ → Result ((Table × Dots) × List ℕ) Fault
  then_dots t = dots_at replicas t.1 >>= with_dots t.0

  abbrev with_rows : Table → Dots → Rows × List ℕ → Result (TabledLives × List ℕ) Fault
  with_rows t s r = Ok ((t, lives_of s r.0), r.1)

  abbrev then_lives : (Table × Dots) × List ℕ → Result (TabledLives × List ℕ) Fault
  then_lives p = lives_after p.0 p.1

  abbrev with_counts : TabledLives → Counted × List ℕ → Result (TabledParts × List ℕ) Fault
  with_counts l c = Ok ((l.0, (l.1, c.0)), c.1)

  abbrev then_counts : TabledLives × List ℕ → Result (TabledParts × List ℕ) Fault
  then_counts l = counters_after replicas l.0 l.1

  abbrev made : TabledParts × List ℕ → Result (StateValue × List ℕ) Fault
  made x = state_with_table x.0 >>= λ w. Ok (w, x.1)

  -- as a text has them
  abbrev rows_counts : Rows → Counted × List ℕ → Result ((Rows × Counted) × List ℕ) Fault
  rows_counts r c = Ok ((r, c.0), c.1)

  abbrev rows_then : Table → Rows × List ℕ → Result ((Rows × Counted) × List ℕ) Fault
  rows_then t r = keyed_counters_at (numbered_at t) replicas r.1 >>= rows_counts r.0

  abbrev dots_beside : Dots → (Rows × Counted) × List ℕ → Result (StateParts × List ℕ) Fault
  dots_beside s p = Ok ((s, p.0), p.1)

  abbrev dots_then : Table → Dots × List ℕ → Result (StateParts × List ℕ) Fault
  dots_then t s = (keyed_live_rows_at (numbered_at t) s.0 s.1 >>= rows_then t) >>= dots_beside s.0

  abbrev by_parts : StateParts × List ℕ → Result (StateValue × List ℕ) Fault
  by_parts p = Ok (state_by p.0, p.1)

  abbrev table_beside : Table → StateValue × List ℕ → Result (TextParts × List ℕ) Fault
  table_beside t v = Ok ((t, v.0), v.1)

  abbrev table_then : Table × List ℕ → Result (TextParts × List ℕ) Fault
  table_then t = body_at (numbered_at t.0) replicas t.1 >>= table_beside t.0

  abbrev tested : TextParts × List ℕ → Result (TextParts × List ℕ) Fault
  tested p = cond (has_its_table p.0) (Ok p) (Err Bad)

  abbrev alone : TextParts × List ℕ → Result (StateValue × List ℕ) Fault
  alone p = Ok (without_table p.0, p.1)

  -- the test is the same
  abbrev made_by : Bool → StateValue → List ℕ → Result (StateValue × List ℕ) Fault
  made_by b v rest = cond b (Ok v) (Err Bad) >>= λ w. Ok (w, rest)

  abbrev tested_by : Bool → Table → StateValue → List ℕ → Result (StateValue × List ℕ) Fault
  tested_by b t v rest = cond b (Ok ((t, v), rest)) (Err Bad) >>= alone

  same_test : (b : Bool) (t : Table) (v : StateValue) (rest : List ℕ) → made_by b v rest ≡ tested_by b t v rest
  same_test true t v rest = refl
  same_test false t v rest = refl

  after_counts : (t : Table) (s : Dots) (r : Rows) (c : Result (Counted × List ℕ) Fault)
      → ((c >>= with_counts (t, lives_of s r)) >>= made) ≡ ((((((c >>= rows_counts r) >>= dots_beside s) >>= by_parts) >>= table_beside t) >>= tested) >>= alone)
  after_counts t s r (Ok c) = same_test (has_own_table (t, (lives_of s r, c.0))) t (state_by (s, (r, c.0))) c.1
  after_counts t s r (Err e) = refl

  after_rows : (t : Table) (s : Dots) (r : Result (Rows × List ℕ) Fault)
      → (((r >>= with_rows t s) >>= then_counts) >>= made) ≡ ((((((r >>= rows_then t) >>= dots_beside s) >>= by_parts) >>= table_beside t) >>= tested) >>= alone)
  after_rows t s (Ok r) = after_counts t s r.0 (keyed_counters_at (numbered_at t) replicas r.1)
  after_rows t s (Err e) = refl

  after_dots : (t : Table) (d : Result (Dots × List ℕ) Fault)
      → ((((d >>= with_dots t) >>= then_lives) >>= then_counts) >>= made) ≡ (((((d >>= dots_then t) >>= by_parts) >>= table_beside t) >>= tested) >>= alone)
  after_dots t (Ok s) = after_rows t s.0 (keyed_live_rows_at (numbered_at t) s.0 s.1)
  after_dots t (Err e) = refl

  after_table : (t : Result (Table × List ℕ) Fault)
      → ((((t >>= then_dots) >>= then_lives) >>= then_counts) >>= made) ≡ (((t >>= table_then) >>= tested) >>= alone)
  unfolding body_at
  after_table (Ok t) = after_dots t.0 (dots_at replicas t.1)
  after_table (Err e) = refl

  abbrev after_keys : Result ((Table × Dots) × List ℕ) Fault → Result (StateValue × List ℕ) Fault
  after_keys x = ((x >>= then_lives) >>= then_counts) >>= made

  pub two_read : (table : Reader Table) (dots : Reader Dots) (keys : Reader (Table × Dots)) → ((bytes : List ℕ) → table bytes ≡ table_at bytes)
      → ((bytes : List ℕ) → dots bytes ≡ dots_at replicas bytes) → ((bytes : List ℕ) → keys bytes ≡ pair_at table dots bytes)
      → (bytes : List ℕ) → makes (chain (chain keys lives_after) (counters_after replicas)) state_with_table bytes ≡ state_at_in Two replicas bytes
  unfolding state_at_in
  two_read table dots keys first second are bytes =
      ap after_keys (are bytes ∙ pair_same table table_at dots (dots_at replicas) first second bytes) ∙ after_table (table_at bytes)

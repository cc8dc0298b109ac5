-- The keys of a table that share their fronts, read one by one.
use Rattle.std.specs.List.{list_any}
use Rattle.std.specs.Str.{bytes_eq}
use Rattle.std.proofs.Common.{◌≡◌, ℕ, not, cond, Bool, true, false, List, [], ◌∷◌, ◌++◌, Result, Ok, Err, refl, ap, sym, subst, ◌∙◌}
use Rattle.std.specs.Prelude.{◌^◌, nat_lt}
use Rattle.rds_names.specs.declared.fault.Fault.{Fault}
use Rattle.rds_names.specs.declared.fault.Fault.TheVariants.{Memory, Bad}
use Rattle.rds_bytes.specs.Marks.{mark}
use Rattle.rds_bytes.specs.Packed.{packed_at}
use Rattle.rds_bytes.specs.Reading.{◌>>=◌, Reader, Fails, made_at, is_new, last}
use Rattle.rds_bytes.specs.Table.{has_key}
use Rattle.rds_bytes.proofs.TableLaws.{not_had, has_turned}
use Rattle.rds_feeds.specs.Chained.{chain}
use Rattle.rds_feeds.specs.MarkedKeys.{marked}
use Rattle.rds_feeds.specs.Parts.{WasRead, makes}
use Rattle.rds_feeds.specs.WasRead.{made_read, when_read}
use Rattle.rds_packed.specs.FrontSteady.{marked_front_at}
use Rattle.rds_packed.specs.FrontTexts.{front_key_at, or_nothing, new_front_at, packed_table_at}
use Rattle.rds_packed.proofs.Loops.{fails_on}
use Rattle.rds_packed.proofs.RowsRead.{rows_where, rows_read}

-- ---- a key that is new to a table

abbrev judged : List ℕ → List ℕ → Bool → Result (List ℕ × List ℕ) Fault
judged key rest b = cond (not b) (Ok (key, rest)) (Err Bad)

new_is : (table : List (List ℕ)) (key : List ℕ) (rest : List ℕ) (b : Bool) → has_key table key ≡ b → judged key rest (list_any (λ n. bytes_eq n key) table) ≡ judged key rest b
new_is table key rest b e = ap (judged key rest) (has_turned table key ∙ e)

module _ (table : List (List ℕ)) (bytes : List ℕ) where
  abbrev read_after : Reader (List ℕ)
  read_after = front_key_at (or_nothing (last table))

  pub key_fails : (e : Fault) → Fails e (read_after bytes) → Fails e (new_front_at table bytes)
  unfolding new_front_at
  key_fails e h = fails_on e (read_after bytes) (new_front_at table bytes) (λ is. rw is refl) h

  pub key_is_new : (key rest : List ℕ) → read_after bytes ≡ Ok (key, rest) → has_key table key ≡ false → new_front_at table bytes ≡ Ok (key, rest)
  unfolding new_front_at
  key_is_new key rest read new = rw read (new_is table key rest false new)

  pub key_is_old : (key rest : List ℕ) → read_after bytes ≡ Ok (key, rest) → has_key table key ≡ true → new_front_at table bytes ≡ Err Bad
  unfolding new_front_at
  key_is_old key rest read old = rw read (new_is table key rest true old)

-- ---- a key and its mark

abbrev and_marked : List ℕ × List ℕ → Result ((List ℕ × ℕ) × List ℕ) Fault
and_marked a = Ok (marked a.0, a.1)

module _ (keys : List (List ℕ)) (bytes : List ℕ) where
  pub marked_fails : (e : Fault) → Fails e (new_front_at keys bytes) → Fails e (marked_front_at keys bytes)
  marked_fails Memory h = tt
  marked_fails _ h = ap (λ (r : Result (List ℕ × List ℕ) Fault). r >>= and_marked) h

  pub marked_bad : new_front_at keys bytes ≡ Err Bad → marked_front_at keys bytes ≡ Err Bad
  marked_bad h = ap (λ (r : Result (List ℕ × List ℕ) Fault). r >>= and_marked) h

  pub marked_found : (key rest : List ℕ) (m : ℕ) → m ≡ mark key → new_front_at keys bytes ≡ Ok (key, rest) → marked_front_at keys bytes ≡ Ok ((key, m), rest)
  marked_found key rest m is h = ap (λ (r : Result (List ℕ × List ℕ) Fault). r >>= and_marked) h ∙ ap (λ (n : ℕ). Ok ((key, n), rest)) (sym is)

module _ (keys : List (List ℕ)) (read : List ℕ × ℕ) (was : WasRead (marked_front_at keys) read) where
  pub its_mark : read.1 ≡ mark read.0
  its_mark = (let made = made_read marked (new_front_at keys) was.0 read was.1 was.2 in subst (λ (k : List ℕ × ℕ). k.1 ≡ mark k.0) made.2 refl)

  pub was_new : has_key keys read.0 ≡ false
  unfolding new_front_at
  was_new =
      let made = made_read marked (new_front_at keys) was.0 read was.1 was.2 in
      let new = by (has_key keys made.0) (not_had keys made.0 ∙ (when_read (is_new keys) (front_key_at (or_nothing (last keys))) was.0 made.0 was.1 made.1).1) in
      subst (λ (k : List ℕ × ℕ). has_key keys k.0 ≡ false) made.2 new
    where
      by : (b : Bool) → not b ≡ true → b ≡ false
      by false e = refl
      by true e = sym e

-- ---- the table

abbrev pub with_key : List (List ℕ) → List ℕ → List (List ℕ)
with_key keys key = keys ++ key ∷ []

abbrev pub next_key : List (List ℕ) → Reader (List (List ℕ))
next_key keys = made_at (λ read. with_key keys read.0) (marked_front_at keys)

abbrev and_put : List (List ℕ) → (List ℕ × ℕ) × List ℕ → Result (List (List ℕ) × List ℕ) Fault
and_put keys b = Ok (with_key keys b.0.0, b.1)

abbrev put_alone : List (List ℕ) → List ℕ × List ℕ → Result (List (List ℕ) × List ℕ) Fault
put_alone keys a = Ok (with_key keys a.0, a.1)

unmarked : (keys : List (List ℕ)) (r : Result (List ℕ × List ℕ) Fault) → ((r >>= and_marked) >>= and_put keys) ≡ (r >>= put_alone keys)
unmarked keys (Ok a) = refl
unmarked keys (Err e) = refl

pub next_same : (before : List (List ℕ)) (bytes : List ℕ) → next_key before bytes ≡ made_at (with_key before) (new_front_at before) bytes
next_same before bytes = unmarked before (new_front_at before bytes)

abbrev TableRead : Type 0
TableRead = List (List ℕ) × List ℕ

abbrev as_it_is : TableRead → Result TableRead Fault
as_it_is x = Ok (x.0, x.1)

kept : (r : Result TableRead Fault) → (r >>= as_it_is) ≡ r
kept (Ok x) = refl
kept (Err e) = refl

pub table_read : (started : Reader ℕ) → ((bytes : List ℕ) → started bytes ≡ packed_at bytes) → (bytes : List ℕ)
    → makes (chain started (λ n. rows_where new_front_at next_key (λ keys. keys) next_same n (nat_lt n (2 ^ 32)))) (λ keys. Ok keys) bytes ≡ packed_table_at bytes
unfolding packed_table_at
table_read started is bytes = rows_read new_front_at next_key (λ keys. keys) next_same (λ keys. keys) started packed_at is bytes ∙ kept (packed_table_at bytes)

-- The keys of a table, read one by one.
use Rattle.std.proofs.Common.{◌≡◌, ℕ, not, Bool, true, false, List, [], ◌∷◌, ◌++◌, Result, Ok, Err, refl, ap, sym, subst, ◌∙◌}
use Rattle.std.specs.Int.{w32}
use Rattle.rds_names.specs.declared.fault.Fault.{Fault}
use Rattle.rds_names.specs.declared.fault.Fault.TheVariants.{Memory, Bad}
use Rattle.rds_bytes.specs.Marks.{mark}
use Rattle.rds_bytes.specs.Reading.{◌>>=◌, Reader, Fails, made_at, list_at, number_at, is_new, key_at}
use Rattle.rds_bytes.specs.Table.{has_key}
use Rattle.rds_bytes.specs.TableTexts.{new_key_at, table_at}
use Rattle.rds_bytes.proofs.TableLaws.{not_had}
use Rattle.rds_feeds.specs.MarkedKeys.{marked, marked_key_at}
use Rattle.rds_feeds.specs.Parts.{WasRead, makes}
use Rattle.rds_feeds.specs.Rows.{many}
use Rattle.rds_feeds.specs.WasRead.{made_read, when_read}
use Rattle.rds_feeds.proofs.Lists.{many_are_list}

-- ---- a key and its mark

abbrev and_marked : List ℕ × List ℕ → Result ((List ℕ × ℕ) × List ℕ) Fault
and_marked a = Ok (marked a.0, a.1)

module _ (keys : List (List ℕ)) (bytes : List ℕ) where
  pub marked_fails : (e : Fault) → Fails e (new_key_at keys bytes) → Fails e (marked_key_at keys bytes)
  marked_fails Memory h = tt
  marked_fails _ h = ap (λ (r : Result (List ℕ × List ℕ) Fault). r >>= and_marked) h

  pub marked_bad : new_key_at keys bytes ≡ Err Bad → marked_key_at keys bytes ≡ Err Bad
  marked_bad h = ap (λ (r : Result (List ℕ × List ℕ) Fault). r >>= and_marked) h

  pub marked_found : (key rest : List ℕ) (m : ℕ) → m ≡ mark key → new_key_at keys bytes ≡ Ok (key, rest) → marked_key_at keys bytes ≡ Ok ((key, m), rest)
  marked_found key rest m is h = ap (λ (r : Result (List ℕ × List ℕ) Fault). r >>= and_marked) h ∙ ap (λ (n : ℕ). Ok ((key, n), rest)) (sym is)

module _ (keys : List (List ℕ)) (read : List ℕ × ℕ) (was : WasRead (marked_key_at keys) read) where
  pub its_mark : read.1 ≡ mark read.0
  its_mark = (let made = made_read marked (new_key_at keys) was.0 read was.1 was.2 in subst (λ (k : List ℕ × ℕ). k.1 ≡ mark k.0) made.2 refl)

  pub was_new : has_key keys read.0 ≡ false
  unfolding new_key_at
  was_new =
      let made = made_read marked (new_key_at keys) was.0 read was.1 was.2 in
      let new = by (has_key keys made.0) (not_had keys made.0 ∙ (when_read (is_new keys) key_at was.0 made.0 was.1 made.1).1) in
      subst (λ (k : List ℕ × ℕ). has_key keys k.0 ≡ false) made.2 new
    where
      by : (b : Bool) → not b ≡ true → b ≡ false
      by false e = refl
      by true e = sym e

-- ---- the table

abbrev with_key : List (List ℕ) → List ℕ → List (List ℕ)
with_key keys key = keys ++ key ∷ []

abbrev next_key : List (List ℕ) → Reader (List (List ℕ))
next_key keys = made_at (λ read. with_key keys read.0) (marked_key_at keys)

abbrev and_put : List (List ℕ) → (List ℕ × ℕ) × List ℕ → Result (List (List ℕ) × List ℕ) Fault
and_put keys b = Ok (with_key keys b.0.0, b.1)

abbrev put_alone : List (List ℕ) → List ℕ × List ℕ → Result (List (List ℕ) × List ℕ) Fault
put_alone keys a = Ok (with_key keys a.0, a.1)

unmarked : (keys : List (List ℕ)) (r : Result (List ℕ × List ℕ) Fault) → ((r >>= and_marked) >>= and_put keys) ≡ (r >>= put_alone keys)
unmarked keys (Ok a) = refl
unmarked keys (Err e) = refl

abbrev TableRead : Type 0
TableRead = List (List ℕ) × List ℕ

abbrev as_it_is : TableRead → Result TableRead Fault
as_it_is x = Ok (x.0, x.1)

kept : (r : Result TableRead Fault) → ((r >>= as_it_is) >>= as_it_is) ≡ r
kept (Ok x) = refl
kept (Err e) = refl

pub table_read : (bytes : List ℕ) → makes (many w32 next_key []) (λ keys. Ok keys) bytes ≡ table_at bytes
unfolding table_at
table_read bytes =
    ap (λ (r : Result TableRead Fault). r >>= as_it_is) (many_are_list new_key_at next_key (λ keys. keys) (λ before bytes. unmarked before (new_key_at before bytes)) w32 bytes) ∙ kept (list_at (number_at w32) new_key_at bytes)

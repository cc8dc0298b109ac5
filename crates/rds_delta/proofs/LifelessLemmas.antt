-- What the first live dot from one on says of those between.
use Rattle.std.proofs.Common.{◌≡◌, ℕ, ◌+◌, ◌-◌, ◌<◌, ◌≤◌, true, false, cond, ◌&&◌, Bool, List, [], ◌∷◌, Option, Some}
use Rattle.std.proofs.Common.{None, refl, sym, ◌∙◌, ap, arith, leb}
use Rattle.std.specs.Prelude.{is_some}
use Rattle.std.specs.Ordering.{nat_cmp, ordering_then, is_eq, is_le, is_lt}
use Rattle.std.specs.Cmp.{tied_itself}
use Rattle.std.specs.FinMap as map
use Rattle.std.specs.FinMap.Entries.{find-where_key, is_sorted-where_key}
use Rattle.std.proofs.lemmas.Bool.Decides.{nat_tests}
use Rattle.rds_names.specs.Conditions.{and_true, and_left, less_of}
use Rattle.rds_names.specs.declared.entry.Entry.{Entry}
use Rattle.rds_dots.specs.declared.dot.Dot.{Dot}
use Rattle.rds_dots.specs.declared.dot.TheConstants.{MAX_SEQ}
use Rattle.rds_dots.specs.Ascending.{ascends}
use Rattle.rds_dots.specs.Dots.{dot_cmp, is_dot}
use Rattle.rds_dots.specs.Lacking.{dot_of}
use Rattle.rds_dots.specs.Merges.{above_trans}
use Rattle.rds_dots.specs.Order.{dots_total, dots_exact}
use Rattle.rds_life.specs.Life.{Lived, keys, live_rows}
use Rattle.rds_life.specs.Past.{rows_from, first_row}
use Rattle.rds_life.proofs.RowLemmas.{find_above, rise_of, sorted_of}
use Rattle.rds_life.proofs.Views.{rise-live_rows, find-live_rows}
use Rattle.rds_delta.specs.Next.{IsLifeless, is_live}

from_it : (a s n : ℕ) → s ≤ n → is_le (ordering_then (nat_cmp a a) (nat_cmp s n)) ≡ true
from_it a s n le = grind (arith, nat_tests)

before_it : (a n b m : ℕ) → a ≡ b → n < m → is_lt (ordering_then (nat_cmp a b) (nat_cmp n m)) ≡ true
before_it a n b m e lt = grind (arith, nat_tests)

before_replica : (a n b m : ℕ) → a < b → is_lt (ordering_then (nat_cmp a b) (nat_cmp n m)) ≡ true
before_replica a n b m lt = grind (arith, nat_tests)

later_seq : (a s b n : ℕ) → a ≡ b → is_le (ordering_then (nat_cmp a b) (nat_cmp s n)) ≡ true → s ≤ n
later_seq a s b n e le = grind (arith, nat_tests)

later_replica : (a s b n : ℕ) → (b ≡ a → ⊥) → is_le (ordering_then (nat_cmp a b) (nat_cmp s n)) ≡ true → a < b
later_replica a s b n other le = grind (arith, nat_tests)

most : (a n : ℕ) → (leb a 255 && leb 1 n && leb n 281474976710655) ≡ true → n ≤ 281474976710655
most a n h = grind (arith, nat_tests)

module _ (v : Lived) (d : Dot) where
  abbrev found : Dot → Option Entry
  found q = map.find dot_cmp q (rows_from d (live_rows v))

  lives_at : (q : Dot) → is_live v q ≡ is_some (map.find dot_cmp q (live_rows v))
  lives_at q = ap is_some (sym (find-live_rows v q))

  found_is : (q : Dot) → found q ≡ cond (is_le (dot_cmp d q)) (map.find dot_cmp q (live_rows v)) None
  found_is q = find-where_key dot_cmp (λ x. is_le (dot_cmp d x)) q (λ x t. ap (λ y. is_le (dot_cmp d y)) (sym (dots_exact q x t))) (live_rows v)

  found_from : (q : Dot) → is_le (dot_cmp d q) ≡ true → is_live v q ≡ is_some (found q)
  found_from q le = lives_at q ∙ sym (ap is_some (found_is q ∙ ap (λ b. cond b (map.find dot_cmp q (live_rows v)) None) le))

  rise : ascends (keys (rows_from d (live_rows v))) ≡ true
  rise = rise_of (rows_from d (live_rows v)) (is_sorted-where_key dot_cmp (λ x. is_le (dot_cmp d x)) (live_rows v) (sorted_of (live_rows v) (rise-live_rows v)))

  none_is : (rows : List (Dot × Entry)) → None ≡ first_row rows → rows ≡ []
  none_is [] h = refl
  none_is (r ∷ rows) h = cc

  -- no live dot from there on
  pub none_later : is_dot d ≡ true → None ≡ first_row (rows_from d (live_rows v)) → IsLifeless v d MAX_SEQ
  none_later one none = record {
    from = most d.replica d.seq one;
    none = λ n p q. found_from (dot_of d.replica n) (from_it d.replica d.seq n p) ∙ ap (λ rows. is_some (map.find dot_cmp (dot_of d.replica n) rows)) (none_is (rows_from d (live_rows v)) none);
    ends = λ lt. absurd (omega arith);
  }

  first_is : (rows : List (Dot × Entry)) (r : Dot × Entry) → Some r ≡ first_row rows → ascends (keys rows) ≡ true → (map.find dot_cmp r.0 rows ≡ Some r.1) × ((q : Dot) → is_lt (dot_cmp q r.0) ≡ true → map.find dot_cmp q rows ≡ None)
  first_is [] r h rises = cc
  first_is (x ∷ rows) r h rises =
      let is : r ≡ x = cc in (
        ap (λ y. map.find dot_cmp y.0 (x ∷ rows)) is ∙ ap (λ o. cond (is_eq o) (Some x.1) (map.find dot_cmp x.0 rows)) (tied_itself dots_total x.0) ∙ ap (λ y. Some y.1) (sym is),
        λ q lt. (let less = ap (λ y. is_lt (dot_cmp q y.0)) (sym is) ∙ lt in find_above q (x ∷ rows) (and_true _ _ less (above_trans q x.0 (less_of (dot_cmp q x.0) less) (keys rows) (and_left _ (ascends (keys rows)) rises)))),
      )

  module _ (next : Dot) (e : Entry) (first : Some (next, e) ≡ first_row (rows_from d (live_rows v))) where
    facts : (found next ≡ Some e) × ((q : Dot) → is_lt (dot_cmp q next) ≡ true → found q ≡ None)
    facts = first_is (rows_from d (live_rows v)) (next, e) first rise

    not_none : ¬ (None ≡ Some e)
    not_none h = cc

    from_d : (b : Bool) → is_le (dot_cmp d next) ≡ b → is_le (dot_cmp d next) ≡ true
    from_d true is = is
    from_d false is = absurd (not_none (sym (found_is next ∙ ap (λ b. cond b (map.find dot_cmp next (live_rows v)) None) is) ∙ facts.0))

    le : is_le (dot_cmp d next) ≡ true
    le = from_d (is_le (dot_cmp d next)) refl

    next_lives : is_live v next ≡ true
    next_lives = found_from next le ∙ ap is_some facts.0

    none_before : (n : ℕ) → d.seq ≤ n → is_lt (dot_cmp (dot_of d.replica n) next) ≡ true → is_live v (dot_of d.replica n) ≡ false
    none_before n p lt = found_from (dot_of d.replica n) (from_it d.replica d.seq n p) ∙ ap is_some (facts.1 (dot_of d.replica n) lt)

    -- it is the dot itself
    pub found_lives : next.replica ≡ d.replica → next.seq ≡ d.seq → is_live v d ≡ true
    found_lives same at = ap (is_live v) (sym ((λ i. dot_of (same i) (at i)))) ∙ next_lives

    pub follows : next.replica ≡ d.replica → (next.seq ≡ d.seq → ⊥) → d.seq < next.seq
    follows same other = let far = later_seq d.replica d.seq next.replica next.seq (sym same) le in omega (arith, far, other)

    -- it is of the same replica
    pub until_next : next.replica ≡ d.replica → (next.seq ≡ d.seq → ⊥) → IsLifeless v d (next.seq - 1)
    until_next same other =
        let lt = follows same other in
        let back : next.seq - 1 + 1 ≡ next.seq = omega arith in
        record {
          from = omega arith;
          none = λ n p q. none_before n p (before_it d.replica n next.replica next.seq (sym same) (omega arith));
          ends = λ _. ap (λ n. is_live v (dot_of d.replica n)) back ∙ ap (λ r. is_live v (dot_of r next.seq)) (sym same) ∙ next_lives;
        }

    -- or of a later one
    pub until_last : is_dot d ≡ true → (next.replica ≡ d.replica → ⊥) → IsLifeless v d MAX_SEQ
    until_last one other =
        let lt = later_replica d.replica d.seq next.replica next.seq other le in
        record {
          from = most d.replica d.seq one;
          none = λ n p q. none_before n p (before_replica d.replica n next.replica next.seq lt);
          ends = λ lt. absurd (omega arith);
        }

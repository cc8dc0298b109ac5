-- Rows that are added where a dot is unseen, and taken out again.
use Rattle.std.proofs.Common.{◌≡◌, Bool, true, false, not, ◌&&◌, cond, List, ◌∷◌, Option, Some, None, refl, sym, ◌∙◌}
use Rattle.std.proofs.Common.{ap, subst}
use mathlib.Core.Bool.{false≢true}
use Rattle.std.specs.Prelude.{is_some}
use Rattle.std.specs.List.{list_all}
use Rattle.std.specs.Ordering.{eq_by_cmp}
use Rattle.std.specs.FinMap as map
use Rattle.std.specs.FinMap.Entries.{find-put, find-where_key}
use Rattle.rds_names.specs.declared.entry.Entry.{Entry}
use Rattle.rds_names.specs.Conditions.{and_left, and_right}
use Rattle.rds_dots.specs.declared.dot.Dot.{Dot}
use Rattle.rds_dots.specs.Dots.{dot_cmp}
use Rattle.rds_dots.specs.Ascending.{is_above, ascends}
use Rattle.rds_dots.specs.Order.{dots_total, dots_exact}
use Rattle.rds_dots.specs.Sets.{tied_dots_are_one}
use Rattle.rds_life.specs.Added.{IsAdded, loss, gain, gone_rows, is_gone}
use Rattle.rds_life.specs.Joined.{rows_of_join}
use Rattle.rds_life.specs.Life.{keys}
use Rattle.rds_life.proofs.Joins.{pick, find-rows_of_join, ascends-rows_of_join}
use Rattle.rds_life.proofs.RowLemmas.{find_above, same_rows}

abbrev Rows : Type 0
Rows = List (Dot × Entry)

abbrev at : Dot → Rows → Option Entry
at d rows = map.find dot_cmp d rows

-- what is left to add leads to the whole
pub record IsAdding (seen : Dot → Bool) (other rest old now : Rows) : Type 0 where
  pub rise : ascends (keys rest) ≡ true
  pub within : (d : Dot) → is_some (at d other) ≡ false → at d rest ≡ None
  pub leads : (d : Dot) → gain (seen d) (at d now) (at d rest) ≡ gain (seen d) (at d old) (at d other)
  pub added : IsAdded seen other old now

module _ (seen : Dot → Bool) (other later old now : Rows) (row : Dot × Entry) where
  later_none : (d : Dot) → (b : Bool) → eq_by_cmp dot_cmp d row.0 ≡ b → cond b (Some row.1) (at d later) ≡ None → at d later ≡ None
  later_none d true is h = absurd (no_some row.1 h)
    where
      no_some : (e : Entry) → Some e ≡ None → ⊥
      no_some e h = cc
  later_none d false is h = h

  pub adding_puts : (rest put : Rows) → rest ≡ row ∷ later → IsAdding seen other rest old now → seen row.0 ≡ false → put ≡ map.put dot_cmp row.0 row.1 now → IsAdding seen other later old put
  adding_puts rest put split is unseen puts =
      let i : IsAdding seen other (row ∷ later) old now = subst (λ rows. IsAdding seen other rows old now) split is in
      record {
        rise = and_right (list_all (is_above row.0) (keys later)) _ i.rise;
        within = λ d none. later_none d (eq_by_cmp dot_cmp d row.0) refl (i.within d none);
        leads = λ d. ap (λ o. gain (seen d) o (at d later)) (found d) ∙ by i.rise d (eq_by_cmp dot_cmp d row.0) refl (i.leads d);
        added = record {
          seen_stay = λ d has. found d ∙ same_seen d has (eq_by_cmp dot_cmp d row.0) refl ∙ i.added.seen_stay d has;
          others_stay = λ d none. found d ∙ same_other d (i.within d none) (eq_by_cmp dot_cmp d row.0) refl ∙ i.added.others_stay d none;
        };
      }
    where
      found : (d : Dot) → at d put ≡ cond (eq_by_cmp dot_cmp d row.0) (Some row.1) (at d now)
      found d = ap (at d) puts ∙ find-put dot_cmp dots_total d row.0 row.1 now

      by : ascends (keys (row ∷ later)) ≡ true → (d : Dot) (b : Bool) → eq_by_cmp dot_cmp d row.0 ≡ b → gain (seen d) (at d now) (cond b (Some row.1) (at d later)) ≡ gain (seen d) (at d old) (at d other) → gain (seen d) (cond b (Some row.1) (at d now)) (at d later) ≡ gain (seen d) (at d old) (at d other)
      by rise d true is h =
          let s : seen d ≡ false = ap seen (tied_dots_are_one d row.0 is) ∙ unseen in
          let none : at d later ≡ None = ap (λ q. at q later) (tied_dots_are_one d row.0 is) ∙ find_above row.0 later (and_left _ (ascends (keys later)) rise) in
          ap (λ x. gain x (Some row.1) (at d later)) s ∙ ap (gain false (Some row.1)) none ∙ sym (ap (λ x. gain x (at d now) (Some row.1)) s) ∙ h
      by rise d false is h = h

      same_seen : (d : Dot) → seen d ≡ true → (b : Bool) → eq_by_cmp dot_cmp d row.0 ≡ b → cond b (Some row.1) (at d now) ≡ at d now
      same_seen d has true is = absurd (false≢true (sym unseen ∙ ap seen (sym (tied_dots_are_one d row.0 is)) ∙ has))
      same_seen d has false is = refl

      no_some : (e : Entry) → Some e ≡ None → ⊥
      no_some e h = cc

      same_other : (d : Dot) → at d (row ∷ later) ≡ None → (b : Bool) → eq_by_cmp dot_cmp d row.0 ≡ b → cond b (Some row.1) (at d now) ≡ at d now
      same_other d none true is = absurd (no_some row.1 (sym (ap (λ b. cond b (Some row.1) (at d later)) is) ∙ none))
      same_other d none false is = refl

-- ---- taking out

pub record IsDropping (seen : Dot → Bool) (other rest old now : Rows) : Type 0 where
  pub leads : (d : Dot) → loss (seen d) (is_some (at d rest)) (at d now) ≡ loss (seen d) (is_some (at d other)) (at d old)

module _ (seen : Dot → Bool) (other later old now : Rows) (row : Dot × Entry) where
  pub dropping_takes : (rest less : Rows) → rest ≡ row ∷ later → IsDropping seen other rest old now → seen row.0 ≡ false → ((d : Dot) → at d less ≡ cond (eq_by_cmp dot_cmp d row.0) None (at d now)) → IsDropping seen other later old less
  dropping_takes rest less split is unseen found = record { leads = λ d. ap (loss (seen d) (is_some (at d later))) (found d) ∙ by d (eq_by_cmp dot_cmp d row.0) refl ((subst (λ rows. IsDropping seen other rows old now) split is).leads d) }
    where
      twice : (b : Bool) → cond (not false && b) None None ≡ cond (not false && true) None (at row.0 now)
      twice true = refl
      twice false = refl

      by : (d : Dot) (b : Bool) → eq_by_cmp dot_cmp d row.0 ≡ b → loss (seen d) (is_some (cond b (Some row.1) (at d later))) (at d now) ≡ loss (seen d) (is_some (at d other)) (at d old) → loss (seen d) (is_some (at d later)) (cond b None (at d now)) ≡ loss (seen d) (is_some (at d other)) (at d old)
      by d true is h =
          let s : seen d ≡ false = ap seen (tied_dots_are_one d row.0 is) ∙ unseen in
          ap (λ x. loss x (is_some (at d later)) None) s ∙ twice (is_some (at d later)) ∙ sym (ap (λ x. loss x true (at d now)) s) ∙ h
      by d false is h = h

-- ---- what was put in is taken out again

pub undone : (seen : Dot → Bool) (other old mid new : Rows) → ((d : Dot) → seen d ≡ false → at d old ≡ None) → ascends (keys old) ≡ true → ascends (keys new) ≡ true → IsAdded seen other old mid → ((d : Dot) → at d new ≡ loss (seen d) (is_some (at d other)) (at d mid)) → new ≡ old
undone seen other old mid new absent rise_old rise_new added out = same_rows new old rise_new rise_old (λ d. out d ∙ by d (seen d) refl (is_some (at d other)) refl)
  where
    by : (d : Dot) (s : Bool) → seen d ≡ s → (h : Bool) → is_some (at d other) ≡ h → cond (not s && h) None (at d mid) ≡ at d old
    by d true is h has = added.seen_stay d is
    by d false is true has = sym (absent d is)
    by d false is false has = added.others_stay d has

-- ---- what was added, without the rows that are gone from here, is the join

find_gone : (t : Dot → Bool) (other old : Rows) (d : Dot) → at d (gone_rows t other old) ≡ cond (is_gone t other d) (at d old) None
find_gone t other old d = find-where_key dot_cmp (is_gone t other) d (λ x is. ap (is_gone t other) (sym (dots_exact d x is))) old

joined_at : (s t : Bool) (o f : Option Entry) → (s ≡ false → o ≡ None) → loss false (is_some (cond (t && not (is_some f)) o None)) (gain s o f) ≡ pick s t o f
joined_at true true (Some e) (Some x) none = refl
joined_at true false (Some e) (Some x) none = refl
joined_at true true (Some e) None none = refl
joined_at true false (Some e) None none = refl
joined_at true true None (Some x) none = refl
joined_at true false None (Some x) none = refl
joined_at true true None None none = refl
joined_at true false None None none = refl
joined_at false t (Some e) f none = absurd (no_entry e (none refl))
  where
    no_entry : (e : Entry) → Some e ≡ None → ⊥
    no_entry e h = cc
joined_at false true None (Some x) none = refl
joined_at false false None (Some x) none = refl
joined_at false true None None none = refl
joined_at false false None None none = refl

pub joined_in : (s t : Dot → Bool) (other old gone new : Rows) → ((d : Dot) → s d ≡ false → at d old ≡ None) → ascends (keys old) ≡ true → ascends (keys new) ≡ true → ascends (keys other) ≡ true → gone ≡ gone_rows t other old
    → ((d : Dot) → at d new ≡ loss false (is_some (at d gone)) (gain (s d) (at d old) (at d other))) → new ≡ rows_of_join s t old other
joined_in s t other old gone new absent rise_old rise_new rise_other found made =
    same_rows _ _ rise_new (ascends-rows_of_join s t old other rise_old rise_other) (λ d.
    made d
    ∙ ap (λ rows. loss false (is_some (at d rows)) (gain (s d) (at d old) (at d other))) found
    ∙ ap (λ o. loss false (is_some o) (gain (s d) (at d old) (at d other))) (find_gone t other old d)
    ∙ joined_at (s d) (t d) (at d old) (at d other) (absent d)
    ∙ sym (find-rows_of_join s t d old other rise_old rise_other))

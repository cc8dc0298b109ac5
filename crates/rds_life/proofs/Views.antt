-- The seen dots and the live rows of lives: what they have, and that they give the lives back.
use Rattle.std.proofs.Common.{◌≡◌, Bool, true, false, cond, List, [], ◌∷◌, Option, Some, None, refl, sym, ◌∙◌, ap}
use mathlib.Core.Bool.{false≢true}
use Rattle.std.specs.Prelude.{is_some}
use Rattle.std.specs.List.{list_all, cons_option, filter_map}
use Rattle.std.specs.Ordering.{eq_by_cmp}
use Rattle.std.specs.FinMap as map
use Rattle.std.specs.FinSet as set
use Rattle.rds_names.specs.declared.entry.Entry.{Entry}
use Rattle.rds_dots.specs.declared.dot.Dot.{Dot}
use Rattle.rds_dots.specs.Dots.{dot_cmp, Dots}
use Rattle.rds_dots.specs.Ascending.{ascends, is_above}
use Rattle.rds_dots.specs.Order.{dots_total, dots_exact}
use Rattle.rds_names.specs.Conditions.{and_true, and_left, and_right}
use Rattle.rds_dots.specs.Sets.{tied_dots_are_one}
use Rattle.rds_life.specs.Life.{Life, Live, Dead, Lived, keys, life_of, lives_of, AreRows, entry_of, seen_of, live_row}
use Rattle.rds_life.specs.Life.{live_rows}
use Rattle.rds_life.proofs.RowLemmas.{find_above, rise_of, same_rows}
use Rattle.rds_life.proofs.LivedLemmas.{get-lives_of, are_rows_of, seen_is, entry_is}

abbrev live_in : List (Dot × Life) → List (Dot × Entry)
live_in lives = filter_map (λ x. live_row x.0 x.1) lives

find_live : (d x : Dot) (l : Life) (lives : List (Dot × Life)) → (eq_by_cmp dot_cmp d x ≡ true → map.find dot_cmp d lives ≡ None) → map.find dot_cmp d (live_in lives) ≡ entry_of (map.find dot_cmp d lives)
    → map.find dot_cmp d (cons_option (live_row x l) (live_in lives)) ≡ entry_of (cond (eq_by_cmp dot_cmp d x) (Some l) (map.find dot_cmp d lives))
find_live d x (Live e) lives once again = elim (eq_by_cmp dot_cmp d x) as (λ b. cond b (Some e) (map.find dot_cmp d (live_in lives)) ≡ entry_of (cond b (Some (Live e)) (map.find dot_cmp d lives))) [ true ↦ refl | false ↦ again ]
find_live d x Dead lives once again = elim (eq_by_cmp dot_cmp d x) as (λ b. eq_by_cmp dot_cmp d x ≡ b → map.find dot_cmp d (live_in lives) ≡ entry_of (cond b (Some Dead) (map.find dot_cmp d lives))) [
  | true ↦ λ is. again ∙ ap entry_of (once is)
  | false ↦ λ _. again
] refl

find-live_in : (lives : List (Dot × Life)) → ascends (keys lives) ≡ true → (d : Dot) → map.find dot_cmp d (live_in lives) ≡ entry_of (map.find dot_cmp d lives)
find-live_in [] rise d = refl
find-live_in (x ∷ lives) rise d =
    find_live d x.0 x.1 lives
    (λ is. ap (λ q. map.find dot_cmp q lives) (tied_dots_are_one d x.0 is) ∙ find_above x.0 lives (and_left _ (ascends (keys lives)) rise))
    (find-live_in lives (and_right (list_all (is_above x.0) (keys lives)) _ rise) d)

all_live : (p : Dot → Bool) (x : Dot) (l : Life) (lives : List (Dot × Life)) → p x ≡ true → list_all p (keys (live_in lives)) ≡ true → list_all p (keys (cons_option (live_row x l) (live_in lives))) ≡ true
all_live p x (Live e) lives one all = and_true _ _ one all
all_live p x Dead lives one all = all

all-live_in : (p : Dot → Bool) (lives : List (Dot × Life)) → list_all p (keys lives) ≡ true → list_all p (keys (live_in lives)) ≡ true
all-live_in p [] all = refl
all-live_in p (x ∷ lives) all = all_live p x.0 x.1 lives (and_left (p x.0) _ all) (all-live_in p lives (and_right (p x.0) _ all))

rise_live : (x : Dot) (l : Life) (lives : List (Dot × Life)) → list_all (is_above x) (keys (live_in lives)) ≡ true → ascends (keys (live_in lives)) ≡ true → ascends (keys (cons_option (live_row x l) (live_in lives))) ≡ true
rise_live x (Live e) lives first rise = and_true _ _ first rise
rise_live x Dead lives first rise = rise

rise-live_in : (lives : List (Dot × Life)) → ascends (keys lives) ≡ true → ascends (keys (live_in lives)) ≡ true
rise-live_in [] rise = refl
rise-live_in (x ∷ lives) rise =
    rise_live x.0 x.1 lives (all-live_in (is_above x.0) lives (and_left _ (ascends (keys lives)) rise)) (rise-live_in lives (and_right (list_all (is_above x.0) (keys lives)) _ rise))

-- a dot is seen where it isn't unseen
pub contains-seen_of : (v : Lived) (d : Dot) → set.contains (seen_of v) d ≡ is_some (map.get v d)
contains-seen_of v d = set.contains-from_list dots_total (map.keys v) d ∙ sym (map.contains_key-keys v d)

-- a dot's row has its entry
pub find-live_rows : (v : Lived) (d : Dot) → map.find dot_cmp d (live_rows v) ≡ entry_of (map.get v d)
find-live_rows v d = find-live_in (map.entries v) (rise_of (map.entries v) (map.entries_sorted v)) d ∙ ap entry_of (sym (map.get-entries v d))

pub rise-live_rows : (v : Lived) → ascends (keys (live_rows v)) ≡ true
rise-live_rows v = rise-live_in (map.entries v) (rise_of (map.entries v) (map.entries_sorted v))

unseen_entry : (o : Option Life) → is_some o ≡ false → entry_of o ≡ None
unseen_entry None h = refl
unseen_entry (Some l) h = absurd (false≢true (sym h))

pub rows_of_lives : (v : Lived) → AreRows (seen_of v) (live_rows v)
rows_of_lives v = are_rows_of (seen_of v) (live_rows v) (rise-live_rows v) (λ d fails. find-live_rows v d ∙ unseen_entry (map.get v d) (sym (contains-seen_of v d) ∙ fails))

whole_life : (o : Option Life) → cond (is_some o) (Some (life_of (entry_of o))) None ≡ o
whole_life None = refl
whole_life (Some (Live e)) = refl
whole_life (Some Dead) = refl

-- the seen dots and the live rows are all that lives are
pub lived_of_parts : (v : Lived) → lives_of (seen_of v) (live_rows v) ≡ v
lived_of_parts v = map.same_map dots_total dots_exact _ _ (λ d.
    get-lives_of (seen_of v) (live_rows v) d
    ∙ ap (λ b. cond b (Some (life_of (map.find dot_cmp d (live_rows v)))) None) (contains-seen_of v d)
    ∙ ap (λ o. cond (is_some (map.get v d)) (Some (life_of o)) None) (find-live_rows v d)
    ∙ whole_life (map.get v d))

pub seen_of-lives_of : (seen : Dots) (rows : List (Dot × Entry)) → seen_of (lives_of seen rows) ≡ seen
seen_of-lives_of seen rows = set.same_set dots_total dots_exact _ _ (λ d. contains-seen_of (lives_of seen rows) d ∙ sym (seen_is seen rows (lives_of seen rows) refl d))

pub live_rows-lives_of : (seen : Dots) (rows : List (Dot × Entry)) → AreRows seen rows → live_rows (lives_of seen rows) ≡ rows
live_rows-lives_of seen rows are = same_rows _ _ (rise-live_rows (lives_of seen rows)) are.rise (λ d. find-live_rows (lives_of seen rows) d ∙ sym (entry_is seen rows are (lives_of seen rows) refl d))

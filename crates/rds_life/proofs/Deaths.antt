-- The dead dots: those that are seen and have no row.
use Rattle.std.proofs.Common.{◌≡◌, Bool, true, false, not, ◌&&◌, cond, List, [], ◌∷◌, Option, Some, None, refl, sym}
use Rattle.std.proofs.Common.{◌∙◌, ap}
use Rattle.std.specs.Prelude.{is_some}
use Rattle.std.specs.List.{filter, list_all}
use Rattle.std.specs.FinMap as map
use Rattle.std.specs.FinMap.Entries.{is_some-find}
use Rattle.std.specs.FinSet as set
use Rattle.rds_names.specs.declared.entry.Entry.{Entry}
use Rattle.rds_dots.specs.declared.dot.Dot.{Dot}
use Rattle.rds_dots.specs.Dots.{dot_cmp, Dots}
use Rattle.rds_dots.specs.Order.{dots_total}
use Rattle.rds_names.specs.Conditions.{and_true, and_left, and_right}
use Rattle.rds_life.specs.Added.{gone_rows, is_gone}
use Rattle.rds_life.specs.Life.{Lived, keys, life_of, lives_of, is_dead}
use Rattle.rds_life.proofs.LivedLemmas.{get-lives_of}

-- what holds of all seen dots holds of those of the rows
pub all_rows : (s : Dots) (p : Dot → Bool) → ((d : Dot) → set.contains s d ≡ true → p d ≡ true) → (rows : List (Dot × Entry)) → list_all (λ r. set.contains s r.0) rows ≡ true → list_all p (keys rows) ≡ true
all_rows s p within [] all = refl
all_rows s p within (r ∷ rows) all = and_true (p r.0) _ (within r.0 (and_left (set.contains s r.0) _ all)) (all_rows s p within rows (and_right (set.contains s r.0) _ all))

no_row_left : (b : Bool) (o : Option Entry) → (b && not (is_some o)) ≡ is_dead (cond b (Some (life_of o)) None)
no_row_left true (Some e) = refl
no_row_left true None = refl
no_row_left false o = refl

pub dead_is : (s live dead : Dots) (rows : List (Dot × Entry)) (v : Lived) → lives_of s rows ≡ v → live ≡ set.from_list (keys rows) → dead ≡ set.difference s live → (d : Dot) → set.contains dead d ≡ is_dead (map.get v d)
dead_is s live dead rows v is rows_live left d =
    ap (λ t. set.contains t d) left
    ∙ set.contains-difference dots_total s live d
    ∙ ap (λ t. set.contains s d && not (set.contains t d)) rows_live
    ∙ ap (λ b. set.contains s d && not b) (set.contains-from_list dots_total (keys rows) d ∙ sym (is_some-find dot_cmp d rows))
    ∙ no_row_left (set.contains s d) (map.find dot_cmp d rows)
    ∙ ap is_dead (sym (get-lives_of s rows d))
    ∙ ap (λ l. is_dead (map.get l d)) is

gone_is : (s : Dots) (rows : List (Dot × Entry)) (v : Lived) → lives_of s rows ≡ v → (d : Dot) → is_gone (set.contains s) rows d ≡ is_dead (map.get v d)
gone_is s rows v is d = no_row_left (set.contains s d) (map.find dot_cmp d rows) ∙ ap is_dead (sym (get-lives_of s rows d) ∙ ap (λ w. map.get w d) is)

-- the rows that are gone from lives are those of dots that are dead there
pub gone_are_dead : (s : Dots) (live : List (Dot × Entry)) (v : Lived) → lives_of s live ≡ v → (rows : List (Dot × Entry)) → gone_rows (set.contains s) live rows ≡ filter (λ r. is_dead (map.get v r.0)) rows
gone_are_dead s live v is [] = refl
gone_are_dead s live v is (r ∷ rows) =
    ap (λ b. cond b (r ∷ gone_rows (set.contains s) live rows) (gone_rows (set.contains s) live rows)) (gone_is s live v is r.0)
    ∙ ap (λ l. cond (is_dead (map.get v r.0)) (r ∷ l) l) (gone_are_dead s live v is rows)

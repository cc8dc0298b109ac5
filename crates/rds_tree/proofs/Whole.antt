-- A tree of all live dots.
use Rattle.std.proofs.Common.{◌≡◌, ℕ, List, [], ◌∷◌, refl, ◌∙◌, ap, subst}
use Rattle.std.specs.Prelude.{ℤ, Option}
use Rattle.rds_names.specs.declared.entry.Entry.{Entry}
use Rattle.rds_dots.specs.declared.dot.Dot.{Dot}
use Rattle.rds_tree.specs.Document.{entries_in}
use Rattle.rds_tree.specs.Growing.{rows_under, Holds}
use Rattle.rds_tree.specs.Row.{Row, placed_all}
use Rattle.rds_tree.specs.View.{entries_view}
use Rattle.rds_tree.proofs.Growing.{same_members}
use Rattle.rds_tree.proofs.SameView.{same_below_path, same_entries_view}

rows_under_root : (rows : List (Dot × Entry)) → rows_under [] rows ≡ rows
rows_under_root [] = refl
rows_under_root (r ∷ rows) = ap (λ xs. r ∷ xs) (rows_under_root rows)

-- all rows are under the root
pub holds_root : (path : List (List ℕ)) (rows live : List (Dot × Entry)) (tree : List Row) → path ≡ [] → rows ≡ live → Holds (rows_under path rows) tree → Holds live tree
holds_root path rows live tree root is holds = subst (λ xs. Holds xs tree) (ap (λ p. rows_under p rows) root ∙ rows_under_root rows ∙ is) holds

-- the whole tree shows at a path what all entries show
pub shows_whole : (counters : Option (List (List ℕ × ℤ))) (path : List (List ℕ)) (rows : List (Dot × Entry)) (tree : List Row) → Holds rows tree → entries_view counters path (placed_all tree) ≡ entries_view counters path (entries_in rows)
shows_whole counters path rows tree holds = same_entries_view counters path _ _ (same_below_path path _ _ (same_members rows tree holds))

-- A tree that grows by the live dots under a path.
use Rattle.std.proofs.Common.{◌≡◌, ℕ, Bool, true, false, cond, ◌||◌, List, [], ◌∷◌, map, refl, sym, ◌∙◌, ap}
use Rattle.std.proofs.Common.{subst}
use Rattle.std.specs.Prelude.{ℤ, Option, Some, None, filter}
use Rattle.std.proofs.lemmas.Map.Text.{is_eq-slice_cmp}
use Rattle.std.specs.List.{list_any, starts_with, cons_option}
use Rattle.std.specs.Str.{bytes_eq}
use Rattle.rds_names.specs.declared.scalar.Scalar.{Scalar}
use Rattle.rds_names.specs.declared.entry.Kind.{Kind}
use Rattle.rds_names.specs.declared.entry.Entry.{Entry}
use Rattle.rds_dots.specs.declared.dot.Dot.{Dot}
use Rattle.rds_tree.specs.Document.{Placed, entry_placed, entries_in}
use Rattle.rds_tree.specs.View.{below, below_path, step_into, same_key, entries_view}
use Rattle.rds_tree.specs.Row.{Row, placement, placed_all}
use Rattle.rds_tree.specs.Growing.{tree_row, rows_under, Holds}
use Rattle.rds_tree.proofs.Kids.{flip_eq}
use Rattle.rds_tree.proofs.SameView.{SameMembers, same_below_path, same_entries_view}

-- the tree has those of the rows under the path that stand before the rest
pub record IsGrowing (path : List (List ℕ)) (rows rest : List (Dot × Entry)) (tree : List Row) : Type 0 where
  pub any : (t : Row → Bool) → (list_any t tree || list_any (λ r. t (tree_row r)) (rows_under path rest)) ≡ list_any (λ r. t (tree_row r)) (rows_under path rows)

abbrev is_under : List (List ℕ) → Dot × Entry → Bool
is_under path r = starts_with bytes_eq r.1.path path

any-map : {A B : Type 0} (t : B → Bool) (f : A → B) (xs : List A) → list_any t (map f xs) ≡ list_any (λ x. t (f x)) xs
any-map t f [] = refl
any-map t f (x ∷ xs) = ap (λ b. t (f x) || b) (any-map t f xs)

-- the tree's entries are those of the rows
pub same_members : (rows : List (Dot × Entry)) (tree : List Row) → Holds rows tree → SameMembers (placed_all tree) (entries_in rows)
same_members rows tree holds = record { any = λ t. any-map t placement tree ∙ holds.any (λ r. t (placement r)) ∙ sym (any-map t entry_placed rows) }

-- ---- what isn't under a path isn't seen from there

abbrev under_all : List (List ℕ) → List Placed → List Placed
under_all path es = filter (λ e. starts_with bytes_eq e.path path) es

entries-under : (path : List (List ℕ)) (rows : List (Dot × Entry)) → entries_in (rows_under path rows) ≡ under_all path (entries_in rows)
entries-under path [] = refl
entries-under path (r ∷ rows) = elim (is_under path r) as (λ b. entries_in (cond b (r ∷ rows_under path rows) (rows_under path rows)) ≡ cond b (entry_placed r ∷ under_all path (entries_in rows)) (under_all path (entries_in rows))) [
  | true ↦ ap (λ es. entry_placed r ∷ es) (entries-under path rows)
  | false ↦ entries-under path rows
]

pub same_test : (k x : List ℕ) → bytes_eq k x ≡ same_key x k
same_test k x = sym (is_eq-slice_cmp k x) ∙ flip_eq k x

stepped_into : (k : List ℕ) (ks path : List (List ℕ)) (kind : Kind) (value : Scalar) (rest seen : List Placed) → below k rest ≡ under_all ks seen
    → below k (cond (starts_with bytes_eq path (k ∷ ks)) (record { path = path; kind = kind; value = value } ∷ rest) rest) ≡ under_all ks (cons_option (step_into k kind value path) seen)
stepped_into k ks [] kind value rest seen h = h
stepped_into k ks (x ∷ path) kind value rest seen h =
    elim (same_key x k) as (λ b. same_key x k ≡ b → below k (cond (starts_with bytes_eq (x ∷ path) (k ∷ ks)) (record { path = x ∷ path; kind = kind; value = value } ∷ rest) rest) ≡ under_all ks (cons_option (cond b (Some (record { path = path; kind = kind; value = value })) None) seen)) [
      | true ↦ λ e. rw (same_test k x, e) (elim (starts_with bytes_eq path ks) as (λ c. below k (cond c (record { path = x ∷ path; kind = kind; value = value } ∷ rest) rest) ≡ cond c (record { path = path; kind = kind; value = value } ∷ under_all ks seen) (under_all ks seen)) [
        | true ↦ rw e (ap (λ es. record { path = path; kind = kind; value = value } ∷ es) h)
        | false ↦ h
      ])
      | false ↦ λ e. rw (same_test k x, e) h
    ] refl

below-under : (k : List ℕ) (ks : List (List ℕ)) (es : List Placed) → below k (under_all (k ∷ ks) es) ≡ under_all ks (below k es)
below-under k ks [] = refl
below-under k ks (e ∷ es) = stepped_into k ks e.path e.kind e.value (under_all (k ∷ ks) es) (below k es) (below-under k ks es)

under_root : (es : List Placed) → under_all [] es ≡ es
under_root [] = refl
under_root (e ∷ es) = ap (λ fs. e ∷ fs) (under_root es)

below_path-under : (path : List (List ℕ)) (es : List Placed) → below_path path (under_all path es) ≡ below_path path es
below_path-under [] es = under_root es
below_path-under (k ∷ path) es = ap (below_path path) (below-under k path es) ∙ below_path-under path (below k es)

-- at the path the tree has the entries of all rows
pub seen_rows : (path : List (List ℕ)) (rows : List (Dot × Entry)) (tree : List Row) → Holds (rows_under path rows) tree → SameMembers (below_path path (placed_all tree)) (below_path path (entries_in rows))
seen_rows path rows tree holds =
    subst (λ es. SameMembers (below_path path (placed_all tree)) es) (ap (below_path path) (entries-under path rows) ∙ below_path-under path (entries_in rows))
    (same_below_path path _ _ (same_members (rows_under path rows) tree holds))

-- and shows what they show
pub shows_rows : (counters : Option (List (List ℕ × ℤ))) (path : List (List ℕ)) (rows : List (Dot × Entry)) (tree : List Row) → Holds (rows_under path rows) tree → entries_view counters path (placed_all tree) ≡ entries_view counters path (entries_in rows)
shows_rows counters path rows tree holds = same_entries_view counters path _ _ (seen_rows path rows tree holds)

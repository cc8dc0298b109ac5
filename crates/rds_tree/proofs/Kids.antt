-- The children of what a tree holds are the children of its node.
use Rattle.std.proofs.Common.{◌≡◌, ℕ, suc, Bool, true, false, cond, ◌&&◌, ◌||◌, List, [], ◌∷◌, ◌++◌, map, refl, sym}
use Rattle.std.proofs.Common.{◌∙◌, ap, length, leb, arith, append-nil}
use Rattle.std.specs.Prelude.{Some, None}
use Rattle.std.specs.List.{list_any, list_all, filter_map, cons_option, AllByRecursion}
use Rattle.std.specs.Map.{lookup}
use Rattle.std.proofs.lemmas.Bool.Decides.{nat_tests}
use Rattle.std.specs.List.Sorted.{IsStrictlySortedBy}
use Rattle.std.specs.Ordering.{eq_by_cmp, is_eq, ordering_reverse}
use Rattle.std.specs.declared.cmp.Ordering.{Ordering}
use Rattle.std.specs.declared.cmp.Ordering.TheVariants.{Less, Equal, Greater}
use Rattle.std.specs.Cmp.{tied_itself}
use Rattle.std.specs.FinMap.{nat_cmp-IsAntisymmetric, slice_cmp-IsAntisymmetric}
use Rattle.std.specs.Cmp.Lexicographic.{nat_list_cmp_total}
use Rattle.rds_names.specs.Conditions.{and_true, and_left, and_right, equal_of}
use Rattle.rds_names.specs.declared.scalar.Scalar.{Scalar}
use Rattle.rds_names.specs.declared.entry.Kind.{Kind}
use Rattle.rds_tree.specs.declared.leaf.Leaf.{Leaf}
use Rattle.rds_tree.specs.Once.{once_is}
use Rattle.rds_tree.specs.Document.{Placed}
use Rattle.rds_names.specs.Key.{key_cmp}
use Rattle.rds_tree.specs.View.{keys_below, first_key, same_key, step_into, below, below_path, children}
use Rattle.rds_tree.specs.Row.{Row, under, at_end, rows_in_children, rows_in_node, is_filled, are_full, placement}
use Rattle.rds_tree.specs.Row.{placed_all}
use Rattle.rds_tree.specs.Row.{placed_below}

abbrev heads : List Placed → List (List ℕ)
heads es = filter_map (λ e. first_key e.path) es

heads-leaves : (leaves : List Leaf) (rest : List Row) → heads (placed_all (map at_end leaves ++ rest)) ≡ heads (placed_all rest)
heads-leaves [] rest = refl
heads-leaves (l ∷ leaves) rest = heads-leaves leaves rest

below-leaves : (k : List ℕ) (leaves : List Leaf) (rest : List Row) → below k (placed_all (map at_end leaves ++ rest)) ≡ below k (placed_all rest)
below-leaves k [] rest = refl
below-leaves k (l ∷ leaves) rest = below-leaves k leaves rest

or_again : (a b c : Bool) → (a || ((b && a) || c)) ≡ (a || c)
or_again true b c = refl
or_again false true c = refl
or_again false false c = refl

any-heads-under : (t : List ℕ → Bool) (k : List ℕ) (rows rest : List Row) → list_any t (heads (placed_all (map (under k) rows ++ rest))) ≡ ((is_filled rows && t k) || list_any t (heads (placed_all rest)))
any-heads-under t k [] rest = refl
any-heads-under t k (r ∷ rows) rest = ap (λ b. t k || b) (any-heads-under t k rows rest) ∙ or_again (t k) (is_filled rows) _

any-heads : (t : List ℕ → Bool) (cs : List (List ℕ × List Row)) → are_full cs ≡ true → list_any t (heads (placed_all (rows_in_children cs))) ≡ list_any t (map (λ c. c.0) cs)
any-heads t [] full = refl
any-heads t ((k, []) ∷ cs) full = absurd (cc)
any-heads t ((k, (r ∷ rows)) ∷ cs) full = any-heads-under t k (r ∷ rows) (rows_in_children cs) ∙ ap (λ b. t k || b) (any-heads t cs full)

below-under : (k x : List ℕ) (rows rest : List Row) (b : Bool) → same_key x k ≡ b → below k (placed_all (map (under x) rows ++ rest)) ≡ cond b (placed_all rows) [] ++ below k (placed_all rest)
below-under k x [] rest true h = refl
below-under k x [] rest false h = refl
below-under k x (r ∷ rows) rest true h = rw h (ap (λ es. placement r ∷ es) (below-under k x rows rest true h))
below-under k x (r ∷ rows) rest false h = rw h (below-under k x rows rest false h)

pub itself : (k : List ℕ) → same_key k k ≡ true
itself k = ap is_eq (tied_itself nat_list_cmp_total k)

abbrev IsAt : List (List ℕ × List Row) → List ℕ × List Row → Type 0
IsAt cs c = below c.0 (placed_all (rows_in_children cs)) ≡ placed_all c.1

none_below : (k : List ℕ) (cs : List (List ℕ × List Row)) → AllByRecursion (λ y. key_cmp k y ≡ Less) (map (λ c. c.0) cs) → below k (placed_all (rows_in_children cs)) ≡ []
none_below k [] h = refl
none_below k (c ∷ cs) h = below-under k c.0 c.1 (rows_in_children cs) false (ap is_eq (flipped k c.0 h.0)) ∙ none_below k cs h.1
  where
    flipped : (k x : List ℕ) → key_cmp k x ≡ Less → key_cmp x k ≡ Greater
    flipped k x h = nat_list_cmp_total.antisymm x k ∙ ap ordering_reverse h

pub flip_eq : (k x : List ℕ) → is_eq (key_cmp k x) ≡ is_eq (key_cmp x k)
flip_eq k x = ap is_eq (nat_list_cmp_total.antisymm k x) ∙ reversed (key_cmp x k)
  where
    reversed : (o : Ordering) → is_eq (ordering_reverse o) ≡ is_eq o
    reversed Less = refl
    reversed Equal = refl
    reversed Greater = refl

shifted : (c : List ℕ × List Row) (cs ds : List (List ℕ × List Row)) → AllByRecursion (λ y. key_cmp c.0 y ≡ Less) (map (λ d. d.0) ds) → AllByRecursion (IsAt cs) ds → AllByRecursion (IsAt (c ∷ cs)) ds
shifted c cs [] less at = tt
shifted c cs (d ∷ ds) less at = (below-under d.0 c.0 c.1 (rows_in_children cs) false (ap is_eq less.0) ∙ at.0, shifted c cs ds less.1 at.1)

all_at : (cs : List (List ℕ × List Row)) → IsStrictlySortedBy key_cmp (map (λ c. c.0) cs) → AllByRecursion (IsAt cs) cs
unfolding IsStrictlySortedBy
all_at [] rise = tt
all_at (c ∷ cs) rise =
    (below-under c.0 c.0 c.1 (rows_in_children cs) true (itself c.0) ∙ ap (λ es. placed_all c.1 ++ es) (none_below c.0 cs rise.0) ∙ append-nil (placed_all c.1), shifted c cs cs rise.0 (all_at cs rise.1))

pairs : (f : List ℕ → List Placed) (cs : List (List ℕ × List Row)) → AllByRecursion (λ c. f c.0 ≡ placed_all c.1) cs → map (λ k. (k, f k)) (map (λ c. c.0) cs) ≡ placed_below cs
pairs f [] h = refl
pairs f (c ∷ cs) h = ap (λ es. (c.0, es) ∷ map (λ k. (k, f k)) (map (λ c. c.0) cs)) h.0 ∙ ap (λ rest. (c.0, placed_all c.1) ∷ rest) (pairs f cs h.1)

pub children-rows : (leaves : List Leaf) (cs : List (List ℕ × List Row)) → are_full cs ≡ true → IsStrictlySortedBy key_cmp (map (λ c. c.0) cs) → children (placed_all (rows_in_node leaves cs)) ≡ placed_below cs
children-rows leaves cs full rise =
    let es = placed_all (rows_in_node leaves cs) in
    let keys : keys_below es ≡ map (λ c. c.0) cs =
    once_is nat_list_cmp_total (slice_cmp-IsAntisymmetric nat_cmp-IsAntisymmetric) (map (λ c. c.0) cs) (heads es) rise (λ q. ap (list_any (eq_by_cmp key_cmp q)) (heads-leaves leaves (rows_in_children cs)) ∙ any-heads (eq_by_cmp key_cmp q) cs full) in
    ap (map (λ k. (k, below k es))) keys ∙ pairs (λ k. below k es) cs (each leaves cs cs (all_at cs rise))
  where
    each : (leaves : List Leaf) (cs ds : List (List ℕ × List Row)) → AllByRecursion (IsAt cs) ds → AllByRecursion (λ c. below c.0 (placed_all (rows_in_node leaves cs)) ≡ placed_all c.1) ds
    each leaves cs [] h = tt
    each leaves cs (d ∷ ds) h = (below-leaves d.0 leaves (rows_in_children cs) ∙ h.0, each leaves cs ds h.1)

same_some : {A : Type 0} (a b : A) → Some a ≡ Some b → a ≡ b
same_some a b h = cc

abbrev at_key : List ℕ → List ℕ → Bool
at_key k x = is_eq (key_cmp k x)

picked : (k : List ℕ) (rows : List Row) (cs ds : List (List ℕ × List Row)) → AllByRecursion (IsAt cs) ds → lookup (at_key k) ds ≡ Some rows → below k (placed_all (rows_in_children cs)) ≡ placed_all rows
picked k rows cs [] at here = absurd (cc)
picked k rows cs (d ∷ ds) at here =
    elim (at_key k d.0) as (λ b. at_key k d.0 ≡ b → cond b (Some d.1) (lookup (at_key k) ds) ≡ Some rows → below k (placed_all (rows_in_children cs)) ≡ placed_all rows) [
      | true ↦ λ e h. ap (λ x. below x (placed_all (rows_in_children cs))) (slice_cmp-IsAntisymmetric nat_cmp-IsAntisymmetric k d.0 (equal_of _ e)) ∙ at.0 ∙ ap placed_all (same_some d.1 rows h)
      | false ↦ λ e h. picked k rows cs ds at.1 h
    ] refl here

pub below-child : (k : List ℕ) (rows : List Row) (leaves : List Leaf) (cs : List (List ℕ × List Row)) → IsStrictlySortedBy key_cmp (map (λ c. c.0) cs) → Some rows ≡ lookup (at_key k) cs → placed_all rows ≡ below k (placed_all (rows_in_node leaves cs))
below-child k rows leaves cs rise here = sym (below-leaves k leaves (rows_in_children cs) ∙ picked k rows cs cs (all_at cs rise) (sym here))

nothing_below : (k : List ℕ) (cs : List (List ℕ × List Row)) → lookup (at_key k) cs ≡ None → below k (placed_all (rows_in_children cs)) ≡ []
nothing_below k [] none = refl
nothing_below k (c ∷ cs) none =
    elim (at_key k c.0) as (λ b. at_key k c.0 ≡ b → cond b (Some c.1) (lookup (at_key k) cs) ≡ None → below k (placed_all (map (under c.0) c.1 ++ rows_in_children cs)) ≡ []) [
      | true ↦ λ e h. absurd (cc)
      | false ↦ λ e h. below-under k c.0 c.1 (rows_in_children cs) false (sym (flip_eq k c.0) ∙ e) ∙ nothing_below k
          cs h
    ] refl none

pub below-no_child : (k : List ℕ) (leaves : List Leaf) (cs : List (List ℕ × List Row)) → None ≡ lookup (at_key k) cs → below k (placed_all (rows_in_node leaves cs)) ≡ []
below-no_child k leaves cs none = below-leaves k leaves (rows_in_children cs) ∙ nothing_below k cs (sym none)

-- below nothing is nothing
pub below_path-nil : (path : List (List ℕ)) → below_path path [] ≡ []
below_path-nil [] = refl
below_path-nil (k ∷ path) = below_path-nil path

-- ---- paths below are no longer

pub le_less : (a n : ℕ) → leb (suc a) n ≡ true → leb a n ≡ true
le_less a n h = grind (arith, nat_tests)

abbrev pub fit : ℕ → List Placed → Bool
fit n es = list_all (λ e. leb (length e.path) n) es

stepped : (n : ℕ) (k : List ℕ) (path : List (List ℕ)) (kind : Kind) (value : Scalar) (rest : List Placed) → leb (length path) n ≡ true → fit n rest ≡ true → fit n (cons_option (step_into k kind value path) rest) ≡ true
stepped n k [] kind value rest h all = all
stepped n k (x ∷ path) kind value rest h all =
    elim (same_key x k) as (λ b. fit n (cons_option (cond b (Some (record { path = path; kind = kind; value = value })) None) rest) ≡ true) [
      | true ↦ and_true _ _ (le_less (length path) n h) all
      | false ↦ all
    ]

fit-below : (n : ℕ) (k : List ℕ) (es : List Placed) → fit n es ≡ true → fit n (below k es) ≡ true
fit-below n k [] h = refl
fit-below n k (e ∷ es) h = stepped n k e.path e.kind e.value (below k es) (and_left _ _ h) (fit-below n k es (and_right _ _ h))

pub fit-below_path : (n : ℕ) (path : List (List ℕ)) (es : List Placed) → fit n es ≡ true → fit n (below_path path es) ≡ true
fit-below_path n [] es h = h
fit-below_path n (k ∷ path) es h = fit-below_path n path (below k es) (fit-below n k es h)

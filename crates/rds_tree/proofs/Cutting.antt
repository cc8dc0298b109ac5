-- Rows that go.
use Rattle.std.proofs.Common.{◌≡◌, ℕ, Bool, true, false, cond, not, ◌&&◌, ◌||◌, List, [], ◌∷◌, map, refl, sym, ◌∙◌, ap}
use Rattle.std.proofs.Common.{subst, length}
use Rattle.std.proofs.Math.Bool.{and-false, and-true}
use Rattle.std.specs.Prelude.{Some, None}
use Rattle.std.specs.List.{list_any, AllByRecursion}
use Rattle.std.specs.List.Sorted.{IsStrictlySortedBy}
use Rattle.std.specs.Ordering.{is_eq}
use Rattle.std.specs.declared.cmp.Ordering.{Ordering}
use Rattle.std.specs.declared.cmp.Ordering.TheVariants.{Less, Equal, Greater}
use Rattle.std.specs.Map.{lookup, set_value, remove_entry}
use Rattle.std.specs.FinMap.{nat_cmp-IsAntisymmetric, slice_cmp-IsAntisymmetric}
use Rattle.rds_tree.specs.declared.leaf.Leaf.{Leaf}
use Rattle.rds_tree.specs.Cuts.{goes, IsCut, IsLess}
use Rattle.rds_names.specs.Key.{key_cmp}
use Rattle.rds_tree.specs.Row.{Row, under, at_end, rows_in_node, is_filled}
use Rattle.rds_tree.proofs.Adding.{any-rows, no_keys}
use Rattle.rds_tree.proofs.Grouped.{any-removed}

abbrev pub at_key : List ℕ → List ℕ → Bool
at_key k x = is_eq (key_cmp k x)

abbrev pub below_passes : (Row → Bool) → List ℕ × List Row → Bool
below_passes t c = list_any (λ r. t (under c.0 r)) c.1

-- the row passes and stays
abbrev pub stays : (Leaf → Bool) → Bool → List (List ℕ) → (Row → Bool) → Row → Bool
stays picks deep path t r = t r && not (goes picks deep path r.path r.leaf)

pub cut_leaves : (picks : Leaf → Bool) (deep : Bool) (path : List (List ℕ)) (old new : List Row) (leaves ls : List Leaf) (cs : List (List ℕ × List Row)) → deep ≡ false → length path ≡ 0 → rows_in_node leaves cs ≡ old → IsLess picks leaves ls → rows_in_node ls cs ≡ new → IsCut picks deep path old new
cut_leaves picks deep path old new leaves ls cs shallow none is less was =
    subst (λ b. IsCut picks b path old new) (sym shallow) (subst (λ p. IsCut picks false p old new) (sym (no_keys path none)) (record {
      any = λ t. ap (list_any t) (sym was) ∙ any-rows t ls cs
          ∙ ap (λ b. b || list_any (below_passes t) cs) (less.any (λ l. t (at_end l)))
          ∙ ap (λ b. list_any (λ l. stays picks false [] t (at_end l)) leaves || b) (sym (plain t cs))
          ∙ sym (any-rows (stays picks false [] t) leaves cs) ∙ ap (list_any (stays picks false [] t)) is;
    }))
  where
    plain : (t : Row → Bool) (cs : List (List ℕ × List Row)) → list_any (below_passes (stays picks false [] t)) cs ≡ list_any (below_passes t) cs
    plain t cs i = list_any (λ c. list_any (λ r. and-true (t (under c.0 r)) i) c.1) cs

pub goes_all : (picks : Leaf → Bool) (q : List (List ℕ)) (l : Leaf) → goes picks true [] q l ≡ true
goes_all picks [] l = refl
goes_all picks (x ∷ q) l = refl

none_stays : (picks : Leaf → Bool) (t : Row → Bool) (rows : List Row) → list_any (stays picks true [] t) rows ≡ false
none_stays picks t [] = refl
none_stays picks t (r ∷ rows) = ap (λ b. (t r && not b) || list_any (stays picks true [] t) rows) (goes_all picks r.path r.leaf) ∙ ap (λ b. b || list_any (stays picks true [] t) rows) (and-false (t r)) ∙ none_stays picks t rows

pub empty_rows : (leaves : List Leaf) (cs : List (List ℕ × List Row)) → leaves ≡ [] → cs ≡ []
    → rows_in_node leaves cs ≡ []
empty_rows leaves cs l c = ap (λ ls. rows_in_node ls cs) l ∙ ap (λ ds. rows_in_node [] ds) c

-- nothing is left where all goes
pub cut_whole : (picks : Leaf → Bool) (deep : Bool) (path : List (List ℕ)) (old new : List Row) → deep ≡ true → length path ≡ 0 → new ≡ [] → IsCut picks deep path old new
cut_whole picks deep path old new whole none empty =
    subst (λ b. IsCut picks b path old new) (sym whole) (subst (λ p. IsCut picks true p old new) (sym (no_keys path none)) (record {
      any = λ t. ap (list_any t) empty ∙ sym (none_stays picks t old);
    }))

equal_of : (o : Ordering) → is_eq o ≡ true → o ≡ Equal
equal_of Less h = absurd (cc)
equal_of Equal h = refl
equal_of Greater h = absurd (cc)

pub keys_exact : (k x : List ℕ) → at_key k x ≡ true → k ≡ x
keys_exact k x h = slice_cmp-IsAntisymmetric nat_cmp-IsAntisymmetric k x (equal_of _ h)

pub same_some : {A : Type 0} (a b : A) → Some a ≡ Some b → a ≡ b
same_some a b h = cc

abbrev pub AreOthers : List ℕ → List (List ℕ × List Row) → Type 0
AreOthers k cs = AllByRecursion (λ y. at_key k y ≡ false) (map (λ c. c.0) cs)

pub others_above : (k x : List ℕ) (cs : List (List ℕ × List Row)) → k ≡ x → AllByRecursion (λ y. key_cmp x y ≡ Less) (map (λ c. c.0) cs) → AreOthers k cs
others_above k x [] is h = tt
others_above k x (c ∷ cs) is h = (ap (λ z. is_eq (key_cmp z c.0)) is ∙ ap is_eq h.0, others_above k x cs is h.1)

pub others_none : (k : List ℕ) (cs : List (List ℕ × List Row)) → lookup (at_key k) cs ≡ None → AreOthers k cs
others_none k [] none = tt
others_none k (c ∷ cs) none =
    elim (at_key k c.0) as (λ b. at_key k c.0 ≡ b → cond b (Some c.1) (lookup (at_key k) cs) ≡ None → AreOthers k (c ∷ cs)) [
      | true ↦ λ e h. absurd (cc)
      | false ↦ λ e h. (e, others_none k cs h)
    ] refl none

untouched_one : (picks : Leaf → Bool) (deep : Bool) (k : List ℕ) (p : List (List ℕ)) (t : Row → Bool) (c : List ℕ × List Row) → at_key k c.0 ≡ false → below_passes (stays picks deep (k ∷ p) t) c ≡ below_passes t c
untouched_one picks deep k p t c e =
    (λ i. list_any (λ r. t (under c.0 r) && not (e i && goes picks deep p r.path r.leaf)) c.1) ∙ (λ i. list_any (λ r. and-true (t (under c.0 r)) i) c.1)

untouched : (picks : Leaf → Bool) (deep : Bool) (k : List ℕ) (p : List (List ℕ)) (t : Row → Bool) (cs : List (List ℕ × List Row)) → AreOthers k cs → list_any (below_passes (stays picks deep (k ∷ p) t)) cs ≡ list_any (below_passes t) cs
untouched picks deep k p t [] h = refl
untouched picks deep k p t (c ∷ cs) h = ap (λ b. b || list_any (below_passes (stays picks deep (k ∷ p) t)) cs) (untouched_one picks deep k p t c h.0) ∙ ap (λ b. below_passes t c || b) (untouched picks deep k p t cs h.1)

cut_child : (picks : Leaf → Bool) (deep : Bool) (k : List ℕ) (p : List (List ℕ)) (t : Row → Bool) (old new : List Row) (cs : List (List ℕ × List Row)) → IsStrictlySortedBy key_cmp (map (λ c. c.0) cs) → lookup (at_key k) cs ≡ Some old → IsCut picks deep p old new
    → list_any (below_passes t) (set_value (at_key k) cs new) ≡ list_any (below_passes (stays picks deep (k ∷ p) t)) cs
unfolding IsStrictlySortedBy
cut_child picks deep k p t old new [] rise here is = refl
cut_child picks deep k p t old new (c ∷ cs) rise here is =
    elim (at_key k c.0) as (λ b. at_key k c.0 ≡ b → cond b (Some c.1) (lookup (at_key k) cs) ≡ Some old → list_any (below_passes t) (cond b ((c.0, new) ∷ cs) (c ∷ set_value (at_key k) cs new)) ≡ (below_passes (stays picks deep (k ∷ p) t) c || list_any (below_passes (stays picks deep (k ∷ p) t)) cs)) [
      | true ↦ λ e h.
          ap (λ b. b || list_any (below_passes t) cs) (is.any (λ r. t (under c.0 r)) ∙ ap (list_any (λ r. t (under c.0 r) && not (goes picks deep p r.path r.leaf))) (sym (same_some c.1 old h))
          ∙ sym (λ i. list_any (λ r. t (under c.0 r) && not (e i && goes picks deep p r.path r.leaf)) c.1))
          ∙ ap (λ b. below_passes (stays picks deep (k ∷ p) t) c || b) (sym (untouched picks deep k p t cs (others_above k c.0 cs (keys_exact k c.0 e) rise.0)))
      | false ↦ λ e h. ap (λ b. b || list_any (below_passes t) (set_value (at_key k) cs new)) (sym (untouched_one picks deep k p t c e)) ∙ ap (λ b. below_passes (stays picks deep (k ∷ p) t) c || b) (cut_child picks deep k p t old new cs rise.1 h is)
    ] refl here

-- leaves with longer paths stay where they are
here_stays : (picks : Leaf → Bool) (deep : Bool) (k : List ℕ) (p : List (List ℕ)) (t : Row → Bool) (leaves : List Leaf) → list_any (λ l. stays picks deep (k ∷ p) t (at_end l)) leaves ≡ list_any (λ l. t (at_end l)) leaves
here_stays picks deep k p t leaves i = list_any (λ l. and-true (t (at_end l)) i) leaves

-- from what passes below to all rows
below_is_cut : (picks : Leaf → Bool) (deep : Bool) (path : List (List ℕ)) (k : List ℕ) (p : List (List ℕ)) (old new : List Row) (leaves : List Leaf) (cs ds : List (List ℕ × List Row)) → path ≡ k ∷ p → rows_in_node leaves cs ≡ old → rows_in_node leaves ds ≡ new
    → ((t : Row → Bool) → list_any (below_passes t) ds ≡ list_any (below_passes (stays picks deep (k ∷ p) t)) cs) → IsCut picks deep path old new
below_is_cut picks deep path k p old new leaves cs ds split is was below =
    subst (λ q. IsCut picks deep q old new) (sym split) (record {
      any = λ t. ap (list_any t) (sym was) ∙ any-rows t leaves ds ∙ ap (λ b. list_any (λ l. t (at_end l)) leaves || b) (below t) ∙ ap (λ b. b || list_any (below_passes (stays picks deep (k ∷ p) t)) cs) (sym (here_stays picks deep k p t leaves))
          ∙ sym (any-rows (stays picks deep (k ∷ p) t) leaves cs) ∙ ap (list_any (stays picks deep (k ∷ p) t)) is;
    })

pub cut_none : (picks : Leaf → Bool) (deep : Bool) (path : List (List ℕ)) (k : List ℕ) (p : List (List ℕ)) (old new : List Row) (leaves : List Leaf) (cs ds : List (List ℕ × List Row)) → path ≡ k ∷ p → rows_in_node leaves cs ≡ old → rows_in_node leaves ds ≡ new
    → ds ≡ cs → None ≡ lookup (at_key k) cs → IsCut picks deep path old new
cut_none picks deep path k p old new leaves cs ds split is was same none =
    below_is_cut picks deep path k p old new leaves cs ds split is was (λ t. ap (list_any (below_passes t)) same ∙ sym (untouched picks deep k p t cs (others_none k cs (sym none))))

pub cut_some : (picks : Leaf → Bool) (deep : Bool) (path : List (List ℕ)) (k : List ℕ) (p : List (List ℕ)) (old new child less : List Row) (leaves : List Leaf) (cs ds : List (List ℕ × List Row)) → path ≡ k ∷ p → rows_in_node leaves cs ≡ old → rows_in_node leaves ds ≡ new
    → ds ≡ set_value (at_key k) cs less → Some child ≡ lookup (at_key k) cs → IsStrictlySortedBy key_cmp (map (λ c. c.0) cs) → IsCut picks deep p child less → IsCut picks deep path old new
cut_some picks deep path k p old new child less leaves cs ds split is was set here rise one =
    below_is_cut picks deep path k p old new leaves cs ds split is was (λ t. ap (list_any (below_passes t)) set ∙ cut_child picks deep k p t child less cs rise (sym here) one)

pub cut_all : (picks : Leaf → Bool) (deep : Bool) (path : List (List ℕ)) (k : List ℕ) (p : List (List ℕ)) (old new child less : List Row) (leaves : List Leaf) (cs ds es : List (List ℕ × List Row)) → path ≡ k ∷ p → rows_in_node leaves cs ≡ old → rows_in_node leaves es ≡ new
    → ds ≡ set_value (at_key k) cs less → es ≡ remove_entry (at_key k) ds → less ≡ [] → Some child ≡ lookup (at_key k) cs → IsStrictlySortedBy key_cmp (map (λ c. c.0) cs) → IsCut picks deep p child less → IsCut picks deep path old new
cut_all picks deep path k p old new child less leaves cs ds es split is was set gone none here rise one =
    below_is_cut picks deep path k p old new leaves cs es split is was (λ t.
    ap (list_any (below_passes t)) (gone ∙ ap (remove_entry (at_key k)) (set ∙ ap (set_value (at_key k) cs) none)) ∙ any-removed (at_key k) (λ x r. t (under x r)) cs ∙ ap (λ rows. list_any (below_passes t) (set_value (at_key k) cs rows)) (sym none) ∙ cut_child picks deep k p t child less cs rise (sym here) one)

pub not_full : {X : Type 0} (rows : List X) (b : Bool) → b ≡ not (is_filled rows) → b ≡ true → rows ≡ []
not_full [] b h t = refl
not_full (r ∷ rows) b h t = absurd (cc)

pub full_of : {X : Type 0} (rows : List X) (b : Bool) → b ≡ not (is_filled rows) → b ≡ false → is_filled rows ≡ true
full_of [] b h f = absurd (cc)
full_of (r ∷ rows) b h f = refl

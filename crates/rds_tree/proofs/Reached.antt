-- Which entries a view at a path comes from.
use Rattle.std.proofs.Common.{◌≡◌, ℕ, Bool, true, false, cond, List, [], ◌∷◌, ◌++◌, refl, sym, ◌∙◌, ap}
use Rattle.std.specs.Prelude.{Some, None}
use Rattle.std.specs.List.{list_any}
use Rattle.std.specs.Ordering.{eq_by_cmp, is_eq}
use Rattle.std.specs.Cmp.{tied_itself}
use Rattle.std.specs.FinMap.{nat_cmp-IsAntisymmetric, slice_cmp-IsAntisymmetric}
use Rattle.rds_names.specs.declared.scalar.Scalar.{Scalar}
use Rattle.rds_names.specs.declared.entry.Kind.{Kind}
use Rattle.rds_names.specs.declared.entry.Kind.TheVariants.{Reg, Elem}
use Rattle.rds_tree.specs.Document.{Placed}
use Rattle.rds_names.specs.Orders.{scalar_cmp}
use Rattle.rds_names.proofs.Orders.{scalars_exact}
use Rattle.rds_tree.proofs.ScalarOrder.{scalars_total}
use Rattle.rds_tree.specs.View.{below, below_path, is_that_kind, same_key, step_into, value_here}
use Rattle.rds_names.specs.Conditions.{equal_of}
use Rattle.rds_tree.proofs.Kids.{itself}
use Rattle.rds_tree.proofs.SameView.{passes, any-filter_map}

abbrev pub placed_at : List (List ℕ) → Kind → Scalar → Placed
placed_at path kind value = record { path = path; kind = kind; value = value }

pub keys_exact : (k x : List ℕ) → same_key k x ≡ true → k ≡ x
keys_exact k x h = slice_cmp-IsAntisymmetric nat_cmp-IsAntisymmetric k x (equal_of _ h)

-- whether an entry stands at the path or below, and passes as seen from there
pub reaches : (Placed → Bool) → List (List ℕ) → Placed → Bool
reaches t [] e = t e
reaches t (k ∷ path) e = passes (reaches t path) (step_into k e.kind e.value e.path)

pub any-below_path : (t : Placed → Bool) (path : List (List ℕ)) (es : List Placed) → list_any t (below_path path es) ≡ list_any (reaches t path) es
unfolding reaches
any-below_path t [] es = refl
any-below_path t (k ∷ path) es = any-below_path t path (below k es) ∙ any-filter_map (reaches t path) (λ e. step_into k e.kind e.value e.path) es

pub any-below : (t : Placed → Bool) (k : List ℕ) (es : List Placed) → list_any t (below k es) ≡ list_any (reaches t (k ∷ [])) es
unfolding reaches
any-below t k es = any-filter_map t (λ e. step_into k e.kind e.value e.path) es

abbrev Reached : (Placed → Bool) → List (List ℕ) → Kind → Scalar → List (List ℕ) → Type 0
Reached t path kind value at = (rest : List (List ℕ)) × ((at ≡ path ++ rest) × (t (placed_at rest kind value) ≡ true))

pub reached : (t : Placed → Bool) (path : List (List ℕ)) (kind : Kind) (value : Scalar) (at : List (List ℕ)) → reaches t path (placed_at at kind value) ≡ true → Reached t path kind value at
unfolding reaches
reached t [] kind value at h = (at, (refl, h))
reached t (k ∷ path) kind value [] h = absurd (cc)
reached t (k ∷ path) kind value (x ∷ at) h =
    elim (same_key x k) as (λ b. same_key x k ≡ b → passes (reaches t path) (cond b (Some (placed_at at kind value)) None) ≡ true → Reached t (k ∷ path) kind value (x ∷ at)) [
      | true ↦ λ is g. let r = reached t path kind value at g in (r.0, (ap (λ y. y ∷ at) (keys_exact x k is) ∙ ap (λ ks. k ∷ ks) r.1.0, r.1.1))
      | false ↦ λ _ g. absurd (cc)
    ] refl h

pub is_reached : (t : Placed → Bool) (path : List (List ℕ)) (kind : Kind) (value : Scalar) (rest : List (List ℕ)) → t (placed_at rest kind value) ≡ true → reaches t path (placed_at (path ++ rest) kind value) ≡ true
unfolding reaches
is_reached t [] kind value rest h = h
is_reached t (k ∷ path) kind value rest h = ap (λ b. passes (reaches t path) (cond b (Some (placed_at (path ++ rest) kind value)) None)) (itself k) ∙ is_reached t path kind value rest h

-- whether an entry is the value right here
abbrev pub is_here : Kind → Scalar → Placed → Bool
is_here kind value e = passes (eq_by_cmp scalar_cmp value) (value_here kind e.kind e.value e.path)

-- the path right here
abbrev no_keys : List (List ℕ)
no_keys = []

same_kind : (a b : Kind) → is_that_kind a b ≡ true → b ≡ a
same_kind Reg Reg h = refl
same_kind Elem Elem h = refl
same_kind Reg Elem h = absurd (cc)
same_kind Elem Reg h = absurd (cc)

kind_itself : (a : Kind) → is_that_kind a a ≡ true
kind_itself Reg = refl
kind_itself Elem = refl

pub here_is : (kind : Kind) (value : Scalar) (k : Kind) (v : Scalar) (path : List (List ℕ)) → is_here kind value (placed_at path k v) ≡ true → (path ≡ []) × ((k ≡ kind) × (v ≡ value))
here_is kind value k v (x ∷ path) h = absurd (cc)
here_is kind value k v [] h =
    elim (is_that_kind kind k) as (λ b. is_that_kind kind k ≡ b → passes (eq_by_cmp scalar_cmp value) (cond b (Some v) None) ≡ true → (no_keys ≡ []) × ((k ≡ kind) × (v ≡ value))) [
      | true ↦ λ is g. (refl, (same_kind kind k is, sym (scalars_exact value v (equal_of _ g))))
      | false ↦ λ _ g. absurd (cc)
    ] refl h

pub here_itself : (kind : Kind) (value : Scalar) → is_here kind value (placed_at [] kind value) ≡ true
here_itself kind value = ap (λ b. passes (eq_by_cmp scalar_cmp value) (cond b (Some value) None)) (kind_itself kind) ∙ ap is_eq (tied_itself scalars_total value)

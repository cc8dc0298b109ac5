-- A state's size is how many components it has.
use Rattle.std.proofs.Common.{◌≡◌, suc, ◌+◌, ◌<◌, true, false, cond, List, [], ◌∷◌, ◌++◌, length, length-append, Option}
use Rattle.std.proofs.Common.{Some, None, refl, sym, ◌∙◌, ap, arith, inl, inr}
use Rattle.std.specs.Prelude.{map as each, is_some}
use mathlib.Core.Bool.{false≢true}
use Rattle.std.specs.List.{AllByRecursion}
use Rattle.std.specs.Ordering.{is_lt, eq_by_cmp}
use Rattle.std.specs.declared.cmp.Ordering.{Ordering}
use Rattle.std.specs.declared.cmp.Ordering.TheVariants.{Less, Equal}
use Rattle.std.specs.Cmp.{IsTotalOrder}
use Rattle.std.specs.FinMap as map
use Rattle.std.specs.FinMap.Entries.{find, is_sorted, below_all}
use Rattle.std.proofs.lemmas.Cmp.{tied_itself}
use Rattle.rds_dots.specs.declared.dot.Dot.{Dot}
use Rattle.rds_names.specs.Conditions.{and_left, and_right, less_of, true_of, equal_of}
use Rattle.rds_dots.specs.Order.{dots_total, dots_exact}
use Rattle.rds_counts.specs.Place.{Place}
use Rattle.rds_counts.specs.PlaceOrder.{place_total, place_exact}
use Rattle.rds_counts.specs.Counted.{Above, number_from}
use Rattle.rds_life.specs.Life.{Life}
use Rattle.rds_state.specs.Coordinates.{Coordinate, AtDot, AtPlace, IsComponent}
use Rattle.rds_state.specs.Value.{StateValue, coordinates, size}
use Rattle.rds_delta.specs.Sized.{IsListed, AreDistinct, HasComponents}
use Rattle.rds_delta.proofs.Bounds.{all_append, all_each, all_entries}

listed_left : (c : Coordinate) (xs ys : List Coordinate) → IsListed c xs → IsListed c (xs ++ ys)
listed_left c [] ys h = absurd h
listed_left c (x ∷ xs) ys (inl e) = inl e
listed_left c (x ∷ xs) ys (inr h) = inr (listed_left c xs ys h)

listed_right : (c : Coordinate) (xs ys : List Coordinate) → IsListed c ys → IsListed c (xs ++ ys)
listed_right c [] ys h = h
listed_right c (x ∷ xs) ys h = inr (listed_right c xs ys h)

distinct_append : (xs ys : List Coordinate) → AreDistinct xs → AreDistinct ys → AllByRecursion (λ x. AllByRecursion (λ y. ¬ (x ≡ y)) ys) xs → AreDistinct (xs ++ ys)
distinct_append [] ys p q apart = q
distinct_append (x ∷ xs) ys p q apart = (all_append (λ y. ¬ (x ≡ y)) xs ys p.0 apart.0, distinct_append xs ys p.1 q apart.1)

length-each : {A B : Type 0} (f : A → B) (xs : List A) → length (each f xs) ≡ length xs
length-each f [] = refl
length-each f (x ∷ xs) = ap (λ n. suc n) (length-each f xs)

module _ {K X : Type 0} (R : K → K → Ordering) (total : IsTotalOrder R) (exact : (x y : K) → R x y ≡ Equal → x ≡ y) (f : K → Coordinate) (same : (x y : K) → f x ≡ f y → x ≡ y) where
  listed : (k : K) (es : List (K × X)) → is_some (find R k es) ≡ true → IsListed (f k) (each (λ e. f e.0) es)
  listed k [] found = absurd (false≢true found)
  listed k (e ∷ es) found =
      let again = listed k es in
      elim (eq_by_cmp R k e.0) as (λ b. eq_by_cmp R k e.0 ≡ b → is_some (cond b (Some e.1) (find R k es)) ≡ true → IsListed (f k) (each (λ x. f x.0) (e ∷ es))) [
        | true ↦ λ is _. inl (ap f (sym (exact k e.0 (equal_of (R k e.0) is))))
        | false ↦ λ _ h. inr (again h)
      ] refl found

  apart : (k : K) (es : List (K × X)) → below_all R k es ≡ true → AllByRecursion (λ y. ¬ (f k ≡ y)) (each (λ e. f e.0) es)
  apart k [] below = tt
  apart k (e ∷ es) below = (
    (λ is. differ (R k e.0) (less_of (R k e.0) (and_left _ (below_all R k es) below)) (ap (λ x. R x e.0) (same k e.0 is) ∙ tied_itself total e.0)),
    apart k es (and_right (is_lt (R k e.0)) _ below),
  )
    where
      differ : (o : Ordering) → o ≡ Less → o ≡ Equal → ⊥
      differ o a b = cc

  distinct : (es : List (K × X)) → is_sorted R es ≡ true → AreDistinct (each (λ e. f e.0) es)
  distinct [] rise = tt
  distinct (e ∷ es) rise = (apart e.0 es (and_left _ (is_sorted R es) rise), distinct es (and_right (below_all R e.0 es) _ rise))

one_dot : (d e : Dot) → AtDot d ≡ AtDot e → d ≡ e
one_dot d e h = cc

one_place : (p q : Place) → AtPlace p ≡ AtPlace q → p ≡ q
one_place p q h = cc

no_place : (d : Dot) (q : Place) → AtDot d ≡ AtPlace q → ⊥
no_place d q h = cc

no_places : (d : Dot) (es : List (Place × Above)) → AllByRecursion (λ y. ¬ (AtDot d ≡ y)) (each (λ e. AtPlace e.0) es)
no_places d [] = tt
no_places d (e ∷ es) = (no_place d e.0, no_places d es)

no_dots : (ds : List (Dot × Life)) (es : List (Place × Above)) → AllByRecursion (λ x. AllByRecursion (λ y. ¬ (x ≡ y)) (each (λ e. AtPlace e.0) es)) (each (λ d. AtDot d.0) ds)
no_dots [] es = tt
no_dots (d ∷ ds) es = (no_places d.0 es, no_dots ds es)

above_some : (o : Option Above) → 0 < number_from o → is_some o ≡ true
above_some None h = absurd (omega arith)
above_some (Some a) h = refl

pub size_counts : (v : StateValue) → HasComponents (coordinates v) (size v)
size_counts v =
    let ds = map.entries v.lives in
    let es = map.entries v.counts in
    let dots = each (λ (d : Dot × Life). AtDot d.0) ds in
    let places = each (λ (e : Place × Above). AtPlace e.0) es in
    let a = coordinates v in
    record {
      list = dots ++ places;
      components = all_append (IsComponent a) dots places
          (all_each (IsComponent a) (λ d. AtDot d.0) ds (all_entries _ dots_total dots_exact (λ d. IsComponent a (AtDot d.0)) v.lives (λ k x is. ap is_some is)))
          (all_each (IsComponent a) (λ e. AtPlace e.0) es (all_entries _ place_total place_exact (λ e. IsComponent a (AtPlace e.0)) v.counts (λ k x is. (let n : a.number k ≡ x.before + 1 = ap number_from is in omega arith))));
      all = each_listed;
      once = distinct_append dots places (distinct _ dots_total dots_exact AtDot one_dot ds (true_of _ (map.entries_sorted v.lives))) (distinct _ place_total place_exact AtPlace one_place es (true_of _ (map.entries_sorted v.counts))) (no_dots ds es);
      count = (let n = length-append dots places in let l = length-each (λ (d : Dot × Life). AtDot d.0) ds in let c = length-each (λ (e : Place × Above). AtPlace e.0) es in let m = map.len-entries v.lives in let k = map.len-entries v.counts in omega arith);
    }
  where
    each_listed : (c : Coordinate) → IsComponent (coordinates v) c → IsListed c (each (λ (d : Dot × Life). AtDot d.0) (map.entries v.lives) ++ each (λ (e : Place × Above). AtPlace e.0) (map.entries v.counts))
    each_listed (AtDot d) h = listed_left (AtDot d) _ _ (listed _ dots_total dots_exact AtDot one_dot d (map.entries v.lives) (ap is_some (sym (map.get-entries v.lives d)) ∙ h))
    each_listed (AtPlace q) h = listed_right (AtPlace q) (each (λ (d : Dot × Life). AtDot d.0) (map.entries v.lives)) _ (listed _ place_total place_exact AtPlace one_place q (map.entries v.counts) (ap is_some (sym (map.get-entries v.counts q)) ∙ above_some (map.get v.counts q) h))

-- What stands at a key of a view stands there too where the view shows that key alone.
use Rattle.std.proofs.Common.{◌≡◌, ℕ, true, false, cond, List, [], ◌∷◌, refl, sym, ◌∙◌, ap}
use Rattle.std.specs.Prelude.{ℤ, codes, Option, Some, None}
use Rattle.std.specs.Option.{option_map}
use Rattle.std.specs.Str.{bytes_eq}
use Rattle.serde_json.specs.Data.{no_members, object, put}
use Rattle.rds_names.specs.declared.scalar.Scalar.{Scalar}
use Rattle.rds_tree.specs.Parts.{only_key, only_rows}
use Rattle.rds_tree.specs.Shown.{Shown, shows}
use Rattle.rds_tree.proofs.Growing.{same_test}
use Rattle.rds_json.specs.Show.{scalars_data}
use Rattle.rds_json.specs.Standing.{counter_standing, counter_data, standing_data, sum_standing, values_at}

pub values_at-only : (key : List ℕ) (rows : List (List ℕ × List Scalar)) → values_at key (only_rows key rows) ≡ values_at key rows
values_at-only key [] = refl
values_at-only key (r ∷ rows) =
    ap (λ b. values_at key (cond b (r ∷ only_rows key rows) (only_rows key rows))) (sym (same_test r.0 key))
    ∙ elim (bytes_eq r.0 key) as (λ b. bytes_eq r.0 key ≡ b → values_at key (cond b (r ∷ only_rows key rows) (only_rows key rows)) ≡ cond b r.1 (values_at key rows)) [
      | true ↦ λ is. ap (λ b. cond b r.1 (values_at key (only_rows key rows))) is
      | false ↦ λ _. values_at-only key rows
    ] refl

pub sum_at-only : (key : List ℕ) (rows : List (List ℕ × ℤ)) → sum_standing key (only_rows key rows) ≡ sum_standing
    key rows
sum_at-only key [] = refl
sum_at-only key (r ∷ rows) =
    ap (λ b. sum_standing key (cond b (r ∷ only_rows key rows) (only_rows key rows))) (sym (same_test r.0 key))
    ∙ elim (bytes_eq r.0 key) as (λ b. bytes_eq r.0 key ≡ b → sum_standing key (cond b (r ∷ only_rows key rows) (only_rows key rows)) ≡ cond b (Some r.1) (sum_standing key rows)) [
      | true ↦ λ is. ap (λ b. cond b (Some r.1) (sum_standing key (only_rows key rows))) is
      | false ↦ λ _. sum_at-only key rows
    ] refl

pub counter_at-only : (key : List ℕ) (counters : Option (List (List ℕ × ℤ))) → counter_standing key (option_map (only_rows key) counters) ≡ counter_standing key counters
counter_at-only key None = refl
counter_at-only key (Some sums) = sum_at-only key sums

pub standing-only : (key : List ℕ) (shown : Shown) → standing_data key (only_key key shown) ≡ standing_data key shown
standing-only key (shows maps regs sets counters) = λ i. object (put (codes "set") (scalars_data (values_at-only key sets i)) (put (codes "reg") (scalars_data (values_at-only key regs i)) (put (codes "counter") (counter_data (counter_at-only key counters i)) no_members)))

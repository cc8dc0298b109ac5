-- A run inserted among others, by the places of those that it touches.
use Rattle.std.proofs.Common.{◌≡◌, ℕ, suc, zero, ◌+◌, ◌*◌, ◌-◌, ◌<◌, ◌≤◌, true, false, cond, ◌&&◌, List, [], ◌∷◌, ◌++◌}
use Rattle.std.proofs.Common.{length, get_or, take, drop, slice_set, Some, refl, sym, ◌∙◌, ap, subst, arith, ltb}
use Rattle.std.proofs.Common.{append_assoc, Result, Ok, Err, OnOk}
use Rattle.std.proofs.lemmas.List.{drop_more, drop-set-lt}
use Rattle.std.proofs.Math.Seq.{take-suc-set}
use Rattle.std.specs.List.{remove_range}
use Rattle.std.specs.Ordering.{is_lt, nat_cmp, ordering_then}
use Rattle.std.proofs.lemmas.Bool.Decides.{nat_tests}
use Rattle.rds_dots.specs.declared.dot.Dot.{Dot}
use Rattle.rds_dots.specs.declared.dot.Run.{Run}
use Rattle.rds_dots.specs.Dots.{is_dot}
use Rattle.rds_dots.specs.Runs.{dot_place, start, stop, is_run, are_maximal}
use Rattle.rds_dots.specs.RunFacts.{Bounds, bounds_of, lt_of, start_stop, covers_is}
use Rattle.rds_dots.specs.RunsOf.{runs_unique}
use Rattle.rds_gaps.specs.Added.{addition, last_start}
use Rattle.rds_gaps.specs.Lookup.{IsParted}
use Rattle.rds_gaps.specs.Inserted.{hull, insertion, IsCoalesced, ReachesRun}
use Rattle.rds_gaps.proofs.Facts.{not_lt}
use Rattle.rds_gaps.proofs.Lasts.{run_at}
use Rattle.rds_gaps.proofs.Inserts.{bounds-hull, start-hull, inserted_union}
use Rattle.rds_gaps.proofs.Unions.{added_union}

inserted_apart : (r : Run) (rs : List Run) (z : Run) → ltb (stop r + 1) (start z) ≡ true → insertion (r ∷ rs) z ≡ r ∷ insertion rs z
inserted_apart r rs z e = ap (λ b. cond b (r ∷ insertion rs z) (cond (ltb (stop z + 1) (start r)) (z ∷ r ∷ rs) (insertion rs (hull r z)))) e

inserted_before : (r : Run) (rs : List Run) (z : Run) → ltb (stop r + 1) (start z) ≡ false → ltb (stop z + 1) (start r) ≡ true → insertion (r ∷ rs) z ≡ z ∷ r ∷ rs
inserted_before r rs z e f =
    ap (λ b. cond b (r ∷ insertion rs z) (cond (ltb (stop z + 1) (start r)) (z ∷ r ∷ rs) (insertion rs (hull r z)))) e
    ∙ ap (λ b. cond b (z ∷ r ∷ rs) (insertion rs (hull r z))) f

inserted_touching : (r : Run) (rs : List Run) (z : Run) → ltb (stop r + 1) (start z) ≡ false → ltb (stop z + 1) (start r) ≡ false → insertion (r ∷ rs) z ≡ insertion rs (hull r z)
inserted_touching r rs z e f =
    ap (λ b. cond b (r ∷ insertion rs z) (cond (ltb (stop z + 1) (start r)) (z ∷ r ∷ rs) (insertion rs (hull r z)))) e
    ∙ ap (λ b. cond b (z ∷ r ∷ rs) (insertion rs (hull r z))) f

-- the runs that end before it stay
pub inserted_front : (rs : List Run) (i : ℕ) (z : Run) → ((k : ℕ) (d : Run) → k < i → k < length rs → ltb (stop (get_or rs k d) + 1) (start z) ≡ true) → insertion rs z ≡ take i rs ++ insertion (drop i rs) z
inserted_front [] zero z each = refl
inserted_front [] (suc i) z each = refl
inserted_front (r ∷ rs) zero z each = refl
inserted_front (r ∷ rs) (suc i) z each = inserted_apart r rs z (each 0 r (omega arith) (omega arith)) ∙ ap (λ l. r ∷ l) (inserted_front rs i z (λ k d lt l. each (suc k) d (omega arith) (omega arith)))

-- where the coalescing stands
pub record Coalescing (rs : List Run) (from : ℕ) (z : Run) (to : ℕ) (whole : Run) : Type 0 where
  pub in_order : from ≤ to
  pub within : to ≤ length rs
  pub is : Bounds whole
  pub low : start whole ≤ start z
  pub same : insertion (drop from rs) z ≡ insertion (drop to rs) whole
  pub alone : to ≡ from → whole ≡ z

pub begin_coalescing : (rs : List Run) (from : ℕ) (z : Run) → from ≤ length rs → is_run z ≡ true → Coalescing rs from z from z
begin_coalescing rs from z le is = record { in_order = omega arith; within = le; is = bounds_of z is; low = omega arith; same = refl; alone = λ _. refl }

pub coalesce_more : (rs : List Run) (from : ℕ) (z : Run) (to : ℕ) (whole none more : Run) → are_maximal rs ≡ true → ReachesRun rs from z → Coalescing rs from z to whole → to < length rs → false ≡ ltb (stop whole + 1) (start (get_or rs to none)) → more ≡ hull (get_or rs to none) whole → Coalescing rs from z (to + 1) more
coalesce_more rs from z to whole none more max reach d lt touch e =
    let r = get_or rs to none in
    let in_order = d.in_order in
    let low = d.low in
    let reaches : start z ≤ stop r + 1 = reach to none in_order lt in
    let b : Bounds r = bounds_of r (run_at rs max none to lt) in
    let parts : drop to rs ≡ r ∷ drop (to + 1) rs = drop_more rs to none lt in
    let less = start-hull r whole in
    let all : Coalescing rs from z (to + 1) (hull r whole) = record {
      in_order = omega arith;
      within = omega arith;
      is = bounds-hull r whole b d.is;
      low = omega arith;
      same = d.same ∙ ap (λ l. insertion l whole) parts ∙ inserted_touching r (drop (to + 1) rs) whole (not_lt (stop r + 1) (start whole) (omega arith)) (sym touch);
      alone = λ h. absurd (omega arith);
    } in
    subst (Coalescing rs from z (to + 1)) (sym e) all

pub end_coalescing : (rs : List Run) (from : ℕ) (z : Run) (to : ℕ) (whole none : Run) → are_maximal rs ≡ true → Coalescing rs from z to whole → to < length rs → true ≡ ltb (stop whole + 1) (start (get_or rs to none)) → IsCoalesced rs from z to whole
end_coalescing rs from z to whole none max d lt apart =
    let r = get_or rs to none in
    let b : Bounds r = bounds_of r (run_at rs max none to lt) in
    let c = d.is in
    let parts : drop to rs ≡ r ∷ drop (to + 1) rs = drop_more rs to none lt in
    let past = lt_of (stop whole + 1) (start r) (sym apart) in
    let rise = start_stop r b in
    let rise' = start_stop whole c in
    record {
      in_order = d.in_order;
      within = d.within;
      same = d.same ∙ ap (λ l. insertion l whole) parts ∙ inserted_before r (drop (to + 1) rs) whole (not_lt (stop r + 1) (start whole) (omega arith)) (sym apart) ∙ ap (λ l. whole ∷ l) (sym parts);
      alone = d.alone;
    }

none_left : (rs : List Run) (i : ℕ) → length rs ≤ i → drop i rs ≡ []
none_left [] zero le = refl
none_left [] (suc i) le = refl
none_left (r ∷ rs) zero le = absurd (omega arith)
none_left (r ∷ rs) (suc i) le = none_left rs i (omega arith)

pub coalesced_all : (rs : List Run) (from : ℕ) (z : Run) (to : ℕ) (whole : Run) → Coalescing rs from z to whole → length rs ≤ to → IsCoalesced rs from z to whole
coalesced_all rs from z to whole d le =
    let none = none_left rs to le in
    record { in_order = d.in_order; within = d.within; same = d.same ∙ ap (λ l. insertion l whole) none ∙ ap (λ l. whole ∷ l) (sym none); alone = d.alone }

-- ---- the place where the run begins to touch

ends_apart : (a lo ρ hi : ℕ) → 1 ≤ lo → hi ≤ 281474976710655 → is_lt (ordering_then (nat_cmp a ρ) (nat_cmp (lo - 2) hi)) ≡ false → 1 ≤ hi → lo ≤ 281474976710655 → ltb ((ρ * 281474976710656 + hi) + 1) (a * 281474976710656 + lo) ≡ true
ends_apart a lo ρ hi p q h r s = grind (arith, nat_tests)

ends_near : (a lo ρ hi : ℕ) → lo ≤ 281474976710655 → is_lt (ordering_then (nat_cmp a ρ) (nat_cmp (lo - 2) hi)) ≡ true → 1 ≤ hi → a * 281474976710656 + lo ≤ (ρ * 281474976710656 + hi) + 1
ends_near a lo ρ hi p h r = grind (arith, nat_tests)

abbrev pub dot_before : Run → Dot
dot_before z = record { replica = z.replica; seq = z.lo - 2 }

pub reaches_from : (rs : List Run) → are_maximal rs ≡ true → (z : Run) → Bounds z → (i : ℕ) → IsParted (Some (dot_before z)) rs i → ReachesRun rs i z
reaches_from rs max z c i p k d le lt =
    let r = get_or rs k d in
    let b = bounds_of r (run_at rs max d k lt) in
    let rises = b.rises in let one = b.one in let up = c.rises in let most = c.most in
    ends_near z.replica z.lo r.replica r.hi (omega arith) (p.from k d le lt) (omega arith)

pub apart_below : (rs : List Run) → are_maximal rs ≡ true → (z : Run) → Bounds z → (i : ℕ) → IsParted (Some (dot_before z)) rs i → (k : ℕ) (d : Run) → k < i → k < length rs → ltb (stop (get_or rs k d) + 1) (start z) ≡ true
apart_below rs max z c i p k d lt l =
    let r = get_or rs k d in
    let b = bounds_of r (run_at rs max d k l) in
    let rises = b.rises in let one = b.one in let up = c.rises in let most = c.most in
    ends_apart z.replica z.lo r.replica r.hi c.one b.most (p.below k d lt) (omega arith) (omega arith)

pub inserted_placed : (rs : List Run) → are_maximal rs ≡ true → (z : Run) → Bounds z → (i : ℕ) → IsParted (Some (dot_before z)) rs i → (to : ℕ) (whole : Run) → IsCoalesced rs i z to whole → insertion rs z ≡ take i rs ++ whole ∷ drop to rs
inserted_placed rs max z c i p to whole d = inserted_front rs i z (apart_below rs max z c i p) ∙ ap (λ l. take i rs ++ l) d.same

pub inserted_alone : (rs : List Run) → are_maximal rs ≡ true → (z : Run) → Bounds z → (i : ℕ) → IsParted (Some (dot_before z)) rs i → (to : ℕ) (whole : Run) → IsCoalesced rs i z to whole → i ≡ to → take i rs ++ z ∷ drop i rs ≡ insertion rs z
inserted_alone rs max z c i p to whole d e =
    sym (inserted_placed rs max z c i p to whole d ∙ ap (λ x. take i rs ++ x ∷ drop to rs) (d.alone (sym e)) ∙ ap (λ t. take i rs ++ z ∷ drop t rs) (sym e))

pub inserted_over : (rs : List Run) → are_maximal rs ≡ true → (z : Run) → Bounds z → (i : ℕ) → IsParted (Some (dot_before z)) rs i → (to : ℕ) (whole : Run) → IsCoalesced rs i z to whole → i < to → remove_range (slice_set rs i whole) (i + 1) to ≡ insertion rs z
inserted_over rs max z c i p to whole d lt =
    let within = d.within in
    let one : i + 1 ≡ suc i = omega arith in
    ap (λ n. take n (slice_set rs i whole) ++ drop to (slice_set rs i whole)) one
    ∙ ap (λ l. l ++ drop to (slice_set rs i whole)) (take-suc-set rs i whole (omega arith))
    ∙ ap (λ l. (take i rs ++ whole ∷ []) ++ l) (drop-set-lt to rs i whole lt)
    ∙ append_assoc (take i rs) (whole ∷ []) (drop to rs)
    ∙ sym (inserted_placed rs max z c i p to whole d)

-- behind the last of the runs, adding is the same
pub added_is_inserted : (rs : List Run) (z : Run) → are_maximal rs ≡ true → Bounds z → last_start rs ≤ start z → addition rs z ≡ insertion rs z
added_is_inserted rs z max c le =
    let a = added_union rs z max c le in
    let b = inserted_union rs z max c in
    runs_unique (addition rs z) (insertion rs z) a.maximal b.maximal (λ d.
    covers_is (addition rs z) a.maximal d ∙ ap (λ x. is_dot d && x) (a.same (dot_place d.replica d.seq) ∙ sym (b.same (dot_place d.replica d.seq))) ∙ sym (covers_is (insertion rs z) b.maximal d))

pub same_on_ok : {T E : Type 0} (r : Result T E) (new a b : List Run) → OnOk r (new ≡ a) → a ≡ b → OnOk r (new ≡ b)
same_on_ok (Ok x) new a b h e = h ∙ e
same_on_ok (Err x) new a b h e = tt

pub parted_at : (z : Run) (seq : ℕ) (rs old : List Run) (i : ℕ) → seq ≡ z.lo - 2 → rs ≡ old → (let d : Dot = record { replica = z.replica; seq = seq } in IsParted (Some d) rs i) → IsParted (Some (dot_before z)) old i
parted_at z seq rs old i e same p =
    let at : ℕ → Dot = λ n. record { replica = z.replica; seq = n } in
    subst (λ (l : List Run). IsParted (Some (dot_before z)) l i) same (subst (λ n. IsParted (Some (at n)) rs i) e p)

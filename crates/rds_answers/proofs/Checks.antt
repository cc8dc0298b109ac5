-- The tests of the definitions, and what the calls below answer.
use Rattle.std.proofs.Common.{◌≡◌, ◌<◌, ℕ, Bool, true, false, ◌||◌, ◌↔◌, List, [], ◌∷◌, ◌⊎◌, inl, inr, Option, Some, None, is_some, refl, sym, ap, ◌∙◌, subst, cond, arith}
use mathlib.Core.Bool.{false≢true}
use Rattle.std.specs.Bool.{Decides}
use Rattle.std.specs.Cmp.Lexicographic.{pointwise}
use Rattle.std.specs.FinMap as map
use Rattle.std.specs.List.{list_all, list_any}
use Rattle.std.specs.Cmp.{IsTotalOrder, tied_itself}
use Rattle.std.specs.Ordering.{eq_by_cmp, is_eq}
use Rattle.std.specs.declared.cmp.Ordering.{Ordering}
use Rattle.std.proofs.lemmas.Bool.Decides.{Decides-and, Decides-eqb, Decides-like, Decides-ltb, same_from_decides}
use Rattle.std.proofs.lemmas.Slice.Eq.{bytes_eq-Decides, slice_eq-Decides}
use Rattle.rds_names.specs.Conditions.{equal_of, and_true, and_left, and_right}
use Rattle.rds_dots.specs.declared.dot.Dot.{Dot}
use Rattle.rds_dots.specs.declared.dot.Run.{Run}
use Rattle.rds_dots.specs.Order.{dots_total, dots_exact}
use Rattle.rds_counts.specs.Counted.{Above, number, number_from}
use Rattle.rds_counts.specs.PlaceOrder.{place_total, place_exact}
use Rattle.rds_counts.specs.Place.{Place}
use Rattle.rds_counts.specs.declared.row.Which.{Which}
use Rattle.rds_counts.specs.declared.row.Which.TheVariants.{P, N}
use Rattle.rds_state.specs.Chosen.{same_dot}
use Rattle.rds_state.specs.Coordinates.{Coordinates}
use Rattle.rds_state.specs.Value.{StateValue, coordinates}
use Rattle.rds_state.proofs.JoinLaws.{same_value}
use Rattle.rds_delta.specs.Claims.{IsCertificate}
use Rattle.rds_delta.specs.Digested.{DigestValue, rank_in, ranks_in}
use Rattle.rds_delta.specs.Least.{IsAbove, least}
use Rattle.rds_delta.specs.Ranks.{life_rank}
use Rattle.rds_delta.specs.declared.row.Row.{Row}
use Rattle.rds_delta.specs.declared.row.Row.TheVariants.{Live, Dead, Count}
use Rattle.rds_delta.proofs.LeastLaws.{least_above}
use Rattle.rds_delta.proofs.Grouping.{certificate_is, grouped_certificate}
use Rattle.rds_codec.specs.AnswerTexts.{answer}
use Rattle.rds_answers.specs.Checked.{is_later, is_greater, is_all_above, is_same_run, same_which, same_row, certificate_of, least_state, passes, IsLeastDelta, IsOwnCertificate, PassesExactly}

-- ---- equal rows

dots_decide : (d e : Dot) → Decides (same_dot d e) (d ≡ e)
dots_decide d e = Decides-like (same_dot d e) (λ p. λ i. record { replica = p.0 i; seq = p.1 i }) (λ p. (ap (λ (x : Dot). x.replica) p, ap (λ (x : Dot). x.seq) p))
    (Decides-and _ _ (Decides-eqb d.replica e.replica) (Decides-eqb d.seq e.seq))

runs_decide : (r s : Run) → Decides (is_same_run r s) (r ≡ s)
runs_decide r s = Decides-like (is_same_run r s) (λ p. λ i. record { replica = p.0 i; lo = p.1.0 i; hi = p.1.1 i })
    (λ p. (ap (λ (x : Run). x.replica) p, (ap (λ (x : Run). x.lo) p, ap (λ (x : Run). x.hi) p)))
    (Decides-and _ _ (Decides-eqb r.replica s.replica) (Decides-and _ _ (Decides-eqb r.lo s.lo) (Decides-eqb r.hi s.hi)))

whiches_decide : (w x : Which) → Decides (same_which w x) (w ≡ x)
whiches_decide P P = (λ _. refl, λ _. refl)
whiches_decide N N = (λ _. refl, λ _. refl)
whiches_decide P N = (λ h. absurd (false≢true h), λ p. absurd cc)
whiches_decide N P = (λ h. absurd (false≢true h), λ p. absurd cc)

counts_decide : (k l : List ℕ) (r t : ℕ) (w x : Which) (s u p q : ℕ) → Decides (same_row (Count k r w s p) (Count l t x u q)) (Count k r w s p ≡ Count l t x u q)
counts_decide k l r t w x s u p q = Decides-like (same_row (Count k r w s p) (Count l t x u q))
    (λ e. λ i. Count (e.0 i) (e.1.0 i) (e.1.1.0 i) (e.1.1.1.0 i) (e.1.1.1.1 i))
    (λ (e : Count k r w s p ≡ Count l t x u q). (cc e, (cc e, (cc e, (cc e, cc e)))))
    (Decides-and _ _ (bytes_eq-Decides k l) (Decides-and _ _ (Decides-eqb r t) (Decides-and _ _ (whiches_decide w x) (Decides-and _ _ (Decides-eqb s u) (Decides-eqb p q)))))

rows_decide : (r s : Row) → Decides (same_row r s) (r ≡ s)
rows_decide (Live d) (Live e) = Decides-like (same_dot d e) (λ p. ap Live p) (λ (p : Live d ≡ Live e). cc p) (dots_decide d e)
rows_decide (Dead r p) (Dead s q) = Decides-like (same_row (Dead r p) (Dead s q)) (λ h. λ i. Dead (h.0 i) (h.1 i)) (λ (h : Dead r p ≡ Dead s q). (cc h, cc h))
    (Decides-and _ _ (runs_decide r s) (Decides-eqb p q))
rows_decide (Count k r w s p) (Count l t x u q) = counts_decide k l r t w x s u p q
rows_decide (Live d) (Dead s q) = (λ h. absurd (false≢true h), λ (h : Live d ≡ Dead s q). absurd cc)
rows_decide (Live d) (Count l t x u q) = (λ h. absurd (false≢true h), λ (h : Live d ≡ Count l t x u q). absurd cc)
rows_decide (Dead r p) (Live e) = (λ h. absurd (false≢true h), λ (h : Dead r p ≡ Live e). absurd cc)
rows_decide (Dead r p) (Count l t x u q) = (λ h. absurd (false≢true h), λ (h : Dead r p ≡ Count l t x u q). absurd cc)
rows_decide (Count k r w s p) (Live e) = (λ h. absurd (false≢true h), λ (h : Count k r w s p ≡ Live e). absurd cc)
rows_decide (Count k r w s p) (Dead t q) = (λ h. absurd (false≢true h), λ (h : Count k r w s p ≡ Dead t q). absurd cc)

-- ---- all above

pub either : (a b : Bool) → (a || b) ≡ true → (a ≡ true) ⊎ (b ≡ true)
either true b h = inl refl
either false b h = inr h

pub or_true : (a : Bool) → (a || true) ≡ true
or_true true = refl
or_true false = refl

-- all of a list pass, so one that is there does
one_passes : {K : Type 0} (same : K → K → Bool) (test : K → Bool) (ks : List K) (d : K) → ((k : K) → same d k ≡ true → d ≡ k)
    → list_all test ks ≡ true → list_any (same d) ks ≡ true → test d ≡ true
one_passes same test [] d equal all has = absurd (false≢true has)
one_passes same test (k ∷ ks) d equal all has = elim (either (same d k) (list_any (same d) ks) has) [
  | inl e ↦ ap test (equal k e) ∙ and_left (test k) (list_all test ks) all
  | inr m ↦ one_passes same test ks d equal (and_right (test k) (list_all test ks) all) m
]

-- each that is there passes, so all of the list do
all_pass : {K : Type 0} (same : K → K → Bool) (test : K → Bool) (ks : List K) → ((k : K) → same k k ≡ true)
    → ((d : K) → list_any (same d) ks ≡ true → test d ≡ true) → list_all test ks ≡ true
all_pass same test [] itself each = refl
all_pass same test (k ∷ ks) itself each =
    and_true (test k) (list_all test ks) (each k (ap (λ b. b || list_any (same k) ks) (itself k)))
    (all_pass same test ks itself (λ d m. each d (ap (λ b. same d k || b) m ∙ or_true (same d k))))

-- the keys of a map pass a test exactly where each that stands there does
keys_decide : {K X : Type 0} {R : K → K → Ordering} (o : IsTotalOrder R) (exact : map.IsAntisymmetric R) (m : map.FinMap R X) (test : K → Bool)
    → Decides (list_all test (map.keys m)) ((d : K) → is_some (map.get m d) ≡ true → test d ≡ true)
keys_decide {K} {X} {R} o exact m test = (
  λ all d has. one_passes (eq_by_cmp R) test (map.keys m) d (λ k e. exact d k (equal_of (R d k) e)) all (sym (map.contains_key-keys m d) ∙ has),
  λ each. all_pass (eq_by_cmp R) test (map.keys m) (λ k. ap is_eq (tied_itself o k)) (λ d has. each d (map.contains_key-keys m d ∙ has)),
)

abbrev Lives_above : DigestValue → StateValue → Type 0
Lives_above g v = (d : Dot) → is_some (map.get v.lives d) ≡ true → rank_in g d < life_rank (map.get v.lives d)

abbrev Numbers_above : DigestValue → StateValue → Type 0
Numbers_above g v = (q : Place) → 0 < number v.counts q → number g.counts q < number v.counts q

lives_decide : (g : DigestValue) (v : StateValue) → Decides (list_all (is_later g v) (map.keys v.lives)) (Lives_above g v)
lives_decide g v =
    let keys = keys_decide dots_total dots_exact v.lives (is_later g v) in
    let each = λ (d : Dot). Decides-ltb (rank_in g d) (life_rank (map.get v.lives d)) in
    (λ all d has. (each d).0 (keys.0 all d has), λ above. keys.1 (λ d has. (each d).1 (above d has)))

some_counts : (x : Option Above) → is_some x ≡ true → 0 < number_from x
some_counts None h = absurd (false≢true h)
some_counts (Some a) h = omega arith

counts_some : (x : Option Above) → 0 < number_from x → is_some x ≡ true
counts_some None h = absurd (omega arith)
counts_some (Some a) h = refl

numbers_decide : (g : DigestValue) (v : StateValue) → Decides (list_all (is_greater g v) (map.keys v.counts)) (Numbers_above g v)
numbers_decide g v =
    let keys = keys_decide place_total place_exact v.counts (is_greater g v) in
    let each = λ (q : Place). Decides-ltb (number g.counts q) (number v.counts q) in
    (λ all q has. (each q).0 (keys.0 all q (counts_some (map.get v.counts q) has)), λ above. keys.1 (λ q has. (each q).1 (above q (some_counts (map.get v.counts q) has))))

above_decides : (g : DigestValue) (v : StateValue) → Decides (is_all_above g v) (IsAbove (coordinates v) (ranks_in g))
above_decides g v = Decides-like (is_all_above g v) (λ p. record { lives = p.0; numbers = p.1 }) (λ a. (a.lives, a.numbers)) (Decides-and _ _ (lives_decide g v) (numbers_decide g v))

-- ---- what the calls below answer

certificate_decides : (g : DigestValue) (v : StateValue) (rows : List Row) → Decides (pointwise same_row rows (certificate_of g v)) (IsCertificate (ranks_in g) v rows)
certificate_decides g v rows = Decides-like (pointwise same_row rows (certificate_of g v))
    (λ e. subst (IsCertificate (ranks_in g) v) (sym e) (grouped_certificate (ranks_in g) v)) (λ is. certificate_is (ranks_in g) v rows is)
    (slice_eq-Decides rows_decide rows (certificate_of g v) (pointwise same_row rows (certificate_of g v)) refl)

pub passes_exactly : PassesExactly
passes_exactly v g rows = Decides-and _ _ (above_decides g v) (certificate_decides g v rows)

-- an exact check is the test
pub passes_are : (g : DigestValue) (v : StateValue) (rows : List Row) (holds : Bool) → (holds ≡ true) ↔ (IsAbove (coordinates v) (ranks_in g) × IsCertificate (ranks_in g) v rows) → holds ≡ passes g v rows
passes_are g v rows holds exact = same_from_decides holds (passes g v rows) exact (Decides-and _ _ (above_decides g v) (certificate_decides g v rows))

-- ---- the least delta as a value

pub kept_lives : (g : DigestValue) (v : StateValue) (d : Dot) → map.get (map.retain_keys v.lives (is_later g v)) d ≡ cond (is_later g v d) (map.get v.lives d) None
kept_lives g v d = map.get-retain_keys v.lives (is_later g v) d (λ x e. ap (is_later g v) (sym (dots_exact d x e)))

pub kept_numbers : (g : DigestValue) (v : StateValue) (q : Place) → number (map.retain_keys v.counts (is_greater g v)) q ≡ cond (is_greater g v q) (number v.counts q) 0
kept_numbers g v q =
    ap number_from (map.get-retain_keys v.counts (is_greater g v) q (λ x e. ap (is_greater g v) (sym (place_exact q x e)))) ∙ by_test (is_greater g v q) (map.get v.counts q)
  where
    by_test : (b : Bool) (x : Option Above) → number_from (cond b x None) ≡ cond b (number_from x) 0
    by_test true x = refl
    by_test false x = refl

pub least_coordinates : IsLeastDelta
least_coordinates v g =
    let lives = λ (d : Dot). kept_lives g v d in
    let numbers = λ (q : Place). kept_numbers g v q in
    λ i. record { life = λ d. lives d i; number = λ q. numbers q i }

pub own_certificate : IsOwnCertificate
own_certificate v g = grouped_certificate (ranks_in g) v

-- a delta that is the least is the value of the definition
pub least_is : (v : StateValue) (g : DigestValue) (w : StateValue) → coordinates w ≡ least (coordinates v) (ranks_in g) → w ≡ least_state v g
least_is v g w e = same_value w (least_state v g) (e ∙ sym (least_coordinates v g))

-- the least delta and its certificate pass
pub least_passes : (v : StateValue) (g : DigestValue) → passes g (least_state v g) (certificate_of g (least_state v g)) ≡ true
least_passes v g =
    let delta = least_state v g in
    let above : IsAbove (coordinates delta) (ranks_in g) = subst (λ (c : Coordinates). IsAbove c (ranks_in g)) (sym (least_coordinates v g)) (least_above (coordinates v) (ranks_in g)) in
    and_true _ _ ((above_decides g delta).1 above) ((certificate_decides g delta (certificate_of g delta)).1 (grouped_certificate (ranks_in g) delta))

-- what is sent in answer to a digest
pub delta_is : (v : StateValue) (g : DigestValue) (asker : ℕ) (delta : StateValue) (rows : List Row) → coordinates delta ≡ least (coordinates v) (ranks_in g) → IsCertificate (ranks_in g) delta rows
    → answer asker delta rows ≡ answer asker (least_state v g) (certificate_of g (least_state v g))
delta_is v g asker delta rows is certified =
    let whole : answer asker delta rows ≡ answer asker delta (certificate_of g delta) = ap (answer asker delta) (certificate_is (ranks_in g) delta rows certified) in
    whole ∙ ap (λ (w : StateValue). answer asker w (certificate_of g w)) (least_is v g delta is)

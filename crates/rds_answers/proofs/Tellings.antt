-- What a replica tells has a text, as the replica has.
use Rattle.std.proofs.Common.{◌≡◌, ◌<◌, ◌≤◌, ◌+◌, ℕ, zero, suc, Bool, true, false, ◌&&◌, ◌||◌, cond, List, [], ◌∷◌, ◌++◌, Option, Some, None, refl, sym, ap, ◌∙◌, subst, arith}
use mathlib.Core.Bool.{false≢true}
use Rattle.std.specs.Prelude.{◌==◌, is_some, nat_le, nat_lt, map as each}
use Rattle.std.specs.Cmp.{tied_itself}
use Rattle.std.specs.FinMap as map
use Rattle.std.specs.FinMap.Entries.{below_all, is_sorted}
use Rattle.std.specs.List.{AllByRecursion, list_all, filter}
use Rattle.std.specs.Ordering.{eq_by_cmp, is_eq, is_lt}
use Rattle.std.proofs.lemmas.Bool.{ltb-true}
use Rattle.std.proofs.lemmas.Bool.Decides.{nat_tests}
use lib.Dec.{T}
use Rattle.rds_dots.specs.Ascending.{is_above, ascends}
use Rattle.rds_dots.specs.Dots.{IsRun, dot_cmp, is_dot, comes_after}
use Rattle.rds_names.specs.Conditions.{and_true, and_left, and_right, less_of}
use Rattle.rds_dots.specs.Order.{dots_total}
use Rattle.rds_dots.specs.Sets.{tied_dots_are_one}
use Rattle.rds_dots.specs.declared.dot.Dot.{Dot}
use Rattle.rds_dots.specs.declared.dot.Run.{Run}
use Rattle.rds_dots.specs.declared.dot.TheConstants.{MAX_SEQ}
use Rattle.rds_dots.specs.Sets.{dot_limits}
use Rattle.rds_counts.specs.Counted.{Counted, counts_of, is_row, number, place}
use Rattle.rds_counts.specs.CountedLemmas.{get-counts_of, number-row, number_in}
use Rattle.rds_counts.specs.Place.{Place}
use Rattle.rds_counts.specs.declared.row.CountRow.{CountRow}
use Rattle.rds_counts.specs.declared.row.TheConstants.{MAX_COUNT}
use Rattle.rds_counts.specs.declared.row.Which.TheVariants.{P, N}
use Rattle.rds_names.specs.declared.entry.Entry.{Entry}
use Rattle.rds_life.specs.Life.{Life, Live, Dead, entry_of, keys, live_rows, seen_of}
use Rattle.rds_life.proofs.Views.{contains-seen_of, find-live_rows, rise-live_rows}
use Rattle.rds_state.specs.Value.{StateValue, coordinates}
use Rattle.rds_state.proofs.JoinLaws.{same_value}
use Rattle.rds_delta.specs.Claims.{Claim, OfLive, OfDead, OfCount, claim_at, goes_on, life_claim}
use Rattle.rds_delta.specs.CounterRows.{counter_rows, number_rows}
use Rattle.rds_delta.specs.Digested.{DigestValue, IsInside, digest_of, rank_in, ranks_in}
use Rattle.rds_delta.specs.Grouped.{dead_front, front, grouped_onto, run_of}
use Rattle.rds_delta.specs.Higher.{higher_row, higher_rows}
use Rattle.rds_delta.specs.Ranks.{life_rank}
use Rattle.rds_delta.specs.Rest.{after_of, claims_after}
use Rattle.rds_delta.specs.declared.row.Row.{Row}
use Rattle.rds_delta.specs.declared.row.Row.TheVariants as rows
use Rattle.rds_delta.proofs.DeltaLemmas.{higher_are, number_above}
use Rattle.rds_delta.proofs.Digests.{live_inside}
use Rattle.rds_delta.proofs.Whole.{certificate_rows}
use Rattle.rds_codec.specs.AnswerTexts.{IsAnswerOf, answer}
use Rattle.rds_codec.specs.CertificateTexts.{IsCertificateOf, IsReplicaOf}
use Rattle.rds_codec.specs.DigestTexts.{IsDigestOf}
use Rattle.rds_bytes.specs.Values.{is_key_text, AreCountsOf, AreDotsOf, IsCountRowOf, IsLiveRow}
use Rattle.rds_codec.specs.StateTexts.{IsStateOf}
use Rattle.rds_answers.specs.Checked.{certificate_of, is_later, least_state}
use Rattle.rds_answers.proofs.Checks.{kept_lives, kept_numbers}

-- ---- the digest

pub digest_is : (n : ℕ) (v : StateValue) → IsStateOf n v → IsDigestOf n (digest_of v)
digest_is n v h = record { dots = h.dots; inside = live_inside v.lives; counts = h.counts }

-- ---- rows that are found

-- a dot before all rows has none
find_above : {X : Type 0} (d : Dot) (rs : List (Dot × X)) → list_all (is_above d) (keys rs) ≡ true → map.find dot_cmp d rs ≡ None
find_above d [] all = refl
find_above d (r ∷ rs) all =
    ap (λ o. cond (is_eq o) (Some r.1) (map.find dot_cmp d rs)) (less_of (dot_cmp d r.0) (and_left (is_above d r.0) (list_all (is_above d) (keys rs)) all))
    ∙ find_above d rs (and_right (is_above d r.0) (list_all (is_above d) (keys rs)) all)

module _ {X : Type 0} (Q : Dot → X → Type 0) where
  found_later : (d x : Dot) (a b : X) (more : Option X) (e : Bool) → eq_by_cmp dot_cmp d x ≡ e → more ≡ Some b → (d ≡ x → more ≡ None) → cond e (Some a) more ≡ Some b
  found_later d x a b more true is found past = absurd (let bad : Some b ≡ None = sym found ∙ past (tied_dots_are_one d x is) in cc)
  found_later d x a b more false is found past = found

  -- each row of a list that rises is the one that is found at its dot
  each_row : (rs : List (Dot × X)) → ascends (keys rs) ≡ true → ((d : Dot) (x : X) → map.find dot_cmp d rs ≡ Some x → Q d x) → AllByRecursion (λ (r : Dot × X). Q r.0 r.1) rs
  each_row [] rise h = tt
  each_row (r ∷ rs) rise h = (
    h r.0 r.1 (ap (λ o. cond (is_eq o) (Some r.1) (map.find dot_cmp r.0 rs)) (tied_itself dots_total r.0)),
    each_row rs (and_right (list_all (is_above r.0) (keys rs)) (ascends (keys rs)) rise)
        (λ d x e. h d x (found_later d r.0 r.1 x (map.find dot_cmp d rs) (eq_by_cmp dot_cmp d r.0) refl e
        (λ same. ap (λ q. map.find dot_cmp q rs) same ∙ find_above r.0 rs (and_left (list_all (is_above r.0) (keys rs)) (ascends (keys rs)) rise)))),
  )

  found_by : (d x : Dot) (a b : X) (more : Option X) (e : Bool) → eq_by_cmp dot_cmp d x ≡ e → cond e (Some a) more ≡ Some b → Q x a → (more ≡ Some b → Q d b) → Q d b
  found_by d x a b more true is found one later = subst (λ (q : Dot). Q q b) (sym (tied_dots_are_one d x is)) (subst (Q x) (let same : a ≡ b = cc found in same) one)
  found_by d x a b more false is found one later = later found

  found_row : (rs : List (Dot × X)) → AllByRecursion (λ (r : Dot × X). Q r.0 r.1) rs → (d : Dot) (x : X) → map.find dot_cmp d rs ≡ Some x → Q d x
  found_row [] h d x e = absurd (let bad : None ≡ Some x = e in cc)
  found_row (r ∷ rs) h d x e = found_by d r.0 r.1 x (map.find dot_cmp d rs) (eq_by_cmp dot_cmp d r.0) refl e h.0 (λ later. found_row rs h.1 d x later)

-- ---- the delta

some_kept : {X : Type 0} (b : Bool) (o : Option X) → is_some (cond b o None) ≡ true → is_some o ≡ true
some_kept true o h = h
some_kept false o h = absurd (false≢true h)

entry_kept : (b : Bool) (o : Option Life) (e : Entry) → entry_of (cond b o None) ≡ Some e → entry_of o ≡ Some e
entry_kept true o e h = h
entry_kept false o e h = absurd (let bad : None ≡ Some e = h in cc)

module _ (n : ℕ) (v : StateValue) (g : DigestValue) (h : IsStateOf n v) where
  abbrev kept : StateValue
  kept = least_state v g

  delta_inside : IsInside (seen_of kept.lives) (seen_of v.lives)
  delta_inside = record {
    each_dot = λ d has.
        contains-seen_of v.lives d ∙ some_kept (is_later g v d) (map.get v.lives d) (ap is_some (sym (kept_lives g v d)) ∙ sym (contains-seen_of kept.lives d) ∙ has);
  }

  delta_dots : AreDotsOf n (seen_of kept.lives)
  delta_dots d has = h.dots d (delta_inside.each_dot d has)

  delta_entries : AllByRecursion IsLiveRow (live_rows kept.lives)
  delta_entries = each_row (λ d e. IsLiveRow (d, e)) (live_rows kept.lives) (rise-live_rows kept.lives) (λ d e found.
      found_row (λ q x. IsLiveRow (q, x)) (live_rows v.lives) h.entries d e
      (find-live_rows v.lives d ∙ entry_kept (is_later g v d) (map.get v.lives d) e (ap entry_of (sym (kept_lives g v d)) ∙ sym (find-live_rows kept.lives d) ∙ found)))

  abbrev higher_counts : List CountRow
  higher_counts = higher_rows (number g.counts) h.counts.rows

  counts_kept : (r : CountRow) (rs : List CountRow) (b : Bool) → IsCountRowOf n r → AllByRecursion (IsCountRowOf n) rs → AllByRecursion (IsCountRowOf n) (cond b (r ∷ rs) rs)
  counts_kept r rs true one all = (one, all)
  counts_kept r rs false one all = all

  each_higher : (rs : List CountRow) → AllByRecursion (IsCountRowOf n) rs → AllByRecursion (IsCountRowOf n) (higher_rows (number g.counts) rs)
  each_higher [] all = tt
  each_higher (r ∷ rs) all =
      let up = higher_row (number g.counts) r in
      counts_kept up (higher_rows (number g.counts) rs) (nat_lt 0 up.p || nat_lt 0 up.n) all.0 (each_higher rs all.1)

  counts_are : counts_of higher_counts ≡ kept.counts
  counts_are =
      let left : StateValue = record { lives = v.lives; counts = counts_of higher_counts } in
      let right : StateValue = record { lives = v.lives; counts = kept.counts } in
      let each = λ (q : Place). number_above (number g.counts) h.counts.rows h.counts.are_rows v.counts h.counts.value q ∙ sym (kept_numbers g v q) in
      ap (λ (w : StateValue). w.counts) (same_value left right (λ i. record { life = (coordinates left).life; number = λ q. each q i }))

  delta_counts : AreCountsOf n kept.counts
  delta_counts = record { rows = higher_counts; are_rows = higher_are (number g.counts) h.counts.rows h.counts.are_rows; each_row = each_higher h.counts.rows h.counts.each_row; value = counts_are }

  pub delta_is : IsStateOf n (least_state v g)
  delta_is = record { dots = delta_dots; entries = delta_entries; counts = delta_counts }

-- ---- the certificate

-- a run from a dot on
run_from : (replica lo hi : ℕ) → 1 ≤ lo → lo ≤ hi → hi ≤ MAX_SEQ → IsRun (run_of replica lo hi)
run_from replica lo hi one rise within = record { from_one = one; rises = rise; within = within }

goes_from : (a b p q lo hi : ℕ) → ((a == b) && (p == q) && (lo == hi + 1)) ≡ true → lo ≡ hi + 1
goes_from a b p q lo hi h = grind (arith, nat_tests)

is_byte : (n : ℕ) → n ≤ 255 → n < 256
is_byte n le = omega arith

module _ (n : ℕ) where
  abbrev IsClaimed : Claim → Type 0
  IsClaimed (OfLive d) = (is_dot d ≡ true) × (d.replica < n)
  IsClaimed (OfDead d p) = (is_dot d ≡ true) × ((d.replica < n) × (p ≤ 1))
  IsClaimed (OfCount q sent peer) = Unit {0}

  alone : (d : Dot) (p : ℕ) (rs : List Row) → is_dot d ≡ true → d.replica < n → p ≤ 1 → IsCertificateOf n rs → IsCertificateOf n (rows.Dead (run_of d.replica d.seq d.seq) p ∷ rs)
  alone d p rs is below least all =
      let limits = dot_limits d is in
      ((is_byte d.replica limits.small, (run_from d.replica d.seq d.seq limits.from_one (omega arith) limits.within, (below, least))), all)

  joined_or_not : (d : Dot) (p : ℕ) (r : Run) (q : ℕ) (rs : List Row) (b : Bool) → goes_on (rows.Dead (run_of d.replica d.seq d.seq) p) (rows.Dead r q) ≡ b
      → is_dot d ≡ true → d.replica < n → p ≤ 1 → IsCertificateOf n (rows.Dead r q ∷ rs)
      → IsCertificateOf n (cond b (rows.Dead (run_of d.replica d.seq r.hi) p ∷ rs) (rows.Dead (run_of d.replica d.seq d.seq) p ∷ rows.Dead r q ∷ rs))
  joined_or_not d p r q rs true goes is below least all =
      let limits = dot_limits d is in
      let next = goes_from d.replica r.replica p q r.lo d.seq goes in
      let run = all.0.1.0 in
      ((is_byte d.replica limits.small, (run_from d.replica d.seq r.hi limits.from_one (omega (arith, next, run.rises)) run.within, (below, least))), all.1)
  joined_or_not d p r q rs false goes is below least all = alone d p (rows.Dead r q ∷ rs) is below least all

  dead_claimed : (d : Dot) (p : ℕ) (rs : List Row) → is_dot d ≡ true → d.replica < n → p ≤ 1 → IsCertificateOf n rs → IsCertificateOf n (dead_front d p rs)
  dead_claimed d p [] is below least all = alone d p [] is below least all
  dead_claimed d p (rows.Live e ∷ rs) is below least all = alone d p (rows.Live e ∷ rs) is below least all
  dead_claimed d p (rows.Dead r q ∷ rs) is below least all = joined_or_not d p r q rs (goes_on (rows.Dead (run_of d.replica d.seq d.seq) p) (rows.Dead r q)) refl is below least all
  dead_claimed d p (rows.Count k r w s t ∷ rs) is below least all = alone d p (rows.Count k r w s t ∷ rs) is below least all

  abbrev IsOfLife : (Dot → ℕ) → Dot → Life → Type 0
  IsOfLife peer d l = (is_dot d ≡ true) × ((d.replica < n) × (peer d < life_rank (Some l)))

  life_claimed : (peer : Dot → ℕ) (d : Dot) (l : Life) (rs : List Row) → IsOfLife peer d l → IsCertificateOf n rs → IsCertificateOf n (front (claim_at d (peer d) l) rs)
  life_claimed peer d (Live e) rs h all = ((tt, (h.0, h.1.0)), all)
  life_claimed peer d Dead rs h all = dead_claimed d (peer d) rs h.0 h.1.0 (omega (arith, h.1.1)) all

  lives_claimed : (peer : Dot → ℕ) (es : List (Dot × Life)) (rs : List Row) → AllByRecursion (λ (e : Dot × Life). IsOfLife peer e.0 e.1) es → IsCertificateOf n rs
      → IsCertificateOf n (grouped_onto (each (life_claim peer) es) rs)
  lives_claimed peer [] rs h all = all
  lives_claimed peer (e ∷ es) rs h all = life_claimed peer e.0 e.1 (grouped_onto (each (life_claim peer) es) rs) h.0 (lives_claimed peer es rs h.1 all)

  abbrev ArePeers : (Place → ℕ) → Type 0
  ArePeers peer = (q : Place) → peer q ≤ MAX_COUNT

  number_claimed : (peer : Place → ℕ) (q : Place) (m : ℕ) (rs : List Row) → ArePeers peer → (is_key_text q.key ≡ true) × IsReplicaOf n q.replica → m ≤ MAX_COUNT → IsCertificateOf n rs
      → IsCertificateOf n (number_rows q m (peer q) ++ rs)
  number_claimed peer q zero rs peers is most all = all
  number_claimed peer q (suc m) rs peers is most all = (((is.0, is.1.0), (is.1.1, (most, peers q))), all)

  row_range : (p m r : ℕ) → ((nat_lt 0 p || nat_lt 0 m) && nat_le p MAX_COUNT && nat_le m MAX_COUNT && nat_lt r 256) ≡ true → (p ≤ MAX_COUNT) × ((m ≤ MAX_COUNT) × (r < 256))
  row_range p m r h = grind (arith, nat_tests)

  counters_claimed : (peer : Place → ℕ) (rs : List CountRow) → ArePeers peer → list_all is_row rs ≡ true → AllByRecursion (IsCountRowOf n) rs → IsCertificateOf n (counter_rows peer rs)
  counters_claimed peer [] peers are all = tt
  counters_claimed peer (r ∷ rs) peers are all =
      let range = row_range r.p r.n r.replica (and_left (is_row r) (list_all is_row rs) are) in
      let is : (is_key_text r.key ≡ true) × IsReplicaOf n r.replica = (all.0.0, (range.1.1, all.0.1)) in
      let p = place r.key r.replica P in
      let m = place r.key r.replica N in
      let later = counters_claimed peer rs peers (and_right (is_row r) (list_all is_row rs) are) all.1 in
      number_claimed peer p r.p (number_rows m r.n (peer m) ++ counter_rows peer rs) peers is range.0
      (number_claimed peer m r.n (counter_rows peer rs) peers is range.1.0 later)

-- ---- the numbers of counters are within their range

chosen_within : (a b : Bool) (x y z : ℕ) → x ≤ MAX_COUNT → y ≤ MAX_COUNT → z ≤ MAX_COUNT → cond a x (cond b y z) ≤ MAX_COUNT
chosen_within true b x y z p q r = p
chosen_within false true x y z p q r = q
chosen_within false false x y z p q r = r

rows_within : (rs : List CountRow) → list_all is_row rs ≡ true → (q : Place) → number_in rs q ≤ MAX_COUNT
rows_within [] are q = omega arith
rows_within (r ∷ rs) are q =
    let range = row_range 0 r.p r.n r.replica (and_left (is_row r) (list_all is_row rs) are) in
    let later = rows_within rs (and_right (is_row r) (list_all is_row rs) are) q in
    subst (λ (m : ℕ). m ≤ MAX_COUNT) (sym (number-row q r rs))
    (chosen_within _ _ r.p r.n (number_in rs q) range.0 range.1.0 later)

counts_within : (n : ℕ) (m : Counted) → AreCountsOf n m → (q : Place) → number m q ≤ MAX_COUNT
counts_within n m h q = subst (λ (k : ℕ). k ≤ MAX_COUNT) (get-counts_of h.rows m h.value q) (rows_within h.rows h.are_rows.are q)

-- ---- the whole answer

both_true : (a b : Bool) → (a && b) ≡ true → (a ≡ true) × (b ≡ true)
both_true a b h = (and_left a b h, and_right a b h)

entries_rise : (es : List (Dot × Life)) → is_sorted dot_cmp es ≡ true → ascends (keys es) ≡ true
entries_rise [] h = refl
entries_rise (e ∷ es) h =
    let both = both_true (below_all dot_cmp e.0 es) (is_sorted dot_cmp es) h in
    and_true _ _ (below_keys e.0 es ∙ both.0) (entries_rise es both.1)
  where
    below_keys : (d : Dot) (rs : List (Dot × Life)) → list_all (is_above d) (keys rs) ≡ below_all dot_cmp d rs
    below_keys d [] = refl
    below_keys d (r ∷ rs) = ap (λ b. is_lt (dot_cmp d r.0) && b) (below_keys d rs)

of_T : (b : Bool) → T b → b ≡ true
of_T true h = refl
of_T false h = absurd h

some_life : (o : Option Life) (l : Life) → o ≡ Some l → is_some o ≡ true
some_life o l e = ap is_some e

kept_above : (g : DigestValue) (v : StateValue) (d : Dot) (l : Life) (b : Bool) → is_later g v d ≡ b → cond b (map.get v.lives d) None ≡ Some l → rank_in g d < life_rank (Some l)
kept_above g v d l true later e = subst (λ (o : Option Life). rank_in g d < life_rank o) e (ltb-true (rank_in g d) (life_rank (map.get v.lives d)) later)
kept_above g v d l false later e = absurd (let bad : None ≡ Some l = e in cc)

one_filtered : (n : ℕ) (peer : Dot → ℕ) (e : Dot × Life) (es : List (Dot × Life)) (b : Bool) → IsOfLife n peer e.0 e.1 → AllByRecursion (λ (x : Dot × Life). IsOfLife n peer x.0 x.1) es
    → AllByRecursion (λ (x : Dot × Life). IsOfLife n peer x.0 x.1) (cond b (e ∷ es) es)
one_filtered n peer e es true one all = (one, all)
one_filtered n peer e es false one all = all

filtered : (n : ℕ) (peer : Dot → ℕ) (test : Dot × Life → Bool) (es : List (Dot × Life)) → AllByRecursion (λ (e : Dot × Life). IsOfLife n peer e.0 e.1) es → AllByRecursion (λ (e : Dot × Life). IsOfLife n peer e.0 e.1) (filter test es)
filtered n peer test [] h = tt
filtered n peer test (e ∷ es) h = one_filtered n peer e (filter test es) (test e) h.0 (filtered n peer test es h.1)

module _ (n : ℕ) (v : StateValue) (g : DigestValue) (h : IsStateOf n v) (k : IsDigestOf n g) where
  life_is : (d : Dot) (l : Life) → map.get (least_state v g).lives d ≡ Some l → IsOfLife n (rank_in g) d l
  life_is d l e =
      let kept = delta_is n v g h in
      let is = kept.dots d (contains-seen_of (least_state v g).lives d ∙ some_life (map.get (least_state v g).lives d) l e) in
      (is.0, (is.1, kept_above g v d l (is_later g v d) refl (sym (kept_lives g v d) ∙ e)))

  lives_are : AllByRecursion (λ (e : Dot × Life). IsOfLife n (rank_in g) e.0 e.1) (map.entries (least_state v g).lives)
  lives_are =
      let lives = (least_state v g).lives in
      each_row (IsOfLife n (rank_in g)) (map.entries lives) (entries_rise (map.entries lives) (of_T (is_sorted dot_cmp (map.entries lives)) (map.entries_sorted lives)))
      (λ d l found. life_is d l (map.get-entries lives d ∙ found))

  certificate_is_of : IsCertificateOf n (certificate_of g (least_state v g))
  certificate_is_of =
      let kept = delta_is n v g h in
      let delta = least_state v g in
      let rs = kept.counts.rows in
      let counters = counters_claimed n (number g.counts) rs (counts_within n g.counts k.counts) kept.counts.are_rows.are kept.counts.each_row in
      let is : certificate_of g delta ≡ claims_after (rank_in g) delta.lives None (counter_rows (number g.counts) rs) = certificate_rows (ranks_in g) delta rs kept.counts.are_rows (sym kept.counts.value) in
      subst (IsCertificateOf n) (sym is) (lives_claimed n (rank_in g) (after_of None delta.lives) (counter_rows (number g.counts) rs) (filtered n (rank_in g) (λ e. comes_after None e.0) (map.entries delta.lives) lives_are) counters)

-- an answer of a state with a text, against a digest with one, has one
pub answer_is : (n asker : ℕ) (v : StateValue) (g : DigestValue) → IsReplicaOf n asker → IsStateOf n v → IsDigestOf n g
    → IsAnswerOf n (answer asker (least_state v g) (certificate_of g (least_state v g)))
answer_is n asker v g is h k = record { asker = is; state = delta_is n v g h; certificate = certificate_is_of n v g h k }

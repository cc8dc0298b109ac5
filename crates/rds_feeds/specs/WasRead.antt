-- What is known of a part that was read.
use Rattle.std.proofs.Common.{◌≡◌, ℕ, ◌<◌, ◌≤◌, inl, inr, Bool, true, cond, leb, ltb, List, Option, Some, None, Result, Ok, Err, sym, ap, subst, ◌∙◌}
use Rattle.std.specs.Prelude.{nat_le}
use Rattle.std.specs.Int.{w32, w64}
use Rattle.std.proofs.lemmas.Bool.{leb-true, ltb-true}
use Rattle.rds_names.specs.declared.fault.Fault.{Fault}
use Rattle.rds_names.specs.declared.fault.Fault.TheVariants.{Bad}
use Rattle.rds_names.specs.Conditions.{and_left, and_right}
use Rattle.rds_dots.specs.declared.dot.TheConstants.{MAX_SEQ}
use Rattle.rds_bytes.specs.declared.dots.Gap.{Gap}
use Rattle.rds_bytes.specs.declared.dot_rows.RowHead.{RowHead}
use Rattle.rds_bytes.specs.Reading.{◌>>=◌, Reader, then_at, pair_at, made_at, or_bad, drawn_at, when_at, number_at, byte_at, is_between, is_end, is_next_replica, least_lo, gap_by, gap_at, row_head_by, row_head_at}
use Rattle.rds_bytes.proofs.Format.{bind_ok, chosen, failed, ok_is}

-- one part, and another after it
pub record AreRead {A B : Type 0} (f : Reader A) (g : A → Reader B) (bytes : List ℕ) (p : A × B) (rest : List ℕ) : Type 0 where
  pub first : A
  pub second : B
  pub middle : List ℕ
  pub first_is : f bytes ≡ Ok (first, middle)
  pub second_is : g first middle ≡ Ok (second, rest)
  pub are : (first, second) ≡ p

abbrev beside : {A B : Type 0} → A → B × List ℕ → Result ((A × B) × List ℕ) Fault
beside a b = Ok ((a, b.0), b.1)

abbrev and_then : {A B : Type 0} → (A → Reader B) → A × List ℕ → Result ((A × B) × List ℕ) Fault
and_then g a = g a.0 a.1 >>= beside a.0

pub then_read : {A B : Type 0} (f : Reader A) (g : A → Reader B) (bytes : List ℕ) (p : A × B) (rest : List ℕ) → then_at f g bytes ≡ Ok (p, rest) → AreRead f g bytes p rest
then_read {A} {B} f g bytes p rest e =
    let x = bind_ok (f bytes) (and_then g) (p, rest) e in
    let y = bind_ok (g x.0.0 x.0.1) (beside x.0.0) (p, rest) x.2 in
    let q : ((x.0.0, y.0.0), y.0.1) ≡ (p, rest) = ok_is _ _ y.2 in
    record {
      first = x.0.0;
      second = y.0.0;
      middle = x.0.1;
      first_is = x.1;
      second_is = y.1 ∙ ap (λ (r : List ℕ). Ok (y.0.0, r)) (ap (λ (z : (A × B) × List ℕ). z.1) q);
      are = ap (λ (z : (A × B) × List ℕ). z.0) q;
    }

abbrev made_of : {A B : Type 0} → (A → B) → A × List ℕ → Result (B × List ℕ) Fault
made_of make a = Ok (make a.0, a.1)

pub made_read : {A B : Type 0} (make : A → B) (f : Reader A) (bytes : List ℕ) (b : B) (rest : List ℕ) → made_at make f bytes ≡ Ok (b, rest) → (a : A) × (f bytes ≡ Ok (a, rest)) × (make a ≡ b)
made_read {A} {B} make f bytes b rest e =
    let x = bind_ok (f bytes) (made_of make) (b, rest) e in
    let q : (make x.0.0, x.0.1) ≡ (b, rest) = ok_is _ _ x.2 in
    (x.0.0, x.1 ∙ ap (λ (r : List ℕ). Ok (x.0.0, r)) (ap (λ (z : B × List ℕ). z.1) q), ap (λ (z : B × List ℕ). z.0) q)

drawn_is : {B : Type 0} (o : Option B) (rest : List ℕ) (x : B × List ℕ) → or_bad o rest ≡ Ok x → rest ≡ x.1
drawn_is {B} None rest x e = absurd (let wrong : failed {A = B × List ℕ} Bad ≡ Ok x = e in cc)
drawn_is {B} (Some b) rest x e = ap (λ (y : B × List ℕ). y.1) (ok_is {A = B × List ℕ} (b, rest) x e)

pub drawn_read : {A B : Type 0} (make : A → Option B) (f : Reader A) (bytes : List ℕ) (b : B) (rest : List ℕ) → drawn_at make f bytes ≡ Ok (b, rest) → (a : A) × (f bytes ≡ Ok (a, rest))
drawn_read {A} {B} make f bytes b rest e =
    let x = bind_ok (f bytes) (λ a. or_bad (make a.0) a.1) (b, rest) e in
    (x.0.0, x.1 ∙ ap (λ (r : List ℕ). Ok (x.0.0, r)) (drawn_is (make x.0.0) x.0.1 (b, rest) x.2))

abbrev value_tested : {A : Type 0} → (A → Bool) → A × List ℕ → Result (A × List ℕ) Fault
value_tested test a = cond (test a.0) (Ok a) (Err Bad)

pub when_read : {A : Type 0} (test : A → Bool) (f : Reader A) (bytes : List ℕ) (a : A) (rest : List ℕ) → when_at test f bytes ≡ Ok (a, rest) → (f bytes ≡ Ok (a, rest)) × (test a ≡ true)
when_read {A} test f bytes a rest e =
    let x = bind_ok (f bytes) (value_tested test) (a, rest) e in
    elim (chosen (test x.0.0) (Ok x.0) (Err Bad) (Ok (a, rest)) x.2) [
      | inl is ↦ (let q : x.0 ≡ (a, rest) = ok_is _ _ is.1 in (x.1 ∙ is.1, sym (ap (λ (z : A × List ℕ). test z.0) q) ∙ is.0))
      | inr other ↦ absurd (let wrong : Err Bad ≡ Ok (a, rest) = other.1 in cc)
    ]

-- ---- a gap, and what a row begins with

abbrev low_at : Option Gap → Reader ℕ
low_at before = when_at (nat_le (least_lo before)) (number_at w64)

abbrev high_at : ℕ → ℕ → Reader ℕ
high_at top lo = when_at (is_end top lo) (number_at w64)

end_is : (top lo hi : ℕ) → is_end top lo hi ≡ true → (lo ≤ hi) × (hi < top)
end_is top lo hi e = (leb-true lo hi (and_left (leb lo hi) (ltb hi top) e), ltb-true hi top (and_right (leb lo hi) (ltb hi top) e))

pub gap_within : (top : ℕ) (before : Option Gap) (bytes : List ℕ) (g : Gap) (rest : List ℕ) → gap_at top before bytes ≡ Ok (g, rest) → (g.lo ≤ g.hi) × (g.hi < top)
unfolding gap_at
gap_within top before bytes g rest e =
    let made = made_read gap_by (then_at (low_at before) (high_at top)) bytes g rest e in
    let both = then_read (low_at before) (high_at top) bytes made.0 rest made.1 in
    let end = when_read (is_end top both.first) (number_at w64) both.middle both.second rest both.second_is in
    let is = end_is top both.first both.second end.1 in
    let same : gap_by (both.first, both.second) ≡ g = ap gap_by both.are ∙ made.2 in
    subst (λ (x : Gap). (x.lo ≤ x.hi) × (x.hi < top)) same is

abbrev number_replica_at : ℕ → ℕ → Reader ℕ
number_replica_at replicas least = when_at (is_next_replica replicas least) byte_at

abbrev top_at : Reader ℕ
top_at = when_at (is_between 1 MAX_SEQ) (number_at w64)

abbrev top_gaps_at : Reader (ℕ × ℕ)
top_gaps_at = pair_at top_at (number_at w32)

between_is : (least most n : ℕ) → is_between least most n ≡ true → (least ≤ n) × (n ≤ most)
between_is least most n e = (leb-true least n (and_left (leb least n) (leb n most) e), leb-true n most (and_right (leb least n) (leb n most) e))

pub head_within : (replicas least : ℕ) (bytes : List ℕ) (h : RowHead) (rest : List ℕ) → row_head_at replicas least bytes ≡ Ok (h, rest) → (1 ≤ h.top) × (h.top ≤ MAX_SEQ)
unfolding row_head_at
head_within replicas least bytes h rest e =
    let made = made_read row_head_by (pair_at (number_replica_at replicas least) top_gaps_at) bytes h rest e in
    let later = then_read (number_replica_at replicas least) (λ _. top_gaps_at) bytes made.0 rest made.1 in
    let both = then_read top_at (λ _. number_at w32) later.middle later.second rest later.second_is in
    let between = when_read (is_between 1 MAX_SEQ) (number_at w64) later.middle both.first both.middle both.first_is in
    let is = between_is 1 MAX_SEQ both.first between.1 in
    let same : row_head_by (later.first, (both.first, both.second)) ≡ h = ap (λ (p : ℕ × ℕ). row_head_by (later.first, p)) both.are ∙ ap row_head_by later.are ∙ made.2 in
    subst (λ (x : RowHead). (1 ≤ x.top) × (x.top ≤ MAX_SEQ)) same is

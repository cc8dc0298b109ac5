-- Rows have the dots of their runs.
use Rattle.std.proofs.Common.{◌≡◌, ℕ, ◌+◌, ◌-◌, ◌<◌, ◌≤◌, Bool, true, false, not, ◌&&◌, ◌||◌, eqb, leb, List, [], ◌∷◌, refl, sym, ap, ◌∙◌, arith, inl, inr}
use Rattle.std.specs.List.{list_any, flat_map}
use Rattle.std.specs.FinSet as set
use Rattle.std.proofs.lemmas.Bool.{cases_lt}
use Rattle.std.proofs.lemmas.List.Folds.{list_any-append}
use Rattle.std.proofs.lemmas.List.Concat.{flat_map-cons}
use Rattle.std.proofs.lemmas.Bool.{le-leb, lt-leb}
use Rattle.rds_dots.specs.declared.dot.Dot.{Dot}
use Rattle.rds_dots.specs.declared.dot.Run.{Run}
use Rattle.rds_dots.specs.Dots.{Dots, in_run}
use Rattle.rds_dots.specs.Order.{dots_total, dots_exact}
use Rattle.rds_dots.specs.Runs.{runs_cover, runs_of}
use Rattle.rds_bytes.specs.declared.dots.Gap.{Gap}
use Rattle.rds_bytes.specs.declared.dots.DotRow.{DotRow}
use Rattle.rds_bytes.specs.DotRows.{rows_from}
use Rattle.rds_bytes.specs.RowDots.{runs_between, row_runs, dots_of_rows}
use Rattle.rds_bytes.specs.SetRows.{GapsStand, RowsStand, in_gap, has_dot, AreRowsOf, IsSpelledByRows}
use Rattle.rds_bytes.specs.Spelling.{dots_text, dot_rows_text}
use Rattle.rds_bytes.specs.Values.{AreDotsOf}
use Rattle.rds_bytes.proofs.RowAlgebra.{before_some, before_none, rows_opens}
use Rattle.rds_bytes.proofs.RowSets.{contains-runs, dots_there, dots_back}

-- ---- one row

-- no gap from a number on has what is below it
none_has : (top n : ℕ) (gs : List Gap) (least : ℕ) → GapsStand least top gs → n < least → list_any (in_gap n) gs ≡ false
none_has top n [] least stand lt = refl
none_has top n (g ∷ gs) least stand lt =
    let low = stand.0.0 in
    let rise = stand.0.1.0 in
    let out : leb g.lo n ≡ false = lt-leb g.lo n (omega arith) in
    let later = none_has top n gs (g.hi + 2) stand.1 (omega arith) in
    rw (out, later) refl

alone : (x : Bool) → (x || false) ≡ (x && true)
alone true = refl
alone false = refl

-- before a gap, in it and past it, by the tests of a run before the gap, of the runs after it, and of the row
before_gap : (e f : Bool) → (((e && f) && true) || (((e && false) && true) && true)) ≡ (((e && f) && true) && true)
before_gap true true = refl
before_gap true false = refl
before_gap false f = refl

within_gap : (e f t a : Bool) → (((e && f) && false) || (((e && false) && t) && not a)) ≡ (((e && f) && t) && false)
within_gap true true true a = refl
within_gap true true false a = refl
within_gap true false t a = refl
within_gap false f t a = refl

no_run : (e f t a : Bool) → (((e && false) && t) && not a) ≡ (((e && f) && t) && false)
no_run true true true a = refl
no_run true true false a = refl
no_run true false t a = refl
no_run false f t a = refl

past_gap : (e t a : Bool) → (((e && true) && false) || (((e && true) && t) && not a)) ≡ (((e && true) && t) && not a)
past_gap true t a = refl
past_gap false t a = refl

-- the runs between gaps have the numbers up to the top that are in none
between_has : (ρ top : ℕ) (d : Dot) (gs : List Gap) (from least : ℕ) → from ≤ least → GapsStand least top gs
    → runs_cover (runs_between ρ from top gs) d ≡ (((eqb d.replica ρ && leb from d.seq) && leb d.seq top) && not (list_any (in_gap d.seq) gs))
between_has ρ top d [] from least le stand = alone ((eqb d.replica ρ && leb from d.seq) && leb d.seq top)
between_has ρ top d (g ∷ gs) from least le stand =
    let n = d.seq in
    let e = eqb d.replica ρ in
    let low = stand.0.0 in
    let rise = stand.0.1.0 in
    let below = stand.0.1.1 in
    let rest : List Run = runs_between ρ (g.hi + 1) top gs in
    let later = between_has ρ top d gs (g.hi + 1) (g.hi + 2) (omega arith) stand.1 in
    let any = list_any (in_gap n) gs in
    elim (cases_lt from g.lo) [
      | inl lt ↦ (
          let all = ap (λ (rs : List Run). runs_cover rs d) (before_some ρ from g.lo rest lt) ∙ ap (λ b. ((e && leb from n) && leb n (g.lo - 1)) || b) later in
          elim (cases_lt n g.lo) [
            | inl before ↦ (
                let none = none_has top n gs (g.hi + 2) stand.1 (omega arith) in
                let p = le-leb n (g.lo - 1) (omega arith) in
                let q = lt-leb (g.hi + 1) n (omega arith) in
                let r = le-leb n top (omega arith) in
                let s = lt-leb g.lo n before in
                all ∙ (rw (p, q, r, s, none) (before_gap e (leb from n))))
            | inr after ↦ elim (cases_lt g.hi n) [
              | inl past ↦ (
                  let p = lt-leb n (g.lo - 1) (omega arith) in
                  let q = le-leb (g.hi + 1) n (omega arith) in
                  let r = le-leb from n (omega arith) in
                  let s = lt-leb n g.hi past in
                  let t = le-leb g.lo n after in
                  all ∙ (rw (p, q, r, s, t) (past_gap e (leb n top) any)))
              | inr inside ↦ (
                  let p = lt-leb n (g.lo - 1) (omega arith) in
                  let q = lt-leb (g.hi + 1) n (omega arith) in
                  let s = le-leb n g.hi inside in
                  let t = le-leb g.lo n after in
                  all ∙ (rw (p, q, s, t) (within_gap e (leb from n) (leb n top) any)))
            ]
          ])
      | inr ge ↦ (
          let all = ap (λ (rs : List Run). runs_cover rs d) (before_none ρ from g.lo rest ge) ∙ later in
          elim (cases_lt n g.lo) [
            | inl before ↦ (
                let q = lt-leb (g.hi + 1) n (omega arith) in
                let r = lt-leb from n (omega arith) in
                let s = lt-leb g.lo n before in
                all ∙ (rw (q, r, s) refl))
            | inr after ↦ elim (cases_lt g.hi n) [
              | inl past ↦ (
                  let q = le-leb (g.hi + 1) n (omega arith) in
                  let r = le-leb from n (omega arith) in
                  let s = lt-leb n g.hi past in
                  let t = le-leb g.lo n after in
                  all ∙ (rw (q, r, s, t) refl))
              | inr inside ↦ (
                  let q = lt-leb (g.hi + 1) n (omega arith) in
                  let s = le-leb n g.hi inside in
                  let t = le-leb g.lo n after in
                  all ∙ (rw (q, s, t) (no_run e (leb from n) (leb n top) any)))
            ]
          ])
    ]

-- ---- all rows

rows_have : (replicas : ℕ) (d : Dot) (rows : List DotRow) (least : ℕ) → RowsStand replicas least rows → runs_cover (flat_map row_runs rows) d ≡ list_any (has_dot d) rows
rows_have replicas d [] least stand = refl
rows_have replicas d (r ∷ rows) least stand =
    ap (λ (rs : List Run). runs_cover rs d) (flat_map-cons row_runs r rows)
    ∙ list_any-append (λ (x : Run). in_run x d) (row_runs r) (flat_map row_runs rows)
    ∙ (λ i. between_has r.replica r.top d r.gaps 1 1 (omega arith) stand.0.1.1.1.1 i || rows_have replicas d rows (r.replica + 1) stand.1 i)

-- what reading makes of rows
pub made_of_rows : (rows : List DotRow) → RowsStand 256 0 rows → AreRowsOf (dots_of_rows rows) rows
made_of_rows rows stand = record {
  stand = stand;
  same = λ d. sym (contains-runs (flat_map row_runs rows) (rows_opens 256 (omega arith) rows 0 stand).maximal d ∙ rows_have 256 d rows 0 stand);
}

pub spelled_by_rows : (s : Dots) → AreDotsOf 256 s → IsSpelledByRows s
unfolding dots_text
spelled_by_rows s are =
    let rows = rows_from 0 (runs_of s) in
    let is = dots_there 256 s are in
    let made = made_of_rows rows is.0 in
    record { rows = rows; are_rows = record { stand = is.0; same = λ d. made.same d ∙ ap (λ (t : Dots). set.contains t d) is.1 }; spelled = refl }

pub spelled_by_no_others : (s : Dots) (rows : List DotRow) → AreRowsOf s rows → dots_text s ≡ dot_rows_text rows
unfolding dots_text
spelled_by_no_others s rows are =
    let made = made_of_rows rows are.stand in
    let is : dots_of_rows rows ≡ s = set.same_set dots_total dots_exact (dots_of_rows rows) s (λ d. sym (made.same d) ∙ are.same d) in
    ap (λ (t : Dots). dot_rows_text (rows_from 0 (runs_of t))) (sym is) ∙ ap dot_rows_text (dots_back 256 rows are.stand).1

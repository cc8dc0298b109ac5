-- The lines of edits, one after the other.
use Rattle.std.proofs.Common.{◌≡◌, ◌∙◌, ◌+◌, ◌-◌, ◌<◌, ℕ, ℤ, pos, negsuc, zero, suc, true, false, ◌≢◌, codes, List, [], ◌∷◌, ◌++◌, length, drop, get_or, map, ap, sym, refl, arith, append_assoc, append-nil}
use Rattle.std.proofs.lemmas.List.{drop_more}
use Rattle.std.proofs.lemmas.Bool.{ltb-true}
use Rattle.std.specs.Int.Signed.{lt_z}
use Rattle.std.specs.List.{flat_map, repeat}
use Rattle.std.specs.Prelude.{unsigned_abs}
use Rattle.rds_state.specs.declared.command.Command.{Command}
use Rattle.rds_state.specs.declared.command.Command.TheVariants.{Dec, Inc}
use Rattle.rds_state.specs.Value.{StateValue}
use Rattle.rds_tree.specs.Document.{document}
use Rattle.rds_tree.specs.Parts.{only_key}
use Rattle.rds_tree.specs.Shown.{Shown}
use Rattle.rds_tree.specs.Shows.{counters_in}
use Rattle.rds_tree.specs.View.{view_of}
use Rattle.rds_listing.specs.Dump.{amounts, count_line, counter_edits, counts_as_lines, dump_edits, line_of_edit, edits_text, most, part_edits, standing_edits, sum_edits, values_edits}
use Rattle.rds_listing.specs.Standings.{StandingValue, standings}

pub edits_append : (xs ys : List Command) → edits_text (xs ++ ys) ≡ edits_text xs ++ edits_text ys
edits_append [] ys = refl
edits_append (x ∷ xs) ys =
    ap (λ (t : List ℕ). (line_of_edit x ++ 10 ∷ []) ++ t) (edits_append xs ys)
    ∙ sym (append_assoc (line_of_edit x ++ 10 ∷ []) (edits_text xs) (edits_text ys))

-- the lines of one more
pub edits_at : {X : Type 0} (edits : X → List Command) (all : List X) (i : ℕ) (x : X) (now next first : List ℕ) → i < length all → x ≡ get_or all i x
    → now ++ edits_text (flat_map edits (drop i all)) ≡ first ++ edits_text (flat_map edits all)
    → next ≡ now ++ edits_text (edits x)
    → next ++ edits_text (flat_map edits (drop (i + 1) all)) ≡ first ++ edits_text (flat_map edits all)
edits_at {X} edits all i x now next first lt item told is =
    let left = drop (i + 1) all in
    let more : drop i all ≡ x ∷ left = drop_more all i x lt ∙ ap (λ (y : X). y ∷ left) (sym item) in
    ap (λ (t : List ℕ). t ++ edits_text (flat_map edits left)) is
    ∙ append_assoc now (edits_text (edits x)) (edits_text (flat_map edits left))
    ∙ ap (λ (t : List ℕ). now ++ t) (sym (edits_append (edits x) (flat_map edits left)))
    ∙ sym (ap (λ (l : List X). now ++ edits_text (flat_map edits l)) more)
    ∙ told

-- the lines of registers and sets
pub values_dumped : (path keys : List (List ℕ)) (view shown : Shown) (slice all : List StandingValue) (none whole : List ℕ) → none ≡ []
    → whole ≡ none ++ edits_text (flat_map standing_edits slice)
    → slice ≡ all → all ≡ standings keys shown → keys ≡ path → shown ≡ view → whole ≡ edits_text (values_edits path view)
values_dumped path keys view shown slice all none whole empty first same are at is =
    first
    ∙ ap (λ (n : List ℕ). n ++ edits_text (flat_map standing_edits slice)) empty
    ∙ ap (λ (s : List StandingValue). edits_text (flat_map standing_edits s)) (same ∙ are ∙ ap (λ (k : List (List ℕ)). standings k shown) at)
    ∙ ap (λ (v : Shown). edits_text (values_edits path v)) is

-- these, and then those of counters
pub dumped : (view shown : Shown) (slice all : List StandingValue) (none front whole : List ℕ) → none ≡ []
    → front ≡ none ++ edits_text (flat_map standing_edits slice) → whole ≡ front ++ edits_text (counter_edits (counters_in shown))
    → slice ≡ all → all ≡ standings [] shown → shown ≡ view → whole ≡ edits_text (dump_edits view)
dumped view shown slice all none front whole empty first second same are is =
    let counts : List ℕ = edits_text (counter_edits (counters_in shown)) in
    second
    ∙ ap (λ (t : List ℕ). t ++ counts) (values_dumped [] [] shown shown slice all none front empty first same are refl refl)
    ∙ sym (edits_append (values_edits [] shown) (counter_edits (counters_in shown)))
    ∙ ap (λ (v : Shown). edits_text (dump_edits v)) is

-- what stands under a key of a path
pub under_last : (state : StateValue) (above keys : List (List ℕ)) (key : List ℕ)
    → part_edits state above (keys ++ key ∷ [])
    ≡ values_edits (above ++ keys) (only_key key (view_of (document state) (above ++ keys)))
under_last state above [] key =
    sym (ap (λ (a : List (List ℕ)). values_edits a (only_key key (view_of (document state) a))) (append-nil above))
under_last state above (k ∷ []) key = refl
under_last state above (k ∷ next ∷ keys) key =
    under_last state (above ++ k ∷ []) (next ∷ keys) key
    ∙ ap (λ (a : List (List ℕ)). values_edits a (only_key key (view_of (document state) a))) (append_assoc above (k ∷ []) (next ∷ keys))

-- ---- one counter

module _ (key : List ℕ) where
  inc_lines : (bys : List ℕ) → edits_text (map (Inc key) bys) ≡ counts_as_lines (codes "inc") key bys
  inc_lines [] = refl
  inc_lines (by ∷ bys) = ap (λ (t : List ℕ). (count_line (codes "inc") key by ++ 10 ∷ []) ++ t) (inc_lines bys)

  dec_lines : (bys : List ℕ) → edits_text (map (Dec key) bys) ≡ counts_as_lines (codes "dec") key bys
  dec_lines [] = refl
  dec_lines (by ∷ bys) = ap (λ (t : List ℕ). (count_line (codes "dec") key by ++ 10 ∷ []) ++ t) (dec_lines bys)

  -- one that stands at 0
  pub at_zero : (sum : ℤ) (amount : ℕ) → amount ≡ unsigned_abs sum → amount ≡ 0
      → edits_text (sum_edits key sum) ≡ (count_line (codes "inc") key 1 ++ 10 ∷ []) ++ ((count_line (codes "dec") key 1 ++ 10 ∷ []) ++ [])
  at_zero (pos zero) amount is none = refl
  at_zero (pos (suc n)) amount is none = absurd (omega (arith, is, none))
  at_zero (negsuc n) amount is none = absurd (omega (arith, is, none))

  -- one that stands below 0
  pub below_zero : (sum : ℤ) (amount : ℕ) → amount ≡ unsigned_abs sum → lt_z sum (pos 0) ≡ true
      → edits_text (sum_edits key sum) ≡ counts_as_lines (codes "dec") key (amounts (amount - 1))
  below_zero (pos zero) amount is lt = absurd cc
  below_zero (pos (suc n)) amount is lt = absurd (omega (arith, ltb-true (suc n) 0 lt))
  below_zero (negsuc n) amount is lt =
      let one : n ≡ amount - 1 = omega (arith, is) in
      dec_lines (amounts n) ∙ ap (λ (m : ℕ). counts_as_lines (codes "dec") key (amounts m)) one

  -- one that stands above it
  pub above_zero : (sum : ℤ) (amount : ℕ) → amount ≡ unsigned_abs sum → amount ≢ 0 → lt_z sum (pos 0) ≡ false
      → edits_text (sum_edits key sum) ≡ counts_as_lines (codes "inc") key (amounts (amount - 1))
  above_zero (pos zero) amount is some no_less = absurd (some is)
  above_zero (pos (suc n)) amount is some no_less =
      let one : n ≡ amount - 1 = omega (arith, is) in
      inc_lines (amounts n) ∙ ap (λ (m : ℕ). counts_as_lines (codes "inc") key (amounts m)) one
  above_zero (negsuc n) amount is some no_less = absurd cc

-- ---- amounts that make up one

-- those that are left
abbrev pub left_over : ℕ → ℕ → List ℕ
left_over times rest = repeat times (most ∷ []) ++ rest ∷ []

one_less : (times turn rest : ℕ) → turn < times → left_over (times - turn) rest ≡ most ∷ left_over (times - (turn + 1)) rest
one_less times turn rest lt =
    let next : times - turn ≡ suc (times - (turn + 1)) = omega (arith, lt) in
    ap (λ (k : ℕ). left_over k rest) next

-- the line of one more
pub turn_done : (word key : List ℕ) (times turn rest : ℕ) (now next whole : List ℕ) → turn < times
    → now ++ counts_as_lines word key (left_over (times - turn) rest) ≡ whole → next ≡ now ++ (count_line word key most ++ 10 ∷ [])
    → next ++ counts_as_lines word key (left_over (times - (turn + 1)) rest) ≡ whole
turn_done word key times turn rest now next whole lt told is =
    let later = counts_as_lines word key (left_over (times - (turn + 1)) rest) in
    ap (λ (t : List ℕ). t ++ later) is
    ∙ append_assoc now (count_line word key most ++ 10 ∷ []) later
    ∙ sym (ap (λ (bys : List ℕ). now ++ counts_as_lines word key bys) (one_less times turn rest lt))
    ∙ told

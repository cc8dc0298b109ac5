-- The live rows after a command's effect.
use Rattle.std.proofs.Common.{◌≡◌, ℕ, ◌+◌, Bool, true, false, cond, not, ◌&&◌, ◌||◌, refl, sym, ◌∙◌, ap, eqb, arith}
use Rattle.std.proofs.lemmas.Bool.{not-true}
use Rattle.std.specs.Prelude.{Option, Some, None}
use Rattle.std.specs.List.{list_any}
use Rattle.std.specs.FinMap as map
use Rattle.std.proofs.lemmas.Bool.Decides.{nat_tests}
use Rattle.rds_names.specs.Conditions.{and_true, and_left, and_right}
use Rattle.rds_names.specs.Entry.{HasParts}
use Rattle.rds_names.specs.declared.entry.Entry.{Entry}
use Rattle.rds_dots.specs.declared.dot.Dot.{Dot}
use Rattle.rds_dots.specs.Lacking.{dot_of}
use Rattle.rds_dots.specs.Order.{dots_total, dots_exact}
use Rattle.rds_life.specs.Life.{Life, Live, Dead, Lived, join_life, live_row, live_rows}
use Rattle.rds_state.specs.Chosen.{CommandParts, command_parts}
use Rattle.rds_state.specs.Coordinates.{join}
use Rattle.rds_state.specs.Edit.{covers, IsMade, is_next, life_made, life_killed, effect, own_top}
use Rattle.rds_state.specs.Value.{StateValue, coordinates}
use Rattle.rds_state.specs.declared.command.Command.{Command}
use Rattle.rds_state.specs.declared.command.Command.TheVariants.{Set, Add, Del, Clear, Inc, Dec}
use Rattle.rds_tree.proofs.SameView.{any-filter_map, passes}
use Rattle.rds_tree.proofs.Witness.{both_ways, entry_passes, passes_entry, or_left, or_right}

-- ---- live rows that pass a test

abbrev pub Passes : (Dot × Entry → Bool) → Lived → Type 0
Passes u v = (d : Dot) × ((e : Entry) × ((map.get v d ≡ Some (Live e)) × (u (d, e) ≡ true)))

abbrev at_row : (Dot × Entry → Bool) → Dot × Life → Bool
at_row u x = passes u (live_row x.0 x.1)

any-live : (u : Dot × Entry → Bool) (v : Lived) → list_any u (live_rows v) ≡ list_any (at_row u) (map.entries v)
any-live u v = any-filter_map u (λ x. live_row x.0 x.1) (map.entries v)

one_passes : (u : Dot × Entry → Bool) (v : Lived) (d : Dot) (l : Life) → map.get v d ≡ Some l → at_row u (d, l) ≡ true → Passes u v
one_passes u v d (Live e) got h = (d, (e, (got, h)))
one_passes u v d Dead got h = absurd (cc)

pub live_passes : (u : Dot × Entry → Bool) (v : Lived) → list_any u (live_rows v) ≡ true → Passes u v
live_passes u v h = let p = entry_passes dots_total dots_exact (at_row u) v (sym (any-live u v) ∙ h) in one_passes u v p.0 p.1.0 p.1.1.0 p.1.1.1

pub passes_live : (u : Dot × Entry → Bool) (v : Lived) (d : Dot) (e : Entry) → map.get v d ≡ Some (Live e) → u (d, e) ≡ true → list_any u (live_rows v) ≡ true
passes_live u v d e got h = any-live u v ∙ passes_entry dots_total dots_exact (at_row u) v d (Live e) got h

-- tests that agree on live rows
pub any_alike : (t u : Dot × Entry → Bool) (v : Lived) → ((d : Dot) (e : Entry) → map.get v d ≡ Some (Live e) → t (d, e) ≡ u (d, e)) → list_any t (live_rows v) ≡ list_any u (live_rows v)
any_alike t u v alike = both_ways _ _
    (λ h. let p = live_passes t v h in passes_live u v p.0 p.1.0 p.1.1.0 (sym (alike p.0 p.1.0 p.1.1.0) ∙ p.1.1.1))
    (λ h. let p = live_passes u v h in passes_live t v p.0 p.1.0 p.1.1.0 (alike p.0 p.1.0 p.1.1.0 ∙ p.1.1.1))

-- ---- one life

live_same : (e f : Entry) → Some (Live e) ≡ Some (Live f) → e ≡ f
live_same e f h = cc

no_life : (l : Life) → None ≡ Some l → ⊥
no_life l h = cc

not_dead : (e : Entry) → Some Dead ≡ Some (Live e) → ⊥
not_dead e h = cc

abbrev IsSpared : Command → Option Life → Entry → Type 0
IsSpared c o e = (o ≡ Some (Live e)) × (covers c e ≡ false)

spared : (c : Command) (o : Option Life) (e : Entry) → join_life o (life_killed c o) ≡ Some (Live e) → IsSpared c o e
spared c None e h = absurd (no_life (Live e) h)
spared c (Some (Live f)) e h = by (covers c f) refl h
  where
    by : (b : Bool) → covers c f ≡ b → join_life (Some (Live f)) (cond b (Some Dead) None) ≡ Some (Live e) → IsSpared c (Some (Live f)) e
    by true is g = absurd (not_dead e g)
    by false is g = (g, ap (covers c) (sym (live_same f e g)) ∙ is)
spared c (Some Dead) e h = absurd (not_dead e h)

stays_live : (c : Command) (o : Option Life) (e : Entry) → o ≡ Some (Live e) → covers c e ≡ false → join_life o (life_killed c o) ≡ Some (Live e)
stays_live c o e is not = ap (λ x. join_life x (life_killed c x)) is ∙ ap (λ b. join_life (Some (Live e)) (cond b (Some Dead) None)) not

module _ (c : Command) (a b : StateValue) (own : ℕ) where
  abbrev new : Dot
  new = dot_of own (own_top (coordinates a) own + 1)

  abbrev stay : (Dot × Entry → Bool) → Dot × Entry → Bool
  stay u r = u r && not (covers c r.1)

  is_new : (d : Dot) → is_next (coordinates a) own d ≡ true → d ≡ new
  is_new d h = let p = parts d.replica own d.seq (own_top (coordinates a) own + 1) h in λ i. dot_of (p.0 i) (p.1 i)
    where
      parts : (x y n m : ℕ) → (eqb x y && eqb n m) ≡ true → (x ≡ y) × (n ≡ m)
      parts x y n m h = (grind (arith, nat_tests), grind (arith, nat_tests))

  new_is : is_next (coordinates a) own new ≡ true
  new_is = itself own (own_top (coordinates a) own + 1)
    where
      itself : (x y : ℕ) → (eqb x x && eqb y y) ≡ true
      itself x y = grind (arith, nat_tests)

  module _ (made : Option Entry) (joined : coordinates b ≡ join (coordinates a) (effect (coordinates a) own c made)) where
    life : (d : Dot) → map.get b.lives d ≡ join_life (map.get a.lives d) (cond (is_next (coordinates a) own d) (life_made made (life_killed c (map.get a.lives d))) (life_killed c (map.get a.lives d)))
    life d = ap (λ x. x.life d) joined

    elsewhere : (d : Dot) → is_next (coordinates a) own d ≡ false → map.get b.lives d ≡ join_life (map.get a.lives d) (life_killed c (map.get a.lives d))
    elsewhere d other = life d ∙ ap (λ x. join_life (map.get a.lives d) (cond x (life_made made (life_killed c (map.get a.lives d))) (life_killed c (map.get a.lives d)))) other

  -- nothing was made
  pub rows_killed : (u : Dot × Entry → Bool) → coordinates b ≡ join (coordinates a) (effect (coordinates a) own c None) → list_any u (live_rows b.lives) ≡ list_any (stay u) (live_rows a.lives)
  rows_killed u joined = both_ways _ _
      (λ h. let p = live_passes u b.lives h in
      let s = spared c (map.get a.lives p.0) p.1.0 (sym (plain p.0) ∙ p.1.1.0) in
      passes_live (stay u) a.lives p.0 p.1.0 s.0 (and_true _ _ p.1.1.1 (ap not s.1)))
      (λ h. let p = live_passes (stay u) a.lives h in
      passes_live u b.lives p.0 p.1.0 (plain p.0 ∙ stays_live c (map.get a.lives p.0) p.1.0 p.1.1.0 (not-true (covers c p.1.0) (and_right (u (p.0, p.1.0)) _ p.1.1.1))) (and_left _ (not (covers c p.1.0)) p.1.1.1))
    where
      same_cond : {X : Type 0} (x : Bool) (y : X) → cond x y y ≡ y
      same_cond true y = refl
      same_cond false y = refl

      plain : (d : Dot) → map.get b.lives d ≡ join_life (map.get a.lives d) (life_killed c (map.get a.lives d))
      plain d = life None joined d ∙ ap (join_life (map.get a.lives d)) (same_cond (is_next (coordinates a) own d) (life_killed c (map.get a.lives d)))

  -- the next own dot was made live
  pub rows_made : (u : Dot × Entry → Bool) (e : Entry) → coordinates b ≡ join (coordinates a) (effect (coordinates a) own c (Some e)) → map.get a.lives new ≡ None → list_any u (live_rows b.lives) ≡ (u (new, e) || list_any (stay u) (live_rows a.lives))
  rows_made u e joined unseen = both_ways _ _ forth back
    where
      at_new : map.get b.lives new ≡ Some (Live e)
      at_new = life (Some e) joined new ∙ ap (λ o. join_life o (cond (is_next (coordinates a) own new) (Some (Live e)) (life_killed c o))) unseen ∙ ap (λ x. join_life None (cond x (Some (Live e)) (life_killed c None))) new_is

      forth : list_any u (live_rows b.lives) ≡ true → (u (new, e) || list_any (stay u) (live_rows a.lives)) ≡ true
      forth h = let p = live_passes u b.lives h in by p.0 p.1.0 p.1.1.0 p.1.1.1 (is_next (coordinates a) own p.0) refl
        where
          by : (d : Dot) (f : Entry) → map.get b.lives d ≡ Some (Live f) → u (d, f) ≡ true → (x : Bool) → is_next (coordinates a) own d ≡ x → (u (new, e) || list_any (stay u) (live_rows a.lives)) ≡ true
          by d f got passed true is =
              let at : d ≡ new = is_new d is in
              let same : e ≡ f = live_same e f (sym at_new ∙ ap (map.get b.lives) (sym at) ∙ got) in
              or_left (u (new, e)) _ (ap (λ q. u (q, e)) (sym at) ∙ ap (λ g. u (d, g)) same ∙ passed)
          by d f got passed false is =
              let s = spared c (map.get a.lives d) f (sym (elsewhere (Some e) joined d is) ∙ got) in
              or_right (u (new, e)) _ (passes_live (stay u) a.lives d f s.0 (and_true _ _ passed (ap not s.1)))

      back : (u (new, e) || list_any (stay u) (live_rows a.lives)) ≡ true → list_any u (live_rows b.lives) ≡ true
      back h = by (u (new, e)) refl h
        where
          old : list_any (stay u) (live_rows a.lives) ≡ true → list_any u (live_rows b.lives) ≡ true
          old g = let p = live_passes (stay u) a.lives g in on p.0 p.1.0 p.1.1.0 p.1.1.1 (is_next (coordinates a) own p.0) refl
            where
              on : (d : Dot) (f : Entry) → map.get a.lives d ≡ Some (Live f) → stay u (d, f) ≡ true → (x : Bool) → is_next (coordinates a) own d ≡ x → list_any u (live_rows b.lives) ≡ true
              on d f got passed true is = absurd (no_life (Live f) (sym unseen ∙ ap (map.get a.lives) (sym (is_new d is)) ∙ got))
              on d f got passed false is = passes_live u b.lives d f (elsewhere (Some e) joined d is ∙ stays_live c (map.get a.lives d) f got (not-true (covers c f) (and_right (u (d, f)) _ passed))) (and_left _ (not (covers c f)) passed)

          by : (x : Bool) → u (new, e) ≡ x → (x || list_any (stay u) (live_rows a.lives)) ≡ true → list_any u (live_rows b.lives) ≡ true
          by true is g = passes_live u b.lives new e at_new is
          by false is g = old g

-- ---- what commands make

pub none_made : (c : Command) (made : Option Entry) → command_parts c ≡ None → IsMade c made → made ≡ None
none_made (Set p v) made none is = cc none
none_made (Add p v) made none is = cc none
none_made (Del p v) made none is = is
none_made (Clear p) made none is = is
none_made (Inc k by) made none is = is
none_made (Dec k by) made none is = is

abbrev pub MadeOf : CommandParts → Option Entry → Type 0
MadeOf p made = (e : Entry) × ((made ≡ Some e) × HasParts p.path p.kind p.value e)

pub one_made : (c : Command) (p : CommandParts) (made : Option Entry) → command_parts c ≡ Some p → IsMade c made → MadeOf p made
one_made (Set q v) p (Some e) is h =
    let path : q ≡ p.path = cc is in
    let value : v ≡ p.value = cc is in
    (e, (refl, record { at = h.at ∙ path; stands = h.stands ∙ cc is; holds = h.holds ∙ value }))
one_made (Add q v) p (Some e) is h =
    let path : q ≡ p.path = cc is in
    let value : v ≡ p.value = cc is in
    (e, (refl, record { at = h.at ∙ path; stands = h.stands ∙ cc is; holds = h.holds ∙ value }))
one_made (Set q v) p None is h = absurd h
one_made (Add q v) p None is h = absurd h
one_made (Del q v) p made is h = cc is
one_made (Clear q) p made is h = cc is
one_made (Inc k by) p made is h = cc is
one_made (Dec k by) p made is h = cc is

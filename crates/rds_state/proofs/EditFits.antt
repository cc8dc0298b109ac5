-- What an edit leaves fits.
use Rattle.std.proofs.Common.{◌≡◌, ℕ, ◌+◌, ◌<◌, Bool, true, false, ◌&&◌, cond, List, Option, Some, None, Result, Ok}
use Rattle.std.proofs.Common.{Err, OnErr, refl, sym, subst, arith, eqb}
use Rattle.std.specs.Prelude.{is_some, IfOk}
use Rattle.std.specs.Ordering.{eq_by_cmp}
use Rattle.std.proofs.lemmas.Bool.Decides.{nat_tests}
use Rattle.rds_names.specs.declared.entry.Entry.{Entry}
use Rattle.rds_names.specs.declared.fault.Fault.{Fault}
use Rattle.rds_dots.specs.declared.dot.Dot.{Dot}
use Rattle.rds_counts.specs.declared.row.Which.{Which}
use Rattle.rds_counts.specs.declared.row.Which.TheVariants.{P, N}
use Rattle.rds_counts.specs.Place.{Place, place_cmp}
use Rattle.rds_counts.specs.PlaceOrder.{place_exact}
use Rattle.rds_counts.specs.Counted.{place}
use Rattle.rds_names.specs.Conditions.{equal_of}
use Rattle.rds_life.specs.Life.{Life}
use Rattle.rds_state.specs.Coordinates.{Coordinates}
use Rattle.rds_state.specs.Edit.{own_top, is_next, life_made, life_killed, effect, effect_number, JoinsEffect}
use Rattle.rds_state.specs.Fits.{Fits}
use Rattle.rds_state.specs.Value.{StateValue, coordinates}
use Rattle.rds_state.specs.declared.command.Command.{Command}
use Rattle.rds_state.specs.declared.command.Command.TheVariants.{Set, Add, Del, Clear, Inc, Dec}
use Rattle.rds_state.specs.declared.command.Edited.{Edited}
use Rattle.rds_state.proofs.FitsLemmas.{join_fits}

own_of : (a b n m : ℕ) → (eqb a b && eqb n m) ≡ true → a ≡ b
own_of a b n m h = grind (arith, nat_tests)

killed_seen : (c : Command) (o : Option Life) → is_some (life_killed c o) ≡ true → is_some o ≡ true
killed_seen c None h = h
killed_seen c (Some l) h = refl

module _ (n : ℕ) (a : Coordinates) (own : ℕ) (fits : Fits n a) (small : own < n) where
  dot_fits : (c : Command) (made : Option Entry) (d : Dot) (b : Bool) → is_next a own d ≡ b → is_some (cond b (life_made made (life_killed c (a.life d))) (life_killed c (a.life d))) ≡ true → d.replica < n
  dot_fits c made d true next h = let is = own_of d.replica own d.seq (own_top a own + 1) next in omega (arith, is, small)
  dot_fits c made d false next h = fits.dots d (killed_seen c (a.life d) h)

  raised_fits : (k : List ℕ) (w : Which) (by : ℕ) (q : Place) (b : Bool) → eq_by_cmp place_cmp q (place k own w) ≡ b → 0 < cond b (a.number q + by) 0 → q.replica < n
  raised_fits k w by q true is h = subst (λ (x : Place). x.replica < n) (sym (place_exact q (place k own w) (equal_of _ is))) small
  raised_fits k w by q false is h = absurd (omega (arith, h))

  number_fits : (c : Command) (q : Place) → 0 < effect_number a own c q → q.replica < n
  number_fits (Set p v) q h = absurd (omega (arith, h))
  number_fits (Add p v) q h = absurd (omega (arith, h))
  number_fits (Del p v) q h = absurd (omega (arith, h))
  number_fits (Clear p) q h = absurd (omega (arith, h))
  number_fits (Inc k by) q h = raised_fits k P by q (eq_by_cmp place_cmp q (place k own P)) refl h
  number_fits (Dec k by) q h = raised_fits k N by q (eq_by_cmp place_cmp q (place k own N)) refl h

  effect_fits : (c : Command) (made : Option Entry) → Fits n (effect a own c made)
  effect_fits c made = record { dots = λ d h. dot_fits c made d (is_next a own d) refl h; numbers = λ q h. number_fits c q h }

pub edit_fits : (n : ℕ) (a b : StateValue) (own : ℕ) (c : Command) (r : Result Edited Fault) → IfOk r (λ _. JoinsEffect (coordinates a) own c (coordinates b)) → OnErr r (b ≡ a) → Fits n (coordinates a) → own < n → Fits n (coordinates b)
edit_fits n a b own c (Ok x) joins err fits small = subst (Fits n) (sym joins.joined) (join_fits n (coordinates a) _ fits (effect_fits n (coordinates a) own fits small c joins.made))
edit_fits n a b own c (Err f) joins err fits small = subst (λ v. Fits n (coordinates v)) (sym err) fits

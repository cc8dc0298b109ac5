-- A state's digest says its ranks.
use Rattle.std.proofs.Common.{◌≡◌, true, cond, List, [], ◌∷◌, Option, Some, None, length, refl, sym, ◌∙◌, ap, arith}
use Rattle.std.specs.Prelude.{is_some, map as each}
use Rattle.std.specs.List.{filter_map}
use Rattle.std.specs.FinMap as map
use Rattle.std.specs.FinMap.Entries.{is_some-find}
use Rattle.std.specs.FinSet as set
use Rattle.rds_dots.specs.declared.dot.Dot.{Dot}
use Rattle.rds_dots.specs.Dots.{dot_cmp}
use Rattle.rds_dots.specs.Order.{dots_total}
use Rattle.rds_life.specs.Life.{Life, Live, Dead, Lived, keys, entry_of, seen_of, live_of, live_row, live_rows}
use Rattle.rds_life.proofs.Views.{contains-seen_of, find-live_rows}
use Rattle.rds_state.specs.Value.{StateValue, coordinates, size}
use Rattle.rds_delta.specs.Ranks.{life_rank, ranks}
use Rattle.rds_delta.specs.Digested.{DigestValue, IsInside, digest_of, ranks_in}

-- a dot is live where it has an entry
pub contains-live_of : (v : Lived) (d : Dot) → set.contains (live_of v) d ≡ is_some (entry_of (map.get v d))
contains-live_of v d = set.contains-from_list dots_total (keys (live_rows v)) d ∙ sym (is_some-find dot_cmp d (live_rows v)) ∙ ap is_some (find-live_rows v d)

live_is_seen : (o : Option Life) → is_some (entry_of o) ≡ true → is_some o ≡ true
live_is_seen None h = h
live_is_seen (Some l) h = refl

pub live_inside : (v : Lived) → IsInside (live_of v) (seen_of v)
live_inside v = record { each_dot = λ d h. contains-seen_of v d ∙ live_is_seen (map.get v d) (sym (contains-live_of v d) ∙ h) }

rank_is : (o : Option Life) → cond (is_some (entry_of o)) 1 (cond (is_some o) 2 0) ≡ life_rank o
rank_is None = refl
rank_is (Some (Live e)) = refl
rank_is (Some Dead) = refl

rank_of_digest : (v : StateValue) (d : Dot) → (ranks_in (digest_of v)).rank d ≡ life_rank (map.get v.lives d)
rank_of_digest v d =
    ap (λ b. cond b 1 (cond (set.contains (seen_of v.lives) d) 2 0)) (contains-live_of v.lives d)
    ∙ ap (λ b. cond (is_some (entry_of (map.get v.lives d))) 1 (cond b 2 0)) (contains-seen_of v.lives d)
    ∙ rank_is (map.get v.lives d)

pub ranks_of_digest : (v : StateValue) → ranks_in (digest_of v) ≡ ranks (coordinates v)
ranks_of_digest v = λ i. record { rank = λ d. rank_of_digest v d i; number = (coordinates v).number }

no_items : {X : Type 0} (xs : List X) → length xs ≡ 0 → xs ≡ []
no_items [] none = refl
no_items (x ∷ xs) none = absurd (omega (arith, none))

-- without components there is nothing to tell
pub digest_of_nothing : (v : StateValue) → size v ≡ 0 → (let g : DigestValue = record { seen = set.empty; live = set.empty; counts = map.empty } in g) ≡ digest_of v
digest_of_nothing v none =
    let first : map.len v.lives ≡ 0 = omega (arith, none) in
    let second : map.len v.counts ≡ 0 = omega (arith, none) in
    let entries : map.entries v.lives ≡ [] = no_items (map.entries v.lives) (sym (map.len-entries v.lives) ∙ first) in
    let seen : seen_of v.lives ≡ set.empty = ap (λ (l : List (Dot × Life)). set.from_list (each (λ e. e.0) l)) entries in
    let live : live_of v.lives ≡ set.empty = ap (λ (l : List (Dot × Life)). set.from_list (keys (filter_map (λ x. live_row x.0 x.1) l))) entries in
    let counts = map.empty_of_len v.counts second in
    sym (λ i. let g : DigestValue = record { seen = seen i; live = live i; counts = counts i } in g)

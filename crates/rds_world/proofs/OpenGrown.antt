-- A replica that is open grows its roster by one name after the other.
use Rattle.std.proofs.Common.{◌≡◌, ◌≢◌, ◌<◌, ◌+◌, ◌∙◌, ◌∷◌, ◌++◌, ◌&&◌, ◌||◌, ◌==◌, [], ℕ, Bool, true, false, not, List, length, length-append, ltb, map, suc, refl, sym, ap, subst, arith}
use Rattle.std.specs.Prelude.{nat_le}
use Rattle.std.specs.List.{list_any}
use Rattle.std.specs.Str.{bytes_eq}
use Rattle.std.proofs.lemmas.Bool.{leb-true, lt-ltb}
use Rattle.std.proofs.lemmas.Bool.Decides.{nat_tests}
use Rattle.std.proofs.lemmas.List.{append_assoc, append-nil}
use Rattle.std.proofs.lemmas.List.Folds.{list_any-append}
use Rattle.rds_names.specs.Conditions.{and_left, and_right, and_true}
use Rattle.rds_names.specs.Roster.{RosterValue, all_differ, are_names}
use Rattle.rds_state.specs.Fits.{ReplicaValue}
use Rattle.rds_state.specs.Value.{StateValue, coordinates}
use Rattle.rds_world.specs.Replicas.{IsOpenIn, MakeOpen, grows}
use Rattle.rds_world.specs.World.{World, Of, after, put}
use Rattle.rds_world.specs.declared.event.Event.TheVariants.{Grow}
use Rattle.rds_world.proofs.Tables.{put_here, put_there}

-- ---- names

-- the first of names that are names

no_any : (a b : Bool) → not (a || b) ≡ true → not a ≡ true
no_any true b h = h
no_any false b h = refl

differ_first : (xs ys : List (List ℕ)) → all_differ (xs ++ ys) ≡ true → all_differ xs ≡ true
differ_first [] ys h = refl
differ_first (x ∷ xs) ys h =
    let p : List ℕ → Bool = λ m. bytes_eq m x in
    let none : not (list_any p xs || list_any p ys) ≡ true = ap not (sym (list_any-append p xs ys)) ∙ and_left (not (list_any p (xs ++ ys))) (all_differ (xs ++ ys)) h in
    and_true (not (list_any p xs)) (all_differ xs) (no_any (list_any p xs) (list_any p ys) none) (differ_first xs ys (and_right (not (list_any p (xs ++ ys))) (all_differ (xs ++ ys)) h))

few_first : (n m : ℕ) → nat_le (n + m) 256 ≡ true → nat_le n 256 ≡ true
few_first n m h = grind (arith, nat_tests)

some_names : (xs : List (List ℕ)) (n : List ℕ) → nat_le 1 (length (xs ++ n ∷ [])) ≡ true
some_names xs n = let len : length (xs ++ n ∷ []) ≡ length xs + 1 = length-append xs (n ∷ []) in grind (arith, nat_tests)

names_first : (xs rest : List (List ℕ)) (n : List ℕ) → are_names (xs ++ n ∷ rest) ≡ true → are_names (xs ++ n ∷ []) ≡ true
names_first xs rest n h =
    let same : (xs ++ n ∷ []) ++ rest ≡ xs ++ n ∷ rest = append_assoc xs (n ∷ []) rest in
    let whole : are_names ((xs ++ n ∷ []) ++ rest) ≡ true = subst (λ (l : List (List ℕ)). are_names l ≡ true) (sym same) h in
    let all : List (List ℕ) = (xs ++ n ∷ []) ++ rest in
    let sized : nat_le 1 (length all) && nat_le (length all) 256 ≡ true = and_left (nat_le 1 (length all) && nat_le (length all) 256) (all_differ all) whole in
    let few : nat_le (length all) 256 ≡ true = and_right (nat_le 1 (length all)) (nat_le (length all) 256) sized in
    let counted : nat_le (length (xs ++ n ∷ []) + length rest) 256 ≡ true = subst (λ (k : ℕ). nat_le k 256 ≡ true) (length-append (xs ++ n ∷ []) rest) few in
    and_true (nat_le 1 (length (xs ++ n ∷ [])) && nat_le (length (xs ++ n ∷ [])) 256) (all_differ (xs ++ n ∷ []))
    (and_true (nat_le 1 (length (xs ++ n ∷ []))) (nat_le (length (xs ++ n ∷ [])) 256) (some_names xs n) (few_first (length (xs ++ n ∷ [])) (length rest) counted))
    (differ_first (xs ++ n ∷ []) rest (and_right (nat_le 1 (length all) && nat_le (length all) 256) (all_differ all) whole))

-- ---- the model

same_test : (a b : ℕ) → a ≡ b → (a == b) ≡ true
same_test a b e = grind (arith, nat_tests)

one_more : (xs : List (List ℕ)) (n : List ℕ) (k : ℕ) → k ≡ length xs → suc k ≡ length (xs ++ n ∷ [])
one_more xs n k e = let len : length (xs ++ n ∷ []) ≡ length xs + 1 = length-append xs (n ∷ []) in omega (arith, e, len)

-- the replica with these names behind its own
pub record IsGrownBy (names : List (List ℕ)) (v u : ReplicaValue) : Type 0 where
  pub own : u.own ≡ v.own
  pub state : u.state ≡ v.state
  pub roster : u.roster.names ≡ v.roster.names ++ names

pub grown_open : (names : List (List ℕ)) (w : World) (v kept u : ReplicaValue) → IsOpenIn w v kept → w.replicas ≡ length w.roster → v.roster.names ≡ w.roster → are_names (w.roster ++ names) ≡ true → IsGrownBy names v u → MakeOpen w (grows v.own names) u kept
grown_open [] w v kept u is_open whole same named is = record {
  accepted = tt;
  is_open = record {
    memory = record {
      there = subst (λ (a : ℕ). a < w.replicas) (sym is.own) is_open.memory.there;
      names = ap w.memory_names is.own ∙ is_open.memory.names ∙ ap (λ (l : List (List ℕ)). length l) (sym (append-nil v.roster.names) ∙ sym is.roster);
      state = ap w.memory is.own ∙ is_open.memory.state ∙ ap coordinates (sym is.state);
    };
    kept = is_open.kept;
    own = is.own ∙ is_open.own;
  };
  others = λ r other. refl;
}
grown_open (n ∷ names) w v kept u is_open whole same named is =
    let r : ℕ = v.own in
    let w1 : World = after w (Grow r n) in
    let v1 : ReplicaValue = record v { roster = record { group = v.roster.group; names = v.roster.names ++ n ∷ [] } } in
    let there : ltb r w.replicas ≡ true = lt-ltb _ _ is_open.memory.there in
    let knows : w.memory_names r ≡ w.replicas = is_open.memory.names ∙ ap (λ (l : List (List ℕ)). length l) same ∙ sym whole in
    let all : (w.memory_names r == w.replicas) ≡ true = same_test (w.memory_names r) w.replicas knows in
    let first : are_names (w.roster ++ n ∷ []) ≡ true = names_first w.roster names n named in
    let here : r ≢ w.replicas = λ e. omega (arith, e, is_open.memory.there) in
    let others_here : kept.own ≢ w.replicas = λ e. omega (arith, e, is_open.kept.there) in
    let open1 : IsOpenIn w1 v1 kept = record {
      memory = record {
        there = omega (arith, is_open.memory.there);
        names = put_there (put w.memory_names r (suc w.replicas)) w.replicas (suc w.replicas) r here ∙ put_here w.memory_names r (suc w.replicas) ∙ one_more v.roster.names n w.replicas (whole ∙ ap (λ (l : List (List ℕ)). length l) (sym same));
        state = is_open.memory.state;
      };
      kept = record {
        there = omega (arith, is_open.kept.there);
        names = put_there w.kept_names w.replicas (suc w.replicas) kept.own others_here ∙ is_open.kept.names;
        state = is_open.kept.state;
      };
      own = is_open.own;
    } in
    let named1 : are_names ((w.roster ++ n ∷ []) ++ names) ≡ true = subst (λ (l : List (List ℕ)). are_names l ≡ true) (sym (append_assoc w.roster (n ∷ []) names)) named in
    let is1 : IsGrownBy names v1 u = record { own = is.own; state = is.state; roster = is.roster ∙ sym (append_assoc v.roster.names (n ∷ []) names) } in
    let later = grown_open names w1 v1 kept u open1 (one_more w.roster n w.replicas whole) (ap (λ (l : List (List ℕ)). l ++ n ∷ []) same) named1 is1 in
    record { accepted = (rw (there, all, first) refl, later.accepted); is_open = later.is_open; others = later.others }

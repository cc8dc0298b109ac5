-- Files of new replicas, and rosters that grow, as events of the model.
use Rattle.std.proofs.Common.{◌≡◌, ◌<◌, ◌≤◌, ◌∙◌, ◌∷◌, ◌++◌, [], ℕ, Bool, true, false, cond, leb, map, max, List, length, Option, Some, None, Result, Ok, Err, refl, sym, ap, subst, arith}
use Rattle.rds_names.specs.AndThen.{◌>>=◌}
use Rattle.std.specs.FinMap as finite
use Rattle.std.specs.List.{position}
use Rattle.std.specs.Str.{bytes_eq}
use Rattle.std.proofs.lemmas.List.Quantifiers.{position-Some}
use Rattle.rds_names.specs.Key.{key_of}
use Rattle.rds_names.specs.Name.{name_of}
use Rattle.rds_names.specs.Roster.{RosterValue, are_names, grown_of, number_named, roster_of}
use Rattle.rds_names.specs.declared.fault.Fault.{Fault}
use Rattle.rds_names.specs.declared.fault.Fault.TheVariants.{BadRoster, NoSuch}
use Rattle.rds_dots.specs.declared.dot.Dot.{Dot}
use Rattle.rds_dots.specs.Dots.{dot_cmp}
use Rattle.rds_counts.specs.Counted.{Counted, number, number_from}
use Rattle.rds_counts.specs.Place.{Place, place_cmp}
use Rattle.rds_life.specs.Life.{Dead, Life, Live, Lived, join_life}
use Rattle.rds_state.specs.Coordinates.{Coordinates, join}
use Rattle.rds_state.specs.Fits.{ReplicaValue}
use Rattle.rds_state.specs.Value.{StateValue, coordinates}
use Rattle.rds_state.proofs.JoinLaws.{reflexive}
use Rattle.rds_delta.proofs.LeastLaws.{grown_delta}
use Rattle.rds_offline.specs.Copies.{InitsFrom}
use Rattle.rds_world.specs.Replicas.{MakeOpen, grows}
use Rattle.rds_world.specs.World.{World, Of, empty, run}
use Rattle.rds_world.specs.declared.event.Event.TheVariants.{Crash, Save}
use Rattle.rds_world.proofs.Open.{TakesAnswer, leads_to, opened, saved_open, then_open}
use Rattle.rds_world.proofs.OpenGrown.{IsGrownBy, grown_open}
use Rattle.rds_files.specs.Files.{KeptFile}
use Rattle.rds_commands.specs.Rosters.{CopiesAreTakes, GrowthsAreGrows, HasNothing, InitsAreStarts}
use Rattle.rds_words.specs.Meaning.{names_in}
use Rattle.rds_commands.specs.Sessions.{LeavesFile}
use Rattle.rds_commands.proofs.EditEvents.{copy_taken}

-- ---- a state without components

nothing_is : (s : StateValue) → s.lives ≡ finite.empty → s.counts ≡ finite.empty → empty ≡ coordinates s
nothing_is s no_lives no_counts = λ i. record { life = λ d. sym (no_life d) i; number = λ q. sym (no_number q) i }
  where
    no_life : (d : Dot) → finite.get s.lives d ≡ None
    no_life d = ap (λ (v : Lived). finite.get v d) no_lives ∙ finite.get-empty dot_cmp d

    no_number : (q : Place) → number s.counts q ≡ 0
    no_number q = ap (λ (v : Counted). number v q) no_counts ∙ ap number_from (finite.get-empty place_cmp q)

none_joined : (o : Option Life) → join_life None o ≡ o
none_joined None = refl
none_joined (Some (Live e)) = refl
none_joined (Some Dead) = refl

nothing_joined : (a : Coordinates) → join empty a ≡ a
nothing_joined a = λ i. record { life = λ d. none_joined (a.life d) i; number = λ q. zero_max (a.number q) i }
  where
    zero_max : (n : ℕ) → max 0 n ≡ n
    zero_max n = omega arith

-- ---- a file that is made for a name

bind_ok : {A B : Type 0} (x : Result A Fault) (f : A → Result B Fault) (y : B) → (x >>= f) ≡ Ok y → (a : A) × (x ≡ Ok a) × (f a ≡ Ok y)
bind_ok (Ok a) f y h = (a, refl, h)
bind_ok (Err e) f y h = absurd cc

number_below : (r : RosterValue) (name : List ℕ) (n : ℕ) → number_named r name ≡ Ok n → n < length r.names
number_below r name n h = by_place (position (bytes_eq name) r.names) refl
  where
    by_place : (o : Option ℕ) → position (bytes_eq name) r.names ≡ o → n < length r.names
    by_place (Some i) e =
        let it : number_named r name ≡ Ok i = rw e refl in
        let same : i ≡ n = same_ok i n (sym it ∙ h) in
        subst (λ (k : ℕ). k < length r.names) same (position-Some (bytes_eq name) r.names i [] e).0
      where
        same_ok : (a b : ℕ) → ◌≡◌ {A = Result ℕ Fault} (Ok a) (Ok b) → a ≡ b
        same_ok a b e = cc
    by_place None e = let it : number_named r name ≡ Err NoSuch = rw e refl in absurd (ok_isnt (sym it ∙ h))
      where
        ok_isnt : ◌≡◌ {A = Result ℕ Fault} (Err NoSuch) (Ok n) → ⊥
        ok_isnt e = cc

-- what the words of `init` name, one after the other
abbrev with_number : RosterValue → List ℕ → Result (RosterValue × ℕ) Fault
with_number r o = number_named r o >>= λ number. Ok (r, number)

abbrev with_names : List ℕ → List ℕ → List (List ℕ) → Result (RosterValue × ℕ) Fault
with_names g o ns = roster_of g ns >>= λ r. with_number r o

abbrev with_own : List ℕ → List ℕ → List (List ℕ) → Result (RosterValue × ℕ) Fault
with_own g o texts = names_in texts >>= λ ns. with_names g o ns

abbrev with_group : List ℕ → List ℕ → List (List ℕ) → Result (RosterValue × ℕ) Fault
with_group g own texts = name_of own >>= λ o. with_own g o texts

pub inits_start : InitsAreStarts
inits_start words file answer inits =
    let roster : RosterValue = file.kept.roster in
    let made : RosterValue × ℕ = (roster, file.kept.own) in
    let texts : List (List ℕ) = map (λ n. n.now) words.names.items in
    let group = bind_ok (key_of words.group.now) (λ (g : List ℕ). with_group g words.own.now texts) made inits.kept.named in
    let own = bind_ok (name_of words.own.now) (λ (o : List ℕ). with_own group.0 o texts) made group.2 in
    let names = bind_ok (names_in texts) (λ (ns : List (List ℕ)). with_names group.0 own.0 ns) made own.2 in
    let of = bind_ok (roster_of group.0 names.0) (λ (r : RosterValue). with_number r own.0) made names.2 in
    let number = bind_ok (number_named of.0 own.0) (λ (n : ℕ). Ok (of.0, n)) made of.2 in
    let same : (of.0 ≡ roster) × (number.0 ≡ file.kept.own) = pair_is of.0 roster number.0 file.kept.own number.2 in
    record {
      there = subst (λ (r : RosterValue). file.kept.own < length r.names) same.0 (subst (λ (k : ℕ). k < length of.0.names) same.1 (number_below of.0 own.0 number.0 number.1));
      names = refl;
      state = nothing_is file.kept.state inits.kept.no_lives inits.kept.no_counts;
    }
  where
    ok_pair : (x y : RosterValue × ℕ) → ◌≡◌ {A = Result (RosterValue × ℕ) Fault} (Ok x) (Ok y) → x ≡ y
    ok_pair x y e = cc

    pair_is : (r s : RosterValue) (a b : ℕ) → ◌≡◌ {A = Result (RosterValue × ℕ) Fault} (Ok (r, a)) (Ok (s, b)) → (r ≡ s) × (a ≡ b)
    pair_is r s a b e =
        let same : ◌≡◌ {A = RosterValue × ℕ} (r, a) (s, b) = ok_pair (r, a) (s, b) e in
        (ap (λ (p : RosterValue × ℕ). p.0) same, ap (λ (p : RosterValue × ℕ). p.1) same)

-- ---- a file that is made of a copy

copy_takes : (path from own : List ℕ) (unused : ReplicaValue) (file : KeptFile) (inits : InitsFrom path from own file) → HasNothing unused → file.kept.own ≡ unused.own → length unused.roster.names ≤ length file.kept.roster.names
    → TakesAnswer unused inits.source.kept unused file.kept
copy_takes path from own unused file inits nothing same few =
    let before : Coordinates = coordinates unused.state in
    let source : Coordinates = coordinates inits.source.kept.state in
    let roster : length file.kept.roster.names ≡ length inits.source.kept.roster.names = ap (λ (s : RosterValue). length s.names) inits.next.roster in
    record {
      asker = refl;
      own = same;
      joined = inits.next.state ∙ sym (nothing_joined source) ∙ ap (λ (a : Coordinates). join a source) (nothing_is unused.state nothing.no_lives nothing.no_counts)
          ∙ sym (grown_delta source before before (reflexive before));
      names = omega (arith, roster, few);
    }

pub copies_taken : CopiesAreTakes
copies_taken w lent path from own unused file inits lends keeps nothing same few =
    copy_taken w lent inits.source.kept unused file.kept keeps lends (copy_takes path from own unused file inits nothing same few)

-- ---- a roster that grows

grown_is : (r s : RosterValue) (names : List (List ℕ)) → grown_of r names ≡ Ok s → (s.names ≡ r.names ++ names) × (are_names (r.names ++ names) ≡ true)
grown_is r s names is = by_some (leb 1 (length names)) is
  where
    longer : RosterValue
    longer = record { group = r.group; names = r.names ++ names }

    ok_is : (x y : RosterValue) → ◌≡◌ {A = Result RosterValue Fault} (Ok x) (Ok y) → x ≡ y
    ok_is x y e = cc

    by_names : (t : Bool) → are_names (r.names ++ names) ≡ t → cond t (Ok longer) (Err BadRoster) ≡ Ok s → (s.names ≡ r.names ++ names) × (are_names (r.names ++ names) ≡ true)
    by_names true e is = (ap (λ (x : RosterValue). x.names) (sym (ok_is longer s is)), e)
    by_names false e is = absurd cc

    by_some : (t : Bool) → cond t (cond (are_names (r.names ++ names)) (Ok longer) (Err BadRoster)) (Err BadRoster) ≡ Ok s → (s.names ≡ r.names ++ names) × (are_names (r.names ++ names) ≡ true)
    by_some true is = by_names (are_names (r.names ++ names)) refl is
    by_some false is = absurd cc

pub growths_grown : GrowthsAreGrows
growths_grown w words file answer rosters keeps whole growth =
    let before = file.before in
    let v = file.kept in
    let own : ℕ = before.own in
    let names = growth.names in
    let grown = grown_is before.roster v.roster names growth.grown.roster in
    let read = opened w before keeps in
    let w1 : World = run (Of (Crash own) ∷ []) w in
    let named : are_names (w.roster ++ names) ≡ true = subst (λ (l : List (List ℕ)). are_names (l ++ names) ≡ true) whole grown.1 in
    let is : IsGrownBy names before v = record { own = growth.grown.own; state = growth.grown.state; roster = grown.0 } in
    let grew : MakeOpen w1 (grows own names) v before = grown_open names w1 before before v read.is_open rosters.named whole named is in
    let save = saved_open (run (grows own names) w1) v before grew.is_open in
    let all = then_open w (Of (Crash own) ∷ []) (grows own names ++ Of (Save v.own) ∷ []) before v before v growth.grown.own read
    (then_open w1 (grows own names) (Of (Save v.own) ∷ []) v v before v refl grew save) in
    subst (λ (a : ℕ). LeavesFile w (Of (Crash own) ∷ (grows own names ++ Of (Save a) ∷ [])) file) growth.grown.own (leads_to w _ v all)

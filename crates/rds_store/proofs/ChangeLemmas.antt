-- Deltas one after the other and as one, and what became of a document.
use Rattle.std.proofs.Common.{◌≡◌, ◌∙◌, ◌++◌, ◌||◌, ◌≤◌, ◌<◌, ℕ, Bool, true, false, max, List, [], ◌∷◌, length, Option, Some, None, Result, Ok, Err, refl, sym, ap, ap₂, subst, take, drop, inl, inr, arith}
use Rattle.std.specs.Prelude.{IfSome, is_some, if◌then◌else◌, nat_le}
use Rattle.std.specs.FinMap as map
use Rattle.std.specs.List.{slice_get}
use Rattle.std.specs.Global.{Vec}
use Rattle.std.proofs.lemmas.List.{take-append-drop}
use Rattle.std.proofs.lemmas.Bool.Decides.{nat_tests}
use Rattle.rds_dots.specs.declared.dot.Dot.{Dot}
use Rattle.rds_dots.specs.Dots.{dot_cmp}
use Rattle.rds_keep.specs.Changes.{IsChanged, roster_after}
use Rattle.rds_life.specs.Life.{Dead, Life, Live, Lived, join_life}
use Rattle.rds_lines.specs.Editing.{DoesEdit}
use Rattle.rds_names.specs.Roster.{RosterValue, Begins, OneBegins, are_names, grown_of, longer}
use Rattle.rds_names.specs.declared.fault.Fault.{Fault}
use Rattle.rds_names.specs.declared.fault.Fault.TheVariants.{BadRoster}
use Rattle.rds_delta.proofs.LeastLaws.{grown_delta}
use Rattle.rds_delta.specs.Least.{least}
use Rattle.rds_delta.specs.Ranks.{ranks}
use Rattle.rds_state.proofs.JoinLaws.{associative, reflexive, same_coordinates}
use Rattle.rds_state.proofs.MadeLemmas.{made_is}
use Rattle.rds_state.specs.Coordinates.{Coordinates, join}
use Rattle.rds_state.specs.Edit.{effect}
use Rattle.rds_state.specs.Fits.{Fits, ReplicaValue}
use Rattle.rds_state.specs.Results.{TakesDeltaWith}
use Rattle.rds_state.specs.Value.{StateValue, coordinates}
use Rattle.rds_state.specs.declared.command.Command.{Command}
use Rattle.rds_state.specs.declared.command.Edited.{Edited}
use Rattle.rds_store.specs.Changes.{IsSince, with_deltas}
use Rattle.rds_store.specs.Noting.{AreSince, HasAdded, Notes}
use Rattle.rds_store.specs.declared.changes.Changes.{Changes}
use Rattle.rds_tree.proofs.EffectMade.{no_count}
use Rattle.rds_tree.specs.EditsWithDelta.{EditsWithDelta}
use Rattle.rds_world.proofs.Meeting.{begins_itself, begins_on}

-- ---- deltas as one

with_both : (a : Coordinates) (xs ys : List StateValue) → with_deltas a (xs ++ ys) ≡ with_deltas (with_deltas a xs) ys
with_both a [] ys = refl
with_both a (x ∷ xs) ys = with_both (join a (coordinates x)) xs ys

abbrev pub IsAll : StateValue → List StateValue → Type 0
IsAll all deltas = (a : Coordinates) → with_deltas a deltas ≡ join a (coordinates all)

life_stays : (l : Option Life) → join_life l None ≡ l
life_stays None = refl
life_stays (Some (Live e)) = refl
life_stays (Some Dead) = refl

max_stays : (n m : ℕ) → m ≡ 0 → max n m ≡ n
max_stays n m none = omega (arith, none)

no_life : (v : Lived) → v ≡ map.empty → (d : Dot) → map.get v d ≡ None
no_life v none d = ap (λ m. map.get m d) none ∙ map.get-empty {X = Life} dot_cmp d

pub none_at_all : (all : StateValue) → all.lives ≡ map.empty → all.counts ≡ map.empty → IsAll all []
none_at_all all lives counts a =
    sym (same_coordinates (join a (coordinates all)) a
    (λ d. ap (join_life (a.life d)) (no_life all.lives lives d) ∙ life_stays (a.life d))
    (λ q. max_stays (a.number q) ((coordinates all).number q) (no_count all.counts counts q)))

pub one_alone : (delta all : StateValue) → all ≡ delta → IsAll all (delta ∷ [])
one_alone delta all same a = ap (λ (v : StateValue). join a (coordinates v)) (sym same)

none_first : (ds : List StateValue) → None ≡ slice_get ds 0 → ds ≡ []
none_first [] none = refl
none_first (d ∷ ds) none = absurd cc

-- the same where there is no first
pub none_there : (deltas : List StateValue) (all : StateValue) → None ≡ slice_get deltas 0 → all.lives ≡ map.empty → all.counts ≡ map.empty → IsAll all deltas
none_there deltas all none lives counts = rw (none_first deltas none) (none_at_all all lives counts)

parts_of : (n : ℕ) (left right deltas : List StateValue) → left ≡ take n deltas → right ≡ drop n deltas → deltas ≡ left ++ right
parts_of n left right deltas front back = sym (ap₂ (λ (xs ys : List StateValue). xs ++ ys) front back ∙ take-append-drop n deltas)

pub both_halves : (n : ℕ) (left right deltas : List StateValue) (l r all : StateValue) → left ≡ take n deltas → right ≡ drop n deltas → IsAll l left → IsAll r right → coordinates all ≡ join (coordinates l) (coordinates r) → IsAll all deltas
both_halves n left right deltas l r all front back is_l is_r merged a =
    ap (with_deltas a) (parts_of n left right deltas front back) ∙ (with_both a left right ∙ (ap (λ (b : Coordinates). with_deltas b right) (is_l a)
    ∙ (is_r (join a (coordinates l)) ∙ (associative a (coordinates l) (coordinates r) ∙ ap (join a) (sym merged)))))

-- ---- rosters

chosen : (b : Bool) (r s : RosterValue) → ◌≡◌ {A = Result RosterValue Fault} (if b then Ok r else Err BadRoster) (Ok s) → r ≡ s
chosen true r s is = cc
chosen false r s is = absurd cc

pub grown_begins : (r s : RosterValue) (name : List ℕ) → grown_of r (name ∷ []) ≡ Ok s → Begins r s
grown_begins r s name is =
    let made : RosterValue = record { group = r.group; names = r.names ++ name ∷ [] } in
    subst (Begins r) (chosen (are_names (r.names ++ name ∷ [])) made s is) (refl, (name ∷ [], refl))

-- of two rosters of which one begins the other, each begins the one with more names
pub begins_longer : (r s : RosterValue) → OneBegins r s → Begins r (longer r s)
begins_longer r s (inl begins) = by_length (nat_le (length s.names) (length r.names))
  where
    by_length : (b : Bool) → Begins r (if b then r else s)
    by_length true = begins_itself r
    by_length false = begins
begins_longer r s (inr begins) = by_length (nat_le (length s.names) (length r.names)) refl
  where
    by_length : (b : Bool) → nat_le (length s.names) (length r.names) ≡ b → Begins r (if b then r else s)
    by_length true e = begins_itself r
    by_length false e =
        let lt : length r.names < length s.names = grind (arith, nat_tests) in
        absurd (longer_than s.names begins.1.0 r.names begins.1.1 lt)
      where
        longer_than : (xs more ys : List (List ℕ)) → ys ≡ xs ++ more → length ys < length xs → ⊥
        longer_than [] more ys is lt = absurd (omega (arith, lt))
        longer_than (x ∷ xs) more [] is lt = absurd cc
        longer_than (x ∷ xs) more (y ∷ ys) is lt =
            let tails : ys ≡ xs ++ more = cc in
            let less : length ys < length xs = omega (arith, lt) in
            longer_than xs more ys tails less

same_if : (b : Bool) (r s : RosterValue) → nat_le (length s.names) (length r.names) ≡ b → length (if b then r else s).names ≤ length r.names → (if b then r else s) ≡ r
same_if true r s e le = refl
same_if false r s e le = absurd (grind (arith, nat_tests))

-- the longer one that isn't longer is the same
pub same_longer : (r s : RosterValue) → length (longer r s).names ≤ length r.names → longer r s ≡ r
same_longer r s le = same_if (nat_le (length s.names) (length r.names)) r s refl le

-- ---- what became of a document

pub since_itself : (v : ReplicaValue) → IsSince v [] false v
since_itself v = record { joined = refl; begins = begins_itself v.roster; roster = λ none. refl; own = refl }

-- what a delta made of a replica
pub record IsMadeBy (delta : StateValue) (grew : Bool) (now after : ReplicaValue) : Type 0 where
  pub joined : coordinates after.state ≡ join (coordinates now.state) (coordinates delta)
  pub begins : Begins now.roster after.roster
  pub roster : grew ≡ false → after.roster ≡ now.roster
  pub own : after.own ≡ now.own

neither : (a b : Bool) → (a || b) ≡ false → (a ≡ false) × (b ≡ false)
neither true b none = absurd cc
neither false b none = (refl, none)

since_made : (before now after : ReplicaValue) (deltas : List StateValue) (grown grew : Bool) (delta : StateValue) → IsSince before deltas grown now → IsMadeBy delta grew now after → IsSince before (deltas ++ delta ∷ []) (grown || grew) after
since_made before now after deltas grown grew delta since made = record {
  joined = made.joined ∙ (ap (λ (a : Coordinates). join a (coordinates delta)) since.joined ∙ sym (with_both (coordinates before.state) deltas (delta ∷ [])));
  begins = begins_on before.roster now.roster after.roster since.begins made.begins;
  roster = λ none. let each = neither grown grew none in made.roster each.1 ∙ since.roster each.0;
  own = made.own ∙ since.own;
}

abbrev SinceAll : ReplicaValue → Option (Vec StateValue) → Bool → ReplicaValue → Type 0
SinceAll before deltas grown now = IfSome deltas (λ ds. IsSince before ds.items grown now)

added : (before now after : ReplicaValue) (old new : Option (Vec StateValue)) (grown grew : Bool) (delta : StateValue) → SinceAll before old grown now → HasAdded delta old new → IsMadeBy delta grew now after
    → SinceAll before new (grown || grew) after
added before now after None new grown grew delta since adds made = rw adds tt
added before now after (Some old) None grown grew delta since adds made = absurd adds
added before now after (Some old) (Some new) grown grew delta since adds made = rw adds (since_made before now after old.items grown grew delta since made)

pub noted : (old new : Changes) (now after : ReplicaValue) (grew : Bool) (delta : StateValue) → AreSince old now → Notes delta grew old new → IsMadeBy delta grew now after → AreSince new after
noted old new now after grew delta since notes made =
    rw (notes.kept, notes.grown) (added old.kept.value now after old.deltas new.deltas old.is_grown grew delta since notes.deltas made)

-- an edit that hands out its effect
pub edit_made : (now after : ReplicaValue) (command : Command) (edited : Edited) (delta : StateValue) → EditsWithDelta now command (Ok (edited, delta)) after → IsMadeBy delta false now after
edit_made now after command edited delta edits =
    let did = edits.edited.joined in
    record {
      joined = did.joined ∙ (ap (λ made. join (coordinates now.state) (effect (coordinates now.state) now.own command made)) (made_is command did.made did.is_made) ∙ ap (join (coordinates now.state)) (sym edits.delta));
      begins = subst (Begins now.roster) (sym edits.roster) (begins_itself now.roster);
      roster = λ none. edits.roster;
      own = edits.own;
    }

-- a delta that came with a roster
pub take_made : (now after : ReplicaValue) (came : RosterValue) (delta : StateValue) (grew : Bool) → TakesDeltaWith now came delta (Ok tt) after → (grew ≡ false → after.roster ≡ now.roster) → IsMadeBy delta grew now after
take_made now after came delta grew takes same = record {
  joined = takes.ok;
  begins = subst (Begins now.roster) (sym takes.roster) (begins_longer now.roster came takes.gives.0);
  roster = same;
  own = takes.own;
}

-- another's state and roster, copied
pub as_merged : (now after source : ReplicaValue) (came : RosterValue) (delta : StateValue) → came ≡ source.roster → delta ≡ source.state → TakesDeltaWith now came delta (Ok tt) after
    → TakesDeltaWith now source.roster source.state (Ok tt) after
as_merged now after source came delta roster state takes =
    subst (λ (r : RosterValue). TakesDeltaWith now r source.state (Ok tt) after) roster (subst (λ (d : StateValue). TakesDeltaWith now came d (Ok tt) after) state takes)

-- of another's state what was lacking
pub merge_made : (now after source : ReplicaValue) (lacking : StateValue) (grew : Bool) → TakesDeltaWith now source.roster source.state (Ok tt) after
    → coordinates lacking ≡ least (coordinates source.state) (ranks (coordinates now.state)) → (grew ≡ false → after.roster ≡ now.roster) → IsMadeBy lacking grew now after
merge_made now after source lacking grew takes is same = record {
  joined = takes.ok ∙ sym (ap (join (coordinates now.state)) is ∙ grown_delta (coordinates source.state) (coordinates now.state) (coordinates now.state) (reflexive (coordinates now.state)));
  begins = subst (Begins now.roster) (sym takes.roster) (begins_longer now.roster source.roster takes.gives.0);
  roster = same;
  own = takes.own;
}

-- ---- an edit that was done, or refused

pub does_with_delta : (before after : ReplicaValue) (command : Command) (edited : Edited) (delta : StateValue) → EditsWithDelta before command (Ok (edited, delta)) after → DoesEdit before command (Ok edited) after
does_with_delta before after command edited delta edits = record { edited = edits.edited; roster = edits.roster; own = edits.own; err = tt }

pub does_nothing : (before after : ReplicaValue) (command : Command) (fault : Fault) → EditsWithDelta before command (Err fault) after → DoesEdit before command (Err fault) after
does_nothing before after command fault edits = record { edited = edits.edited; roster = edits.roster; own = edits.own; err = edits.err }

-- ---- the change

all_fits : (n : ℕ) (before now all : Coordinates) → now ≡ join before all → Fits n now → Fits n all
all_fits n before now all is fits = record {
  dots = λ d some. fits.dots d (subst (λ (c : Coordinates). is_some (c.life d) ≡ true) (sym is) (still (before.life d) (all.life d) some));
  numbers = λ q some. fits.numbers q (subst (λ (c : Coordinates). 0 < c.number q) (sym is) (omega (arith, some)));
}
  where
    still : (l m : Option Life) → is_some m ≡ true → is_some (join_life l m) ≡ true
    still None m some = some
    still (Some (Live e)) None some = refl
    still (Some (Live e)) (Some (Live f)) some = refl
    still (Some (Live e)) (Some Dead) some = refl
    still (Some Dead) m some = refl

changed_by : (before now : ReplicaValue) (deltas : List StateValue) (grown : Bool) (all : StateValue) (roster : Option RosterValue) → IsSince before deltas grown now → IsAll all deltas
    → Fits (length now.roster.names) (coordinates now.state) → roster ≡ (if grown then Some now.roster else None) → IsChanged before (record { roster = roster; delta = all }) now
changed_by before now deltas grown all roster since is_all fits is =
    let joined = since.joined ∙ is_all (coordinates before.state) in
    rw is (record {
      roster = after grown since.roster;
      begins = since.begins;
      own = since.own;
      joined = joined;
      fits = all_fits (length now.roster.names) (coordinates before.state) (coordinates now.state) (coordinates all) joined fits;
    })
  where
    after : (b : Bool) → (b ≡ false → now.roster ≡ before.roster) → now.roster ≡ roster_after before.roster (if b then Some now.roster else None)
    after true same = refl
    after false same = same refl

-- the change of a document whose changes are noted
pub change_of : (c : Changes) (now : ReplicaValue) (deltas : Vec StateValue) (all : StateValue) (roster : Option RosterValue) → AreSince c now → c.deltas ≡ Some deltas → IsAll all deltas.items
    → Fits (length now.roster.names) (coordinates now.state) → roster ≡ (if c.is_grown then Some now.roster else None) → IsChanged c.kept.value (record { roster = roster; delta = all }) now
change_of c now deltas all roster since some is_all fits is =
    changed_by c.kept.value now deltas.items c.is_grown all roster (subst (λ (ds : Option (Vec StateValue)). SinceAll c.kept.value ds c.is_grown now) some since) is_all fits is

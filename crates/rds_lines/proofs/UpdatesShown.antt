-- Lines that are met one after the other are answered by the updates held by then.
use Rattle.std.proofs.Common.{◌≡◌, ◌∙◌, ◌≤◌, ◌++◌, ◌∷◌, [], ◌||◌, ℕ, Bool, true, false, List, length, map, Option, Some, None, Result, Ok, Err, refl, sym, ap, subst, inl, inr, append_assoc, append-nil}
use Rattle.std.specs.Prelude.{option_map}
use Rattle.std.specs.List.{flat_map, list_any}
use Rattle.std.proofs.lemmas.List.Elements.{All-cons, All-nil, filter_map-append}
use Rattle.rds_names.specs.declared.fault.Fault.{Fault}
use Rattle.rds_names.specs.declared.fault.Fault.TheVariants.{BadLine}
use Rattle.rds_names.specs.AndThen.{◌>>=◌}
use Rattle.rds_names.specs.Roster.{RosterValue}
use Rattle.rds_state.specs.Coordinates.{Coordinates}
use Rattle.rds_state.specs.Value.{StateValue, coordinates}
use Rattle.rds_json.specs.Line.{line_of}
use Rattle.rds_json.specs.declared.line.Line.{Line}
use Rattle.rds_json.specs.declared.line.Line.TheVariants as lines
use Rattle.rds_json.proofs.LinesUnderstood.{line_understood}
use Rattle.rds_json.proofs.Outcomes.{passed}
use Rattle.rds_world.specs.Coherent.{Memory as InMemory}
use Rattle.rds_world.specs.Events.{roster_after_event}
use Rattle.rds_world.specs.Law.{held_after, world_after}
use Rattle.rds_world.specs.Simulation.{roster_with_names}
use Rattle.rds_world.specs.Updates.{ShowsUpdates}
use Rattle.rds_world.specs.World.{World, Happening, Of, Accepted, after, refusal_of, initial_world}
use Rattle.rds_world.specs.declared.event.Event.{Event}
use Rattle.rds_world.specs.declared.event.Done.{Done as Outcome}
use Rattle.rds_world.specs.declared.event.Done.TheVariants as outcomes
use Rattle.rds_world.proofs.Rosters.{few_names}
use Rattle.rds_world.proofs.Runs.{accepted_on, run_on}
use Rattle.rds_world.proofs.Simulated.{law_holds, roster_goes_on}
use Rattle.rds_output.specs.Reply.{is_refusal, reply_line}
use Rattle.rds_output.specs.declared.reply.Reply.{Reply}
use Rattle.rds_output.specs.declared.reply.Reply.TheVariants.{Done}
use Rattle.rds_lines.specs.Lines.{is_text_line}
use Rattle.rds_lines.specs.Sim.{Group, MeetsBytes, MeetsEvent, MeetsLine, MeetsLines, MeetsRead, MeetsRequest, done_reply, group_after, line_of_bytes, opening_group, request_of}
use Rattle.rds_lines.specs.SimLaws.{AnsweredLine, AsksFor, CameTo, WasRefused, NamesGroup, Refused, Happened, Shown, ShowsHeld, ShowsTheirUpdates, SimShowsUpdates, events_of}
use Rattle.rds_lines.specs.Views.{ShowsView}
use Rattle.rds_lines.specs.declared.sim.Request.{Request}
use Rattle.rds_lines.specs.declared.sim.Request.TheVariants as requests
use Rattle.rds_lines.specs.declared.views.Layout.TheVariants.{Compact}

-- ---- what one line of a group came to

data Met (g : Group) (bytes : List ℕ) (answer : Reply) (next : Option Group) : Type 0 where
  is_refused : is_refusal answer ≡ true → next ≡ Some g → Met g bytes answer next
  has_happened : (e : Event) → (line_of_bytes bytes >>= request_of g.roster) ≡ Ok (requests.Event e) → refusal_of g.world e ≡ None → is_refusal answer ≡ false
      → next ≡ Some (group_after g e) → Met g bytes answer next
  is_shown : (number : ℕ) (path : List (List ℕ)) → (line_of_bytes bytes >>= request_of g.roster) ≡ Ok (requests.Show number path) → (state : StateValue)
      → coordinates state ≡ g.world.memory number → ShowsView Compact state path answer → next ≡ Some g → Met g bytes answer next

done_refuses_nothing : (roster : RosterValue) (done : Outcome) → is_refusal (done_reply roster done) ≡ false
done_refuses_nothing roster (outcomes.Edited e) = refl
done_refuses_nothing roster outcomes.Plain = refl
done_refuses_nothing roster (outcomes.Asked k) = refl
done_refuses_nothing roster (outcomes.Answered k components) = refl

met_event : (g : Group) (bytes : List ℕ) (e : Event) → (line_of_bytes bytes >>= request_of g.roster) ≡ Ok (requests.Event e) → (answer : Reply) (next : Option Group) → MeetsEvent g e answer next
    → Met g bytes answer next
met_event g bytes e asks answer next m = elim m.met [
  | inl h ↦ has_happened e asks h.accepted.due (ap is_refusal h.told ∙ done_refuses_nothing (group_after g e).roster h.outcome) h.next_is
  | inr s ↦ is_refused (ap is_refusal s.told.0) s.told.1
]

met_request : (g : Group) (bytes : List ℕ) (r : Result Request Fault) → (line_of_bytes bytes >>= request_of g.roster) ≡ r → (answer : Reply) (next : Option Group) → MeetsRequest g r answer next
    → Met g bytes answer next
met_request g bytes (Ok (requests.Event e)) asks answer next m = met_event g bytes e asks answer next m
met_request g bytes (Ok (requests.Show number path)) asks answer next m = elim m [
  | inl absent ↦ is_refused (ap is_refusal absent.1.0) absent.1.1
  | inr s ↦ is_shown number path asks s.state s.memory s.shown s.next_is
]
met_request g bytes (Err fault) asks answer next m = is_refused (ap is_refusal m.0) m.1

met_read : (g : Group) (bytes : List ℕ) (r : Result Line Fault) → line_of_bytes bytes ≡ r → (answer : Reply) (next : Option Group) → MeetsRead (Some g) r answer next → Met g bytes answer next
met_read g bytes (Ok line) is answer next m = met_request g bytes (request_of g.roster line) (ap (λ (r : Result Line Fault). r >>= request_of g.roster) is) answer next m
met_read g bytes (Err fault) is answer next m = is_refused (ap is_refusal m.0) m.1

met : (g : Group) (bytes : List ℕ) (answer : Reply) (next : Option Group) → MeetsBytes (Some g) bytes answer next → Met g bytes answer next
met g bytes answer next m = elim m [
  | inl memory ↦ is_refused (ap is_refusal memory.0) memory.1
  | inr read ↦ met_read g bytes (line_of_bytes bytes) refl answer next read
]

-- ---- what a line came to before there is a group

data Begun (bytes : List ℕ) (answer : Reply) (next : Option Group) : Type 0 where
  not_yet : is_refusal answer ≡ true → next ≡ None → Begun bytes answer next
  has_begun : (roster : RosterValue) → line_of_bytes bytes ≡ Ok (lines.Roster roster) → answer ≡ Done → next ≡ Some (opening_group roster) → Begun bytes answer next

begun_line : (bytes : List ℕ) (line : Line) → line_of_bytes bytes ≡ Ok line → (answer : Reply) (next : Option Group) → MeetsLine None line answer next → Begun bytes answer next
begun_line bytes (lines.Roster roster) is answer next m = has_begun roster is m.0 m.1
begun_line bytes (lines.Edit name command) is answer next m = not_yet (ap is_refusal m.0) m.1
begun_line bytes (lines.Save name) is answer next m = not_yet (ap is_refusal m.0) m.1
begun_line bytes (lines.Crash name) is answer next m = not_yet (ap is_refusal m.0) m.1
begun_line bytes (lines.Ask name) is answer next m = not_yet (ap is_refusal m.0) m.1
begun_line bytes (lines.Answer name k) is answer next m = not_yet (ap is_refusal m.0) m.1
begun_line bytes (lines.Take k) is answer next m = not_yet (ap is_refusal m.0) m.1
begun_line bytes (lines.Grow name newcomer) is answer next m = not_yet (ap is_refusal m.0) m.1
begun_line bytes (lines.Show name path) is answer next m = not_yet (ap is_refusal m.0) m.1

begun_read : (bytes : List ℕ) (r : Result Line Fault) → line_of_bytes bytes ≡ r → (answer : Reply) (next : Option Group) → MeetsRead None r answer next → Begun bytes answer next
begun_read bytes (Ok line) is answer next m = begun_line bytes line is answer next m
begun_read bytes (Err fault) is answer next m = not_yet (ap is_refusal m.0) m.1

begun : (bytes : List ℕ) (answer : Reply) (next : Option Group) → MeetsBytes None bytes answer next → Begun bytes answer next
begun bytes answer next m = elim m [
  | inl memory ↦ not_yet (ap is_refusal memory.0) memory.1
  | inr read ↦ begun_read bytes (line_of_bytes bytes) refl answer next read
]

-- a line names a roster of 256 names at most
few_named : (bytes : List ℕ) (roster : RosterValue) → line_of_bytes bytes ≡ Ok (lines.Roster roster) → length roster.names ≤ 256
few_named bytes roster is =
    let read = passed (is_text_line bytes) (line_of bytes) BadLine (lines.Roster roster) is in
    few_names roster.names (line_understood bytes (lines.Roster roster) read.1).1.2

-- ---- the group after events

-- the group is the one after these events, none of which the model refuses
record IsAfter (roster : RosterValue) (es : List Happening) (g : Group) : Type 0 where
  world : g.world ≡ world_after roster.names es
  same : g.roster ≡ roster_with_names roster (world_after roster.names es)
  accepted : Accepted es (initial_world roster.names)

after_one : (roster : RosterValue) (es : List Happening) (g : Group) (e : Event) → IsAfter roster es g → refusal_of g.world e ≡ None → IsAfter roster (es ++ Of e ∷ []) (group_after g e)
after_one roster es g e at due =
    let w = world_after roster.names es in
    let on : world_after roster.names (es ++ Of e ∷ []) ≡ after w e = run_on es (Of e ∷ []) (initial_world roster.names) in
    let here : refusal_of w e ≡ None = subst (λ (x : World). refusal_of x e ≡ None) at.world due in
    record {
      world = ap (λ (x : World). after x e) at.world ∙ sym on;
      same = ap (λ (r : RosterValue). roster_after_event r e) at.same ∙ sym (roster_goes_on roster w e) ∙ ap (roster_with_names roster) (sym on);
      accepted = (accepted_on es (Of e ∷ []) (initial_world roster.names)).1 (at.accepted, (here, tt));
    }

-- ---- lines of a group, one after the other

-- what lines came to after those that are done, which led to the world
record Later (roster : RosterValue) (done : List AnsweredLine) (w : World) (bytes : List (List ℕ)) (out : List ℕ) (refused : Bool) : Type 0 where
  answered : List AnsweredLine
  of_lines : bytes ≡ map (λ a. a.line) answered
  is_written : out ≡ flat_map (λ a. reply_line a.answer) answered
  is_refused : refused ≡ list_any (λ a. is_refusal a.answer) answered
  accepted : Accepted (events_of answered) w
  came : (earlier later : List AnsweredLine) (a : AnsweredLine) → answered ≡ earlier ++ a ∷ later → CameTo roster (done ++ earlier) a

head_or : {A : Type 0} → A → List A → A
head_or x [] = x
head_or x (y ∷ ys) = y

tail_of : {A : Type 0} → List A → List A
tail_of [] = []
tail_of (y ∷ ys) = ys

same_head : {A : Type 0} (x y : A) (xs ys : List A) → x ∷ xs ≡ y ∷ ys → x ≡ y
unfolding head_or
same_head x y xs ys e = ap (head_or x) e

same_tail : {A : Type 0} (x y : A) (xs ys : List A) → x ∷ xs ≡ y ∷ ys → xs ≡ ys
unfolding tail_of
same_tail x y xs ys e = ap tail_of e

no_line : {P : Type 0} (earlier later : List AnsweredLine) (a : AnsweredLine) → [] ≡ earlier ++ a ∷ later → P
no_line [] later a e = absurd cc
no_line (b ∷ earlier) later a e = absurd cc

came_first : (roster : RosterValue) (done : List AnsweredLine) (a : AnsweredLine) (answered : List AnsweredLine) → CameTo roster done a
    → ((earlier later : List AnsweredLine) (b : AnsweredLine) → answered ≡ earlier ++ b ∷ later → CameTo roster ((done ++ a ∷ []) ++ earlier) b)
    → (earlier later : List AnsweredLine) (b : AnsweredLine) → a ∷ answered ≡ earlier ++ b ∷ later → CameTo roster (done ++ earlier) b
came_first roster done a answered first rest [] later b e =
    subst (λ (x : AnsweredLine). CameTo roster (done ++ []) x) (same_head a b answered later e) (subst (λ (d : List AnsweredLine). CameTo roster d a) (sym (append-nil done)) first)
came_first roster done a answered first rest (x ∷ earlier) later b e =
    let here : a ≡ x = same_head a x answered (earlier ++ b ∷ later) e in
    let there = rest earlier later b (same_tail a x answered (earlier ++ b ∷ later) e) in
    subst (λ (y : AnsweredLine). CameTo roster (done ++ y ∷ earlier) b) here (subst (λ (d : List AnsweredLine). CameTo roster d b) (append_assoc done (a ∷ []) earlier) there)

line_first : (roster : RosterValue) (done : List AnsweredLine) (w next : World) (a : AnsweredLine) (rest : List (List ℕ)) (out after_it : List ℕ) (refused more : Bool) → CameTo roster done a
    → out ≡ reply_line a.answer ++ after_it → refused ≡ (is_refusal a.answer || more) → (later : Later roster (done ++ a ∷ []) next rest after_it more) → Accepted (events_of (a ∷ later.answered)) w
    → Later roster done w (a.line ∷ rest) out refused
line_first roster done w next a rest out after_it refused more came out_is refused_is later accepted = record {
  answered = a ∷ later.answered;
  of_lines = ap (λ (bytes : List (List ℕ)). a.line ∷ bytes) later.of_lines;
  is_written = out_is ∙ ap (λ (bytes : List ℕ). reply_line a.answer ++ bytes) later.is_written;
  is_refused = refused_is ∙ ap (λ (b : Bool). is_refusal a.answer || b) later.is_refused;
  accepted = accepted;
  came = came_first roster done a later.answered came later.came;
}

module _ (roster : RosterValue) (few : length roster.names ≤ 256) where
  held_shown : (es : List Happening) (g : Group) → IsAfter roster es g → (number : ℕ) (path : List (List ℕ)) (answer : Reply) (state : StateValue) → coordinates state ≡ g.world.memory number
      → ShowsView Compact state path answer → ShowsHeld es number path answer
  held_shown es g at number path answer state memory shown =
      let here : (world_after roster.names es).memory number ≡ coordinates state = ap (λ (w : World). w.memory number) (sym at.world) ∙ sym memory in
      let updates = (law_holds roster.names es at.accepted).documents few InMemory number in
      record {
        state = state;
        updates = subst (λ (a : Coordinates). ShowsUpdates (held_after es).update (held_after es).size ((held_after es).memory number) a) here updates;
        shown = shown;
      }

  asked : (es : List Happening) (g : Group) → IsAfter roster es g → (bytes : List ℕ) (request : Request) → (line_of_bytes bytes >>= request_of g.roster) ≡ Ok request → AsksFor roster es bytes request
  asked es g at bytes request is = subst (λ (r : RosterValue). (line_of_bytes bytes >>= request_of r) ≡ Ok request) at.same is

  -- the group is the same after a line by which nothing happened
  after_none : (done : List AnsweredLine) (line : List ℕ) (answer : Reply) (g : Group) → IsAfter roster (events_of done) g → IsAfter roster (events_of (done ++ record { line = line; answer = answer; event = None } ∷ [])) g
  after_none done line answer g at =
      let a : AnsweredLine = record { line = line; answer = answer; event = None } in
      let same : events_of (done ++ a ∷ []) ≡ events_of done = filter_map-append (λ (b : AnsweredLine). option_map Of b.event) done (a ∷ []) ∙ append-nil (events_of done) in
      subst (λ (es : List Happening). IsAfter roster es g) (sym same) at

  after_some : (done : List AnsweredLine) (line : List ℕ) (answer : Reply) (e : Event) (g : Group) → IsAfter roster (events_of done) g → refusal_of g.world e ≡ None
      → IsAfter roster (events_of (done ++ record { line = line; answer = answer; event = Some e } ∷ [])) (group_after g e)
  after_some done line answer e g at due =
      let a : AnsweredLine = record { line = line; answer = answer; event = Some e } in
      let same : events_of (done ++ a ∷ []) ≡ events_of done ++ Of e ∷ [] = filter_map-append (λ (b : AnsweredLine). option_map Of b.event) done (a ∷ []) in
      subst (λ (es : List Happening). IsAfter roster es (group_after g e)) (sym same) (after_one roster (events_of done) g e at due)

  -- one line, where those after it are known
  one_line : (done : List AnsweredLine) (g : Group) → IsAfter roster (events_of done) g → (bytes : List ℕ) (answer : Reply) (next : Option Group) → Met g bytes answer next
      → (lines : List (List ℕ)) (rest : List ℕ) (more : Bool) → MeetsLines lines next rest more
      → ((before : List AnsweredLine) (h : Group) → IsAfter roster (events_of before) h → MeetsLines lines (Some h) rest more → Later roster before h.world lines rest more)
      → (out : List ℕ) (refused : Bool) → out ≡ reply_line answer ++ rest → refused ≡ (is_refusal answer || more) → Later roster done g.world (bytes ∷ lines) out refused
  one_line done g at bytes answer next m lines rest more later on out refused out_is refused_is = elim m [
    | is_refused r same ↦ (
        let a : AnsweredLine = record { line = bytes; answer = answer; event = None } in
        let tail = on (done ++ a ∷ []) g (after_none done bytes answer g at) (subst (λ (n : Option Group). MeetsLines lines n rest more) same later) in
        line_first roster done g.world g.world a lines out rest refused more (Refused (r, refl)) out_is refused_is tail tail.accepted)
    | has_happened e asks due told same ↦ (
        let a : AnsweredLine = record { line = bytes; answer = answer; event = Some e } in
        let tail = on (done ++ a ∷ []) (group_after g e) (after_some done bytes answer e g at due) (subst (λ (n : Option Group). MeetsLines lines n rest more) same later) in
        line_first roster done g.world (after g.world e) a lines out rest refused more (Happened e (asked (events_of done) g at bytes (requests.Event e) asks) refl told) out_is refused_is tail (due, tail.accepted))
    | is_shown number path asks state memory shown same ↦ (
        let a : AnsweredLine = record { line = bytes; answer = answer; event = None } in
        let tail = on (done ++ a ∷ []) g (after_none done bytes answer g at) (subst (λ (n : Option Group). MeetsLines lines n rest more) same later) in
        let view = held_shown (events_of done) g at number path answer state memory shown in
        line_first roster done g.world g.world a lines out rest refused more (Shown number path (asked (events_of done) g at bytes (requests.Show number path) asks) refl view) out_is refused_is tail tail.accepted)
  ]

  of_group : (lines : List (List ℕ)) (done : List AnsweredLine) (g : Group) → IsAfter roster (events_of done) g → (out : List ℕ) (refused : Bool) → MeetsLines lines (Some g) out refused
      → Later roster done g.world lines out refused
  of_group [] done g at out refused m = record {
    answered = [];
    of_lines = refl;
    is_written = m.0;
    is_refused = m.1;
    accepted = tt;
    came = λ earlier later a e. no_line earlier later a e;
  }
  of_group (bytes ∷ lines) done g at out refused m =
      one_line done g at bytes m.answer m.next (met g bytes m.answer m.next m.met) lines m.rest m.more m.later (λ before h is later. of_group lines before h is m.rest m.more later) out refused m.out_is m.refused_is

-- ---- lines from the first on

-- one more line is refused, before there is a group
named_behind : (a : AnsweredLine) (answered : List AnsweredLine) → WasRefused a → NamesGroup answered → NamesGroup (a ∷ answered)
named_behind a answered refused n = record {
  before = a ∷ n.before;
  first = n.first;
  behind = n.behind;
  whole = ap (λ (l : List AnsweredLine). a ∷ l) n.whole;
  refused = All-cons WasRefused a n.before refused n.refused;
  roster = n.roster;
  named = n.named;
  done = n.done;
  accepted = n.accepted;
  came = n.came;
}

refused_first : (bytes : List ℕ) (answer : Reply) (lines : List (List ℕ)) (rest out : List ℕ) (more refused : Bool) → is_refusal answer ≡ true → out ≡ reply_line answer ++ rest → refused ≡ (is_refusal answer || more)
    → ShowsTheirUpdates lines rest more → ShowsTheirUpdates (bytes ∷ lines) out refused
refused_first bytes answer lines rest out more refused is out_is refused_is s =
    let a : AnsweredLine = record { line = bytes; answer = answer; event = None } in
    record {
      answered = a ∷ s.answered;
      of_lines = ap (λ (l : List (List ℕ)). bytes ∷ l) s.of_lines;
      is_written = out_is ∙ ap (λ (b : List ℕ). reply_line answer ++ b) s.is_written;
      is_refused = refused_is ∙ ap (λ (b : Bool). is_refusal answer || b) s.is_refused;
      came = elim s.came [ inl all ↦ inl (All-cons WasRefused a s.answered (is, refl) all) | inr named ↦ inr (named_behind a s.answered (is, refl) named) ];
    }

roster_first : (bytes : List ℕ) (answer : Reply) (roster : RosterValue) → line_of_bytes bytes ≡ Ok (lines.Roster roster) → answer ≡ Done → (lines : List (List ℕ)) (rest out : List ℕ) (more refused : Bool)
    → MeetsLines lines (Some (opening_group roster)) rest more → out ≡ reply_line answer ++ rest → refused ≡ (is_refusal answer || more) → ShowsTheirUpdates (bytes ∷ lines) out refused
roster_first bytes answer roster named done lines rest out more refused m out_is refused_is =
    let first : AnsweredLine = record { line = bytes; answer = answer; event = None } in
    let later = of_group roster (few_named bytes roster named) lines [] (opening_group roster) (record { world = refl; same = refl; accepted = tt }) rest more m in
    record {
      answered = first ∷ later.answered;
      of_lines = ap (λ (l : List (List ℕ)). bytes ∷ l) later.of_lines;
      is_written = out_is ∙ ap (λ (b : List ℕ). reply_line answer ++ b) later.is_written;
      is_refused = refused_is ∙ ap (λ (b : Bool). is_refusal answer || b) later.is_refused;
      came = inr (record {
        before = [];
        first = first;
        behind = later.answered;
        whole = refl;
        refused = All-nil WasRefused;
        roster = roster;
        named = named;
        done = (done, refl);
        accepted = later.accepted;
        came = later.came;
      });
    }

first_line : (bytes : List ℕ) (answer : Reply) (next : Option Group) → Begun bytes answer next → (lines : List (List ℕ)) (rest : List ℕ) (more : Bool) → MeetsLines lines next rest more
    → (MeetsLines lines None rest more → ShowsTheirUpdates lines rest more) → (out : List ℕ) (refused : Bool) → out ≡ reply_line answer ++ rest → refused ≡ (is_refusal answer || more)
    → ShowsTheirUpdates (bytes ∷ lines) out refused
first_line bytes answer next b lines rest more later on out refused out_is refused_is = elim b [
  | not_yet is same ↦ refused_first bytes answer lines rest out more refused is out_is refused_is (on (subst (λ (n : Option Group). MeetsLines lines n rest more) same later))
  | has_begun roster named done same ↦
      roster_first bytes answer roster named done lines rest out more refused (subst (λ (n : Option Group). MeetsLines lines n rest more) same later) out_is refused_is
]

pub updates_shown : SimShowsUpdates
updates_shown [] out refused m = record { answered = []; of_lines = refl; is_written = m.0; is_refused = m.1; came = inl (All-nil WasRefused) }
updates_shown (bytes ∷ lines) out refused m =
    first_line bytes m.answer m.next (begun bytes m.answer m.next m.met) lines m.rest m.more m.later (updates_shown lines m.rest m.more) out refused m.out_is m.refused_is

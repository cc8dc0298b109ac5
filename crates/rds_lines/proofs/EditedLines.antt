-- Lines that edit one replica, one after the other.
use Rattle.std.proofs.Common.{◌≡◌, ◌∙◌, ◌<◌, ◌≤◌, ◌+◌, ◌++◌, ◌||◌, ℕ, suc, Bool, false, true, List, [], ◌∷◌, length, take, get_or, eqb, arith, Option, None, Result, Ok, Err, cond, refl, sym, ap, ap₂, subst, inl, inr, append-nil, append_assoc}
use Rattle.std.specs.Io.KnownBytes.{Appends}
use Rattle.std.proofs.KnownBytes.{Appends-nil, Appends-trans}
use Rattle.std.specs.List.{list_any}
use Rattle.std.proofs.lemmas.List.{take_all, take_more}
use Rattle.std.proofs.lemmas.Bool.{eqb-true, lt-leb}
use Rattle.rds_names.specs.declared.fault.Fault.{Fault}
use Rattle.rds_names.specs.declared.fault.Fault.TheVariants.{BadLine, Memory}
use Rattle.rds_state.specs.Edit.{IsDue}
use Rattle.rds_state.specs.Fits.{ReplicaValue}
use Rattle.rds_state.specs.Results.{EditsReplica}
use Rattle.rds_state.specs.declared.command.Command.{Command}
use Rattle.rds_state.specs.declared.command.Edited.{Edited}
use Rattle.rds_json.specs.MayGive.{MayGive}
use Rattle.rds_json.specs.Unnamed.{edit_of}
use Rattle.rds_names.specs.Roster.{RosterValue}
use Rattle.rds_output.specs.Reply.{edit_reply, reply_line, is_refusal}
use Rattle.rds_lines.specs.Editing.{AnswersLineAs, AnswersNext, DoesCommand, DoesEdit, EditsLines, EditsLinesBehind, EditsNext, AnswersEdited, WritesAll, MeetsCommand, MeetsEdit, replies_text, edit_of_bytes, edit_refusal}
use Rattle.rds_lines.specs.Lines.{after_line, is_empty_line, is_text_line, lines_in, until_newline}
use Rattle.rds_lines.specs.declared.ahead.TheConstants.{LINE_LIMIT}
use Rattle.rds_output.specs.declared.reply.Reply.{Reply}
use Rattle.rds_output.specs.declared.reply.Reply.TheVariants.{RefusedLine}
use Rattle.rds_lines.proofs.EndedLines.{lines_first}

-- whatever the lines that are left, behind so many others, make of the replica follows what was made of it so far
abbrev pub FollowsOn : ℕ → List ℕ → List ℕ → ReplicaValue → ReplicaValue → List Reply → Type 0
FollowsOn count input rest first now answers =
    (after : ReplicaValue) (more : List Reply) → EditsLinesBehind count (lines_in rest) now after more → EditsLines (lines_in input) first after (answers ++ more)

pub follows_first : (input : List ℕ) (first : ReplicaValue) → FollowsOn 0 input input first first []
follows_first input first = λ after more h. h

pub follows_last : (count : ℕ) (input rest : List ℕ) (first now : ReplicaValue) (answers : List Reply) → rest ≡ [] → FollowsOn count input rest first now answers → EditsLines (lines_in input) first now answers
follows_last count input rest first now answers none follows =
    subst (EditsLines (lines_in input) first now) (append-nil answers)
    (follows now [] (subst (λ (r : List ℕ). EditsLinesBehind count (lines_in r) now now []) (sym none) (refl, refl)))

-- what the line and those after it make of the replica
next_line : (empty : Bool) (line : ℕ) (bytes : List ℕ) (lines : List (List ℕ)) (now next after : ReplicaValue) (answers added more : List Reply)
    → AnswersLineAs empty line bytes now next answers added → EditsLinesBehind line lines next after more
    → (rest : List Reply) × EditsNext empty line bytes (EditsLinesBehind line lines) now after rest × (answers ++ rest ≡ added ++ more)
next_line true line bytes lines now next after answers added more (same, none) later =
    (more, subst (λ (v : ReplicaValue). EditsLinesBehind line lines v after more) same later, ap (λ (a : List Reply). a ++ more) (sym none))
next_line false line bytes lines now next after answers added more (answer, met, is) later = (
  answer ∷ more,
  record { answer = answer; next = next; met = met; rest = more; later = later; answers_are = refl },
  sym (ap (λ (a : List Reply). a ++ more) is ∙ append_assoc answers (answer ∷ []) more),
)

pub follows_step : (count : ℕ) (input rest line later : List ℕ) (first now next : ReplicaValue) (answers added : List Reply) → 0 < length rest → line ≡ until_newline rest → later ≡ after_line rest
    → FollowsOn count input rest first now answers → AnswersNext (count + 1) line now next answers added → FollowsOn (count + 1) input later first next added
follows_step count input rest line later first now next answers added some is_line is_later follows met = λ after more h.
    let led = next_line (is_empty_line line) (count + 1) line (lines_in later) now next after answers added more met h in
    let lines : line ∷ lines_in later ≡ lines_in rest = sym (lines_first rest some ∙ ap (λ (l : List ℕ). l ∷ lines_in (after_line rest)) (sym is_line) ∙ ap (λ (l : List ℕ). line ∷ lines_in l) (sym is_later)) in
    subst (EditsLines (lines_in input) first after) led.2
    (follows after led.0 (subst (λ (ls : List (List ℕ)). EditsLinesBehind count ls now after led.0) lines led.1))

pub none_left : (xs : List ℕ) (b : Bool) → b ≡ eqb (length xs) 0 → b ≡ true → xs ≡ []
none_left xs b e t = no_length xs (eqb-true (length xs) 0 (sym e ∙ t))
  where
    no_length : (xs : List ℕ) → length xs ≡ 0 → xs ≡ []
    no_length [] z = refl
    no_length (x ∷ xs) z = absurd (omega (arith, z))

pub some_left : (xs : List ℕ) (b : Bool) → b ≡ eqb (length xs) 0 → b ≡ false → 0 < length xs
some_left [] b e f = let bad : true ≡ false = sym e ∙ f in absurd cc
some_left (x ∷ xs) b e f = omega arith

-- a line is left, and those after it
pub line_more : (rest later : List ℕ) → 0 < length rest → later ≡ after_line rest → length (lines_in rest) ≡ suc (length (lines_in later))
line_more rest later some is = ap length (lines_first rest some) ∙ ap (λ (l : List ℕ). suc (length (lines_in l))) (sym is)

-- ---- an edit

pub does_edit : (before after : ReplicaValue) (command : Command) (answer : Result Edited Fault) → EditsReplica before command answer after → DoesEdit before command answer after
does_edit before after command answer edits = record { edited = edits.edited; roster = edits.roster; own = edits.own; err = edits.err }

pub does_command : (before after : ReplicaValue) (command : Command) (answer : Result Edited Fault) → EditsReplica before command answer after → DoesCommand before command answer after
does_command before after command answer edits = inr (does_edit before after command answer edits)

-- ---- one line

-- a line over the limit is no text
pub long_is_none : (line : List ℕ) → LINE_LIMIT < length line → is_text_line line ≡ false
long_is_none line long = rw (lt-leb (length line) LINE_LIMIT long) refl

-- the bytes are no text
pub no_text : (number : ℕ) (line : List ℕ) (fault : Fault) (before after : ReplicaValue) → (fault ≡ BadLine) × (is_text_line line ≡ false) → after ≡ before → MeetsEdit number line before (RefusedLine number fault) after
no_text number line fault before after none same =
    inr (subst (λ (b : Bool). MeetsCommand number (cond b (edit_of line) (Err BadLine)) before (RefusedLine number fault) after) (sym none.1) (ap (RefusedLine number) none.0, same))

module _ (number : ℕ) (line text : List ℕ) (is : (is_text_line line ≡ true) × (text ≡ line)) (before after : ReplicaValue) where
  text_edit : edit_of text ≡ edit_of_bytes line
  text_edit = ap edit_of is.1 ∙ ap (λ (b : Bool). cond b (edit_of line) (Err BadLine)) (sym is.0)

  -- the text asks for no edit
  pub no_command : (fault : Fault) → MayGive (Err fault) (edit_of text) → after ≡ before → MeetsEdit number line before (RefusedLine number fault) after
  no_command fault given same = elim given [
    | inl memory ↦ inl (ap (RefusedLine number) (of_err fault Memory memory), same)
    | inr due ↦ inr (subst (λ (r : Result Command Fault). MeetsCommand number r before (RefusedLine number fault) after) (due ∙ text_edit) (refl, same))
  ]
    where
      of_err : (a b : Fault) → ◌≡◌ {A = Result Command Fault} (Err a) (Err b) → a ≡ b
      of_err a b e = cc

  asked : (command : Command) → MayGive (Ok command) (edit_of text) → Ok command ≡ edit_of_bytes line
  asked command given = elim given [ inl memory ↦ absurd cc | inr due ↦ due ∙ text_edit ]

  -- the edit is refused
  pub no_edit : (command : Command) (fault : Fault) → MayGive (Ok command) (edit_of text) → IsDue (edit_refusal before command) fault → after ≡ before → MeetsEdit number line before (RefusedLine number fault) after
  no_edit command fault given due same =
      inr (subst (λ (r : Result Command Fault). MeetsCommand number r before (RefusedLine number fault) after) (asked command given) (inr (fault, due, (refl, same))))

  -- the edit is made
  pub an_edit : (command : Command) (answer : Reply) → MayGive (Ok command) (edit_of text) → edit_refusal before command ≡ None → AnswersEdited command before after answer → MeetsEdit number line before answer after
  an_edit command answer given due edited = inr (subst (λ (r : Result Command Fault). MeetsCommand number r before answer after) (asked command given) (inl (due, edited)))

  -- a command that wasn't done
  pub not_done : (command : Command) (fault : Fault) → MayGive (Ok command) (edit_of text) → DoesCommand before command (Err fault) after → MeetsEdit number line before (RefusedLine number fault) after
  not_done command fault given (inl memory) = inl (ap (RefusedLine number) (fault_is fault Memory memory.0), memory.1)
    where
      fault_is : (a b : Fault) → ◌≡◌ {A = Result Edited Fault} (Err a) (Err b) → a ≡ b
      fault_is a b e = cc
  not_done command fault given (inr does) = no_edit command fault given does.edited.due does.err

  -- a command that was done, and is reported
  pub all_done : (command : Command) (edited : Edited) (answer : Reply) → MayGive (Ok command) (edit_of text) → DoesCommand before command (Ok edited) after → answer ≡ edit_reply after.roster edited.dot edited.killed
      → MeetsEdit number line before answer after
  all_done command edited answer given (inl memory) told = absurd (other edited Memory memory.0)
    where
      other : (e : Edited) (f : Fault) → ◌≡◌ {A = Result Edited Fault} (Ok e) (Err f) → ⊥
      other e f is = absurd cc
  all_done command edited answer given (inr does) told = an_edit command answer given does.edited.due (record {
    roster = does.roster;
    own = does.own;
    joined = does.edited.joined;
    told = told ∙ (ap (λ (r : RosterValue). edit_reply r edited.dot edited.killed) does.roster ∙ ap₂ (edit_reply before.roster) does.edited.dot does.edited.killed);
  })

-- ---- answers that are written

-- these answers were written, and whether one is a refusal
pub record WritesSome (answers : List Reply) (before after : Option (List ℕ)) (refused : Bool) : Type 0 where
  pub written : Appends before after (replies_text answers)
  pub refused_is : refused ≡ list_any is_refusal answers

texts_join : (xs ys : List Reply) → replies_text (xs ++ ys) ≡ replies_text xs ++ replies_text ys
texts_join [] ys = refl
texts_join (x ∷ xs) ys = ap (λ (t : List ℕ). reply_line x ++ t) (texts_join xs ys) ∙ sym (append_assoc (reply_line x) (replies_text xs) (replies_text ys))

any_join : (xs : List Reply) (y : Reply) → list_any is_refusal (xs ++ y ∷ []) ≡ (list_any is_refusal xs || is_refusal y)
any_join [] y = or_false (is_refusal y)
  where
    or_false : (b : Bool) → (b || false) ≡ b
    or_false true = refl
    or_false false = refl
any_join (x ∷ xs) y = ap (λ (b : Bool). is_refusal x || b) (any_join xs y) ∙ sym (or_assoc (is_refusal x) (list_any is_refusal xs) (is_refusal y))
  where
    or_assoc : (a b c : Bool) → ((a || b) || c) ≡ (a || (b || c))
    or_assoc true b c = refl
    or_assoc false b c = refl

pub some_first : (before : Option (List ℕ)) → WritesSome [] before before false
some_first before = record { written = Appends-nil before; refused_is = refl }

-- one more
pub some_next : (all : List Reply) (i : ℕ) (answer : Reply) (before now after : Option (List ℕ)) (refused refusal : Bool) → i < length all → get_or all i answer ≡ answer → refusal ≡ is_refusal answer
    → WritesSome (take i all) before now refused → Appends now after (reply_line answer) → WritesSome (take (i + 1) all) before after (refused || refusal)
some_next all i answer before now after refused refusal lt is of w one =
    let taken = take i all in
    let more : take (i + 1) all ≡ taken ++ answer ∷ [] = take_more all i answer lt ∙ ap (λ (x : Reply). taken ++ x ∷ []) is in
    subst (λ (answers : List Reply). WritesSome answers before after (refused || refusal)) (sym more) (record {
      written = subst (Appends before after) (ap (λ (t : List ℕ). replies_text taken ++ t) (sym (append-nil (reply_line answer))) ∙ sym (texts_join taken (answer ∷ [])))
          (Appends-trans before now after (replies_text taken) (reply_line answer) w.written one);
      refused_is = ap (λ (b : Bool). b || refusal) w.refused_is ∙ ap (λ (b : Bool). list_any is_refusal taken || b) of ∙ sym (any_join taken answer);
    })

-- all of them
pub some_last : (all : List Reply) (n : ℕ) (before after : Option (List ℕ)) (refused : Bool) (status : ℕ) → length all ≤ n → WritesSome (take n all) before after refused → status ≡ cond refused 1 0
    → WritesAll all before after status
some_last all n before after refused status le w is =
    let are : take n all ≡ all = take_all n all le in (
      subst (λ (t : List Reply). Appends before after (replies_text t)) are w.written,
      is ∙ ap (λ (b : Bool). cond b 1 0) (w.refused_is ∙ ap (list_any is_refusal) are),
    )

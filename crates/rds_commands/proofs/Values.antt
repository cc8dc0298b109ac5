-- What was written of what stands in a file.
use Rattle.std.proofs.Common.{◌≡◌, ◌⊎◌, ◌∙◌, ◌+◌, ◌↔◌, ◌&&◌, ℕ, Bool, true, false, List, [], take, Option, Some, None, IsTrue, ap, inl, inr, refl, subst}
use Rattle.std.specs.Prelude.{IfSome}
use Rattle.std.specs.Io.KnownBytes.{Appends}
use Rattle.rds_names.specs.declared.fault.Fault.{Fault}
use Rattle.rds_names.specs.declared.fault.Fault.TheVariants.{Memory}
use Rattle.rds_codec.specs.declared.limits.TheConstants.{LIMIT}
use Rattle.rds_state.specs.Fits.{ReplicaValue}
use Rattle.rds_state.specs.declared.command.Command.{Command}
use Rattle.rds_listing.specs.Differences.{differences_text}
use Rattle.rds_listing.specs.Presence.{StandsThere}
use Rattle.rds_files.specs.Files.{FileValue, IsReadAt}
use Rattle.rds_listing.specs.declared.bare.Raw.{Raw}
use Rattle.rds_listing.specs.declared.bare.Wanted.{Wanted}
use Rattle.rds_state.specs.Value.{StateValue}
use Rattle.rds_commands.specs.Listing.{ComparesFiles, GetsRaw, ListsFile, WritesLines, WritesList, WritesRaw, WritesValues}
use Rattle.rds_commands.specs.Offline.{AreReadBy, ChecksRead, IsUnchecked, WritesAnswer, WritesNothing, WritesTake, WritesTakeOf, WritesTold}
use Rattle.rds_commands.specs.Reading.{IsReadOfInput, is_piped, text_read}
use Rattle.rds_offline.specs.Letters.{ChecksTexts, RefusesCheck}

-- the values that stood there
pub values_written : (path text : List ℕ) (wanted : Wanted) (file : FileValue) (told raw : Raw) (before after : Option (List ℕ)) (status : ℕ) → GetsRaw path text wanted file told → raw ≡ told → WritesValues raw before after status
    → WritesRaw path text wanted before after status
values_written path text wanted file told raw before after status gets is writes = inl (file, told, gets, subst (λ (r : Raw). WritesValues r before after status) is writes)

-- the lines that were told
pub lines_written : (lines_of : StateValue → List (List ℕ) → List ℕ) (some : ℕ) (path text : List ℕ) (file : FileValue) (told given : List ℕ) (before after : Option (List ℕ)) (status : ℕ) → ListsFile lines_of path text file told
    → given ≡ told → WritesLines some given before after status → WritesList lines_of some path text before after status
lines_written lines_of some path text file told given before after status lists is writes = inl (file, told, lists, subst (λ (t : List ℕ). WritesLines some t before after status) is writes)

-- the bytes that were told
pub bytes_written : (comes : FileValue → List ℕ → Type 0) (refuses : Fault → Type 0) (file : FileValue) (told given : List ℕ) (before after : Option (List ℕ)) (status : ℕ) → comes file told → given ≡ told → Appends before after given → status ≡ 0
    → WritesTold comes refuses before after status
bytes_written comes refuses file told given before after status came is appends done = inl (file, told, came, subst (λ (t : List ℕ). Appends before after t) is appends, done)

-- what is said of the first bytes of an input is said of the text that is read of it
pub answer_written : (path : List ℕ) (o a b : Option (List ℕ)) (front seen : List ℕ) (Steady : Type 0) (status : ℕ) → IfSome o (λ input. front ≡ take (LIMIT + 1) input) → seen ≡ front → WritesAnswer path seen a b status
    → IfSome o (λ input. Steady → WritesAnswer path (text_read input) a b status ⊎ WritesNothing Memory a b status)
answer_written path None a b front seen Steady status is same h = tt
answer_written path (Some input) a b front seen Steady status is same h = λ steady. inl (subst (λ (i : List ℕ). WritesAnswer path i a b status) (same ∙ is) h)

-- the lines of what one of two files shows and the other doesn't
pub compares_files : (path other : List ℕ) (first second : FileValue) (lines : List ℕ) (a b : StateValue) (root : List (List ℕ)) (p q : ReplicaValue) → IsReadAt path first → IsReadAt other second → a ≡ p.state → p ≡ first.kept → b ≡ q.state
    → q ≡ second.kept → root ≡ [] → lines ≡ differences_text a b root → ComparesFiles path other lines
compares_files path other first second lines a b root p q first_read second_read a_is p_is b_is q_is root_is are = record {
  first = first;
  first_read = first_read;
  second = second;
  second_read = second_read;
  are = are ∙ same_lines a first.kept.state b second.kept.state root [] (a_is ∙ ap (λ (r : ReplicaValue). r.state) p_is) (b_is ∙ ap (λ (r : ReplicaValue). r.state) q_is) root_is;
}
  where
    same_lines : (a x b y : StateValue) (r s : List (List ℕ)) → a ≡ x → b ≡ y → r ≡ s → differences_text a b r ≡ differences_text x y s
    same_lines a x b y r s e f h = rw (e, f, h) refl

-- what stands in what a file held
pub stands_in : (held : ReplicaValue) (state : StateValue) (kept : ReplicaValue) (command : Command) (same : Bool) → (IsTrue same ↔ StandsThere state command) → same ≡ true → state ≡ kept.state → kept ≡ held → StandsThere held.state command
stands_in held state kept command same exact is state_is kept_is =
    subst (λ (s : StateValue). StandsThere s command) (state_is ∙ ap (λ (r : ReplicaValue). r.state) kept_is)
    (exact.0 is)

-- what a second read finds in the input, of which the first took nothing
pub read_later : (held later : Option (List ℕ)) (question answer text : List ℕ) (piped : Bool) → (piped && is_piped answer) ≡ false → (piped ≡ false → later ≡ held) → IsReadOfInput later answer text
    → IsReadOfInput held answer text
read_later held later question answer text true one same read = λ is. absurd (not_both (is_piped answer) one is)
  where
    not_both : (b : Bool) → b ≡ false → b ≡ true → ⊥
    not_both true e is = absurd cc
    not_both false e is = absurd cc
read_later held later question answer text false one same read = λ is. subst (λ (o : Option (List ℕ)). IfSome o (λ input. text ≡ text_read input)) (same refl) (read is)

-- how many components were taken of what was read
pub take_written : (path question answer : List ℕ) (held before after : Option (List ℕ)) (q a x y : List ℕ) (status : ℕ) → AreReadBy held question answer q a → x ≡ q → y ≡ a
    → WritesTakeOf path x y before after status → WritesTake path question answer held before after status
take_written path question answer held before after q a x y status are q_is a_is writes =
    inl (q, a, are, subst (λ (t : List ℕ). WritesTakeOf path q t before after status) a_is (subst (λ (t : List ℕ). WritesTakeOf path t y before after status) q_is writes))

-- the lines tell of what was read
pub checks_read : (question answer : List ℕ) (held : Option (List ℕ)) (q a x y lines : List ℕ) → AreReadBy held question answer q a → x ≡ q → y ≡ a → ChecksTexts x y lines → ChecksRead question answer held lines
checks_read question answer held q a x y lines are q_is a_is checks =
    (q, a, are, subst (λ (t : List ℕ). ChecksTexts q t lines) a_is (subst (λ (t : List ℕ). ChecksTexts t y lines) q_is checks))

-- why nothing is reported of what was read
pub refuses_read : (question answer : List ℕ) (held : Option (List ℕ)) (q a x y : List ℕ) (fault : Fault) → AreReadBy held question answer q a → x ≡ q → y ≡ a → RefusesCheck x y fault → IsUnchecked question answer held fault
refuses_read question answer held q a x y fault are q_is a_is refuses =
    inr (q, a, are, subst (λ (t : List ℕ). RefusesCheck q t fault) a_is (subst (λ (t : List ℕ). RefusesCheck t y fault) q_is refuses))

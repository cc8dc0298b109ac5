-- A replica whose group grows.
use Rattle.std.proofs.Common.{◌≡◌, ◌∙◌, ◌⊎◌, ◌++◌, ℕ, Bool, true, false, cond, leb, List, length, Option, Result, Ok, Err, ap, subst, sym, refl, inl, inr}
use Rattle.std.specs.Prelude.{IfOk, IsOk, MatchResult, OnOk, map}
use denote.Bor.{Bor}
use Rattle.rds_names.specs.Gives.{Refuses}
use Rattle.rds_names.specs.Roster.{Begins, RosterValue, are_names, grown_of}
use Rattle.rds_names.specs.declared.fault.Fault.{Fault}
use Rattle.rds_names.specs.declared.fault.Fault.TheVariants.{BadRoster, Memory, WrongGroup, WrongRoster}
use Rattle.rds_state.specs.Fits.{ReplicaValue}
use Rattle.rds_state.specs.Grown.{GrowGives}
use Rattle.rds_output.specs.Reply.{WritesReply}
use Rattle.rds_output.specs.declared.reply.Reply.{Reply}
use Rattle.rds_output.specs.declared.reply.Reply.TheVariants.{Done}
use Rattle.rds_files.specs.Files.{IsHeldAt, IsUnkept, KeptFile, RefusesLock, ReplacedValue}
use Rattle.rds_words.proofs.OneMeaning.{ok_isnt_err}
use Rattle.rds_words.specs.Meaning.{names_for, names_in}
use Rattle.rds_words.specs.declared.tasks.GrowWords.{GrowWords}
use Rattle.rds_commands.specs.Edits.{GrowsFile, IsGrownByNames, RefusesGrow, RefusesGrowIn}
use Rattle.rds_commands.specs.Told.{WritesGrowSite}

ok_is : (x y : RosterValue) → (let a : Result RosterValue Fault = Ok x in a ≡ Ok y) → x ≡ y
ok_is x y e = cc

-- a roster that grew begins with what it was
pub grown_begins : (r s : RosterValue) (names : List (List ℕ)) → grown_of r names ≡ Ok s → Begins r s
grown_begins r s names is = by_some (leb 1 (length names)) is
  where
    longer : RosterValue
    longer = record { group = r.group; names = r.names ++ names }

    by_names : (t : Bool) → cond t (Ok longer) (Err BadRoster) ≡ Ok s → Begins r s
    by_names true is = subst (Begins r) (ok_is longer s is) (refl, (names, refl))
    by_names false is = absurd cc

    by_some : (t : Bool) → cond t (cond (are_names (r.names ++ names)) (Ok longer) (Err BadRoster)) (Err BadRoster) ≡ Ok s → Begins r s
    by_some true is = by_names (are_names (r.names ++ names)) is
    by_some false is = absurd cc

-- so no replica refuses it
grows_on : {P : Type 0} (r s : RosterValue) (fault : Fault) → Begins r s → GrowGives {T = Unit {0}} r s (Err fault) → P
grows_on r s WrongGroup begins gives = absurd (gives begins.0)
grows_on r s WrongRoster begins gives = absurd (gives.1 begins)
grows_on r s fault begins gives = absurd gives

module _ (names : List (List ℕ)) (old new : ReplicaValue) (s : RosterValue) (grown : grown_of old.roster names ≡ Ok s) where
  pub is_grown : (result : Result (Unit {0}) Fault) → OnOk result (new.roster ≡ s) → new.own ≡ old.own → new.state ≡ old.state → OnOk result (IsGrownByNames names old new)
  is_grown (Ok u) roster own state = record { roster = grown ∙ ap Ok (sym roster); own = own; state = state }
  is_grown (Err fault) roster own state = tt

  pub isnt_refused : (result : Result (Unit {0}) Fault) → GrowGives old.roster s result → MatchResult result (λ _. IsOk (grown_of old.roster names)) (λ fault. Refuses fault (grown_of old.roster names))
  isnt_refused (Ok u) gives = subst IsOk (sym grown) refl
  isnt_refused (Err fault) gives = grows_on old.roster s fault (grown_begins old.roster s names grown) gives

-- ---- in a file

ok_of : (due : Result RosterValue Fault) → IsOk due → (s : RosterValue) × (due ≡ Ok s)
ok_of (Ok s) ok = (s, refl)
ok_of (Err fault) ok = absurd cc

-- what a copy became is what the replica became
pub kept_growth : (names : List (List ℕ)) (before old after kept : ReplicaValue) → old ≡ before → IsGrownByNames names old after → kept ≡ after → IsGrownByNames names before kept
kept_growth names before old after kept same grown is = rw (is, ← same) grown

-- the copy can't be kept
pub unkept_growth : (names : List (List ℕ)) (before old after : ReplicaValue) (fault : Fault) → old ≡ before → IsGrownByNames names old after → IsUnkept after fault → RefusesGrowIn names before fault
unkept_growth names before old after fault same grown unkept = inr (after, rw (← same) grown, unkept)

refused_before : (names : List (List ℕ)) (before : ReplicaValue) (fault : Fault) → Refuses fault (grown_of before.roster names) → RefusesGrowIn names before fault
refused_before names before Memory ok =
    let s = ok_of (grown_of before.roster names) ok in
    inr (record before { roster = s.0 }, record { roster = s.1; own = refl; state = refl }, inl refl)
refused_before names before fault due = inl due

-- it isn't grown
pub no_growth : (names : List (List ℕ)) (before old : ReplicaValue) (fault : Fault) → old ≡ before → Refuses fault (grown_of old.roster names) → RefusesGrowIn names before fault
no_growth names before old fault same refused = refused_before names before fault (rw (← same) refused)

-- ---- by words

-- the names that were read are those of the words
pub names_are : (words : GrowWords) (texts : List (Bor (List ℕ))) (names seen : List (List ℕ)) → texts ≡ words.names.items → names_in (map (λ t. t.now) texts) ≡ Ok names → seen ≡ names → names_for words ≡ Ok seen
names_are words texts names seen same are is = rw (← same, is) are

-- the file that was read under its lock is the one that was replaced
pub grows_file : (words : GrowWords) (names : List (List ℕ)) (file : KeptFile) (done : ReplacedValue) (answer : Reply) → IsHeldAt words.file.now file → names_for words ≡ Ok names → done.path ≡ file.path → done.before ≡ file.kept
    → IsGrownByNames names file.kept done.kept → answer ≡ Done → GrowsFile words done answer
grows_file words names file done answer held asked at is grown told = record {
  read = record { at = at ∙ held.at; value = rw is held.value; place = held.place };
  names = names;
  asked = asked;
  grown = rw is grown;
  told = told;
}

-- the file can't be locked and read
pub no_replica : (words : GrowWords) (names : List (List ℕ)) (fault : Fault) → names_for words ≡ Ok names → RefusesLock words.file.now fault → RefusesGrow words fault
no_replica words names fault asked refused = inr (inr (names, asked, inl refused))

-- the replica in it isn't grown
pub no_grown : (words : GrowWords) (names : List (List ℕ)) (before : ReplicaValue) (fault : Fault) → names_for words ≡ Ok names → RefusesGrowIn names before fault → RefusesGrow words fault
no_grown words names before fault asked refused = inr (inr (names, asked, inr (before, refused)))

-- the words aren't names
module _ (words : GrowWords) (texts : List (Bor (List ℕ))) (given : Fault) (same : texts ≡ words.names.items) (h : (given ≡ Memory) ⊎ (names_in (map (λ t. t.now) texts) ≡ Err given)) where
  no_names_of : names_in (map (λ t. t.now) texts) ≡ Err given → names_for words ≡ Err given
  no_names_of is = rw (← same) is

  pub no_names : RefusesGrow words given
  no_names = elim h [ inl memory ↦ inl memory | inr bad ↦ inr (inl (no_names_of bad)) ]

  err_is : (a b : Fault) → ◌≡◌ {A = Result (List (List ℕ)) Fault} (Err a) (Err b) → a ≡ b
  err_is a b e = cc

  pub why_no_names : {X : Type 0} (e fault : Fault) (result : Result X Fault) → result ≡ Err e → e ≡ given → names_for words ≡ Err fault → (result ≡ Err Memory) ⊎ (result ≡ Err fault)
  why_no_names e fault result is from due = elim h [
    | inl memory ↦ inl (is ∙ ap Err (from ∙ memory))
    | inr bad ↦ inr (is ∙ ap Err (from ∙ err_is given fault (sym (no_names_of bad) ∙ due)))
  ]

-- words that are names aren't refused
pub not_unnamed : {P : Type 0} (words : GrowWords) (names : List (List ℕ)) (fault : Fault) → names_for words ≡ Ok names → names_for words ≡ Err fault → P
not_unnamed words names fault asked due = absurd (ok_isnt_err names fault (sym asked ∙ due))

-- ---- at a site

-- what came of asking a site is reported
pub told_by_site : (words : GrowWords) (result : Result Reply Fault) (before after : Option (List ℕ)) (status : ℕ) → IfOk result (λ _. IsOk (names_for words)) → IfOk result (λ reply. reply ≡ Done)
    → WritesReply result before after status → WritesGrowSite words before after status
told_by_site words (Ok reply) before after status named is wrote = inl (named, subst (λ (r : Reply). WritesReply (Ok r) before after status) is wrote)
told_by_site words (Err fault) before after status named is wrote = inr (fault, wrote)

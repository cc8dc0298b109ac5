-- What is read as a line spells it, and what begins with no word is none.
use Rattle.std.proofs.Common.{◌≡◌, ℕ, Bool, true, false, List, [], ◌∷◌, Option, Some, None, Ok, Err, refl, sym, ap, subst, ◌∙◌}
use Rattle.std.specs.Prelude.{codes, option_and_then}
use Rattle.std.specs.List.{list_any}
use Rattle.std.specs.Str.{bytes_eq}
use mathlib.Core.Bool.{false≢true}
use Rattle.serde_json.specs.Data.{Data, null, boolean, number, string, array, object, Items, no_items, item}
use Rattle.serde_json.specs.Read.{read}
use Rattle.serde_json.specs.View.{items_of}
use Rattle.rds_names.specs.AndThen.{◌>>=◌}
use Rattle.rds_names.specs.declared.fault.Fault.TheVariants.{BadLine}
use Rattle.rds_state.specs.declared.command.Command.{Command}
use Rattle.rds_state.specs.declared.command.Command.TheVariants as commands
use Rattle.rds_json.specs.declared.line.Line.{Line}
use Rattle.rds_json.specs.declared.line.Line.TheVariants.{Roster, Edit, Save, Crash, Ask, Answer, Take, Grow, Show}
use Rattle.rds_json.specs.declared.parts.CounterAt.{CounterAt}
use Rattle.rds_json.specs.declared.parts.ValueAt.{ValueAt}
use Rattle.rds_json.specs.declared.verb.Verb.{Verb}
use Rattle.rds_json.specs.declared.verb.Verb.TheVariants as verbs
use Rattle.rds_json.specs.declared.verb.EditVerb.{EditVerb}
use Rattle.rds_json.specs.declared.verb.EditVerb.TheVariants as edits
use Rattle.rds_json.specs.Limits.{FitsAmount, FitsEdit, IsKey, IsLine, IsName, IsPath, FitsScalar}
use Rattle.rds_json.specs.Line.{edit_line, line_by, line_in, line_of}
use Rattle.rds_json.specs.Members.{items_in, of_one, text_member}
use Rattle.rds_json.specs.Meaning.{HasWord}
use Rattle.rds_json.specs.Parts.{answer_from, counter_from, growth_at, number_alone, place_from, replica_from, value_at}
use Rattle.rds_json.specs.RosterLine.{roster_line}
use Rattle.rds_json.specs.Show.{scalar_data}
use Rattle.rds_json.specs.Spelling.{amount_data, edit_data, edit_verbs, line_data, line_words, path_data, line_of_word}
use Rattle.rds_json.specs.Verb.{verb_of}
use Rattle.rds_json.specs.Unnamed.{edit_by, edit_in, edit_of, edit_with}
use Rattle.rds_json.proofs.EditsUnderstood.{edit_back}
use Rattle.rds_json.proofs.Outcomes.{bound, no_value, none_is, ok_is}
use Rattle.rds_json.proofs.Proper.{AreProper, HasProper, read_proper}
use Rattle.rds_json.proofs.Understood.{ListProper, alone_back, answer_back, counter_back, growth_back, place_back, replica_back, roster_back, text_back, value_back}
use Rattle.rds_json.proofs.Words.{edit_known, edit_word_of, other_word, word_back, word_of}

abbrev IsSpelled : List ℕ → List Data → Line → Type 0
IsSpelled word ds line = (line_of_word word ds ≡ line_data line) × IsLine line

value_spelled : (word : List ℕ) (ds : List Data) (edit : ValueAt → Command) → ((x : ValueAt) → line_data (Edit x.name (edit x)) ≡ line_of_word word (string x.name ∷ path_data x.path ∷ scalar_data x.value ∷ []))
    → ((x : ValueAt) → IsPath x.path × FitsScalar x.value → FitsEdit (edit x)) → (line : Line) → ListProper ds → (value_at (line_of_word word ds) >>= λ at. Ok (Edit at.name (edit at))) ≡ Ok line → IsSpelled word ds line
value_spelled word ds edit spelled fits line p h =
    let a = bound (value_at (line_of_word word ds)) (λ at. Ok (Edit at.name (edit at))) line h in
    let r = value_back word ds a.0 p a.1 in
    subst (IsSpelled word ds) (ok_is (Edit a.0.name (edit a.0)) line a.2) (ap (line_of_word word) r.0 ∙ sym (spelled a.0), (r.1, fits a.0 (r.2, r.3)))

count_spelled : (word : List ℕ) (ds : List Data) (edit : CounterAt → Command) → ((x : CounterAt) → line_data (Edit x.name (edit x)) ≡ line_of_word word (string x.name ∷ string x.key ∷ amount_data x.by ∷ []))
    → ((x : CounterAt) → IsKey x.key × FitsAmount x.by → FitsEdit (edit x)) → (line : Line) → ListProper ds → (counter_from (line_of_word word ds) >>= λ at. Ok (Edit at.name (edit at))) ≡ Ok line → IsSpelled word ds line
count_spelled word ds edit spelled fits line p h =
    let a = bound (counter_from (line_of_word word ds)) (λ at. Ok (Edit at.name (edit at))) line h in
    let r = counter_back word ds a.0 p a.1 in
    subst (IsSpelled word ds) (ok_is (Edit a.0.name (edit a.0)) line a.2) (ap (line_of_word word) r.0 ∙ sym (spelled a.0), (r.1, fits a.0 (r.2, r.3)))

edit_line_back : (verb : EditVerb) (ds : List Data) (line : Line) → ListProper ds → edit_line verb (line_of_word (edit_word_of verb) ds) ≡ Ok line → IsSpelled (edit_word_of verb) ds line
edit_line_back edits.Set ds line p h = value_spelled _ ds (λ at. commands.Set at.path at.value) (λ x. refl) (λ x f. f) line p h
edit_line_back edits.Add ds line p h = value_spelled _ ds (λ at. commands.Add at.path at.value) (λ x. refl) (λ x f. f) line p h
edit_line_back edits.Del ds line p h = value_spelled _ ds (λ at. commands.Del at.path at.value) (λ x. refl) (λ x f. f) line p h
edit_line_back edits.Clear ds line p h =
    let a = bound (place_from (line_of_word (codes "clear") ds)) (λ at. Ok (Edit at.name (commands.Clear at.path))) line h in
    let r = place_back (codes "clear") ds a.0 a.1 in
    subst (IsSpelled (codes "clear") ds) (ok_is (Edit a.0.name (commands.Clear a.0.path)) line a.2) (ap (line_of_word (codes "clear")) r.0, (r.1, r.2))
edit_line_back edits.Inc ds line p h = count_spelled _ ds (λ at. commands.Inc at.key at.by) (λ x. refl) (λ x f. f) line p h
edit_line_back edits.Dec ds line p h = count_spelled _ ds (λ at. commands.Dec at.key at.by) (λ x. refl) (λ x f. f) line p h

-- a line of a word and a replica
replica_spelled : (word : List ℕ) (ds : List Data) (made : List ℕ → Line) → ((n : List ℕ) → line_data (made n) ≡ line_of_word word (string n ∷ [])) → ((n : List ℕ) → IsName n → IsLine (made n))
    → (line : Line) → (replica_from (line_of_word word ds) >>= λ name. Ok (made name)) ≡ Ok line
    → IsSpelled word ds line
replica_spelled word ds made spelled fits line h =
    let a = bound (replica_from (line_of_word word ds)) (λ name. Ok (made name)) line h in
    let r = replica_back word ds a.0 a.1 in
    subst (IsSpelled word ds) (ok_is (made a.0) line a.2) (ap (line_of_word word) r.0 ∙ sym (spelled a.0), fits a.0 r.1)

line_back : (verb : Verb) (ds : List Data) (line : Line) → ListProper ds → line_by verb (line_of_word (word_of verb) ds) ≡ Ok line → IsSpelled (word_of verb) ds line
line_back verbs.Roster ds line p h =
    let a = bound (roster_line (line_of_word (codes "roster") ds)) (λ roster. Ok (Roster roster)) line h in
    let r = roster_back (codes "roster") ds a.0 a.1 in
    subst (IsSpelled (codes "roster") ds) (ok_is (Roster a.0) line a.2) (ap (line_of_word (codes "roster")) r.0, r.1)
line_back (verbs.Edit verb) ds line p h = edit_line_back verb ds line p h
line_back verbs.Save ds line p h = replica_spelled _ ds (λ n. Save n) (λ n. refl) (λ n f. f) line h
line_back verbs.Crash ds line p h = replica_spelled _ ds (λ n. Crash n) (λ n. refl) (λ n f. f) line h
line_back verbs.Ask ds line p h = replica_spelled _ ds (λ n. Ask n) (λ n. refl) (λ n f. f) line h
line_back verbs.Answer ds line p h =
    let a = bound (answer_from (line_of_word (codes "answer") ds)) (λ at. Ok (Answer at.name at.ask)) line h in
    let r = answer_back (codes "answer") ds a.0 p a.1 in
    subst (IsSpelled (codes "answer") ds) (ok_is (Answer a.0.name a.0.ask) line a.2) (ap (line_of_word (codes "answer")) r.0, (r.1, r.2))
line_back verbs.Take ds line p h =
    let a = bound (number_alone (line_of_word (codes "take") ds)) (λ answer. Ok (Take answer)) line h in
    let r = alone_back (codes "take") ds a.0 p a.1 in
    subst (IsSpelled (codes "take") ds) (ok_is (Take a.0) line a.2) (ap (line_of_word (codes "take")) r.0, r.1)
line_back verbs.Grow ds line p h =
    let a = bound (growth_at (line_of_word (codes "grow") ds)) (λ at. Ok (Grow at.name at.newcomer)) line h in
    let r = growth_back (codes "grow") ds a.0 a.1 in
    subst (IsSpelled (codes "grow") ds) (ok_is (Grow a.0.name a.0.newcomer) line a.2) (ap (line_of_word (codes "grow")) r.0, (r.1, r.2))
line_back verbs.Show ds line p h =
    let a = bound (place_from (line_of_word (codes "show") ds)) (λ at. Ok (Show at.name at.path)) line h in
    let r = place_back (codes "show") ds a.0 a.1 in
    subst (IsSpelled (codes "show") ds) (ok_is (Show a.0.name a.0.path) line a.2) (ap (line_of_word (codes "show")) r.0, (r.1, r.2))

-- ---- the word

items_forth : (ds : Items) → items_of (items_in ds) ≡ ds
items_forth no_items = refl
items_forth (item d ds) = ap (item d) (items_forth ds)

begins : (d : Data) (word : List ℕ) → text_member 0 d ≡ Some word → (ds : List Data) × (d ≡ line_of_word word ds)
begins null word h = none_is word h
begins (boolean b) word h = none_is word h
begins (number n) word h = none_is word h
begins (string s) word h = none_is word h
begins (array no_items) word h = none_is word h
begins (array (item a ds)) word h = (items_in ds, ap (λ e. array (item e ds)) (text_back a word h) ∙ ap (λ es. array (item (string word) es)) (sym (items_forth ds)))
begins (object ms) word h = none_is word h

list_proper : (ds : List Data) → AreProper (items_of ds) → ListProper ds
list_proper [] p = tt
list_proper (d ∷ ds) p = (p.0, list_proper ds p.1)

-- the value, as its word and what stands behind it
split : (d : Data) (verb : Verb) (word : List ℕ) → verb_of word ≡ Some verb → text_member 0 d ≡ Some word → HasProper d → (ds : List Data) × (d ≡ line_of_word (word_of verb) ds) × ListProper ds
split d verb word v t p =
    let b = begins d (word_of verb) (t ∙ ap Some (word_back word verb v)) in
    (b.0, b.1, list_proper b.0 (subst HasProper b.1 p).1)

-- ---- lines

from_verb : (o : Option Verb) (word : List ℕ) (d : Data) (line : Line) → verb_of word ≡ o → text_member 0 d ≡ Some word → HasProper d → of_one (λ verb. line_by verb d) o ≡ Ok line → (d ≡ line_data line) × IsLine line
from_verb None word d line v t p h = no_value BadLine line h
from_verb (Some verb) word d line v t p h =
    let b = split d verb word v t p in
    let got = line_back verb b.0 line b.2 (ap (line_by verb) (sym b.1) ∙ h) in
    (b.1 ∙ got.0, got.1)

from_word : (o : Option (List ℕ)) (d : Data) (line : Line) → text_member 0 d ≡ o → HasProper d → of_one (λ verb. line_by verb d) (option_and_then verb_of o) ≡ Ok line → (d ≡ line_data line) × IsLine line
from_word None d line t p h = no_value BadLine line h
from_word (Some word) d line t p h = from_verb (verb_of word) word d line refl t p h

from_text : (o : Option Data) (text : List ℕ) (line : Line) → read text ≡ o → of_one line_in o ≡ Ok line → (o ≡ Some (line_data line)) × IsLine line
from_text None text line r h = no_value BadLine line h
from_text (Some d) text line r h = let got = from_word (text_member 0 d) d line refl (read_proper text d r) h in (ap Some got.0, got.1)

pub line_understood : (text : List ℕ) (line : Line) → line_of text ≡ Ok line → (read text ≡ Some (line_data line)) × IsLine line
line_understood text line h = from_text (read text) text line refl h

-- ---- edits

edit_from_verb : (o : Option Verb) (word : List ℕ) (d : Data) (e : Command) → verb_of word ≡ o → text_member 0 d ≡ Some word → HasProper d → of_one (λ verb. edit_with verb d) o ≡ Ok e → (d ≡ edit_data e) × FitsEdit e
edit_from_verb (Some (verbs.Edit verb)) word d e v t p h =
    let b = split d (verbs.Edit verb) word v t p in
    let got = edit_back verb b.0 e b.2 (ap (edit_by verb) (sym b.1) ∙ h) in
    (b.1 ∙ got.0, got.1)
edit_from_verb None word d e v t p h = no_value BadLine e h
edit_from_verb (Some verb) word d e v t p h = no_value BadLine e h

edit_from_word : (o : Option (List ℕ)) (d : Data) (e : Command) → text_member 0 d ≡ o → HasProper d → of_one (λ verb. edit_with verb d) (option_and_then verb_of o) ≡ Ok e → (d ≡ edit_data e) × FitsEdit e
edit_from_word None d e t p h = no_value BadLine e h
edit_from_word (Some word) d e t p h = edit_from_verb (verb_of word) word d e refl t p h

edit_from_text : (o : Option Data) (text : List ℕ) (e : Command) → read text ≡ o → of_one edit_in o ≡ Ok e → (o ≡ Some (edit_data e)) × FitsEdit e
edit_from_text None text e r h = no_value BadLine e h
edit_from_text (Some d) text e r h = let got = edit_from_word (text_member 0 d) d e refl (read_proper text d r) h in (ap Some got.0, got.1)

pub edit_understood : (text : List ℕ) (e : Command) → edit_of text ≡ Ok e → (read text ≡ Some (edit_data e))
    × FitsEdit e
edit_understood text e h = edit_from_text (read text) text e refl h

-- ---- no word

always_no : (b : Bool) → (b ≡ true → ⊥) → b ≡ false
always_no true never = absurd (never refl)
always_no false never = refl

unknown : (words : List (List ℕ)) (text word : List ℕ) (d : Data) → read text ≡ Some d → text_member 0 d ≡ Some word → (HasWord words text → ⊥) → list_any (bytes_eq word) words ≡ false
unknown words text word d r t not =
    let b = begins d word t in
    always_no (list_any (bytes_eq word) words) (λ known. not (record { word = word; behind = b.0; spelled = r ∙ ap Some b.1; known = known }))

line_bad_in : (o : Option (List ℕ)) (text : List ℕ) (d : Data) → read text ≡ Some d → text_member 0 d ≡ o → (HasWord line_words text → ⊥) → of_one (λ verb. line_by verb d) (option_and_then verb_of o) ≡ Err BadLine
line_bad_in None text d r t not = refl
line_bad_in (Some word) text d r t not = ap (of_one (λ verb. line_by verb d)) (other_word word (unknown line_words text word d r t not))

line_bad_from : (o : Option Data) (text : List ℕ) → read text ≡ o → (HasWord line_words text → ⊥) → of_one line_in o ≡ Err BadLine
line_bad_from None text r not = refl
line_bad_from (Some d) text r not = line_bad_in (text_member 0 d) text d r refl not

pub line_bad : (text : List ℕ) → (HasWord line_words text → ⊥) → line_of text ≡ Err BadLine
line_bad text not = line_bad_from (read text) text refl not

edit_bad_with : (o : Option Verb) (word : List ℕ) (d : Data) → verb_of word ≡ o → list_any (bytes_eq word) edit_verbs ≡ false → of_one (λ verb. edit_with verb d) o ≡ Err BadLine
edit_bad_with (Some (verbs.Edit verb)) word d v not = absurd (false≢true (sym not ∙ ap (λ w. list_any (bytes_eq w) edit_verbs) (word_back word (verbs.Edit verb) v) ∙ edit_known verb))
edit_bad_with None word d v not = refl
edit_bad_with (Some verb) word d v not = refl

edit_bad_in : (o : Option (List ℕ)) (text : List ℕ) (d : Data) → read text ≡ Some d → text_member 0 d ≡ o → (HasWord edit_verbs text → ⊥) → of_one (λ verb. edit_with verb d) (option_and_then verb_of o) ≡ Err BadLine
edit_bad_in None text d r t not = refl
edit_bad_in (Some word) text d r t not = edit_bad_with (verb_of word) word d refl (unknown edit_verbs text word d r t not)

edit_bad_from : (o : Option Data) (text : List ℕ) → read text ≡ o → (HasWord edit_verbs text → ⊥) → of_one edit_in o ≡ Err BadLine
edit_bad_from None text r not = refl
edit_bad_from (Some d) text r not = edit_bad_in (text_member 0 d) text d r refl not

pub edit_bad : (text : List ℕ) → (HasWord edit_verbs text → ⊥) → edit_of text ≡ Err BadLine
edit_bad text not = edit_bad_from (read text) text refl not

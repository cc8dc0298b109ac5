-- What is read as an edit without a replica's name spells that edit.
use Rattle.std.proofs.Common.{◌≡◌, ℕ, List, [], ◌∷◌, Option, Some, None, Ok, Err, refl, sym, ◌∙◌, ap, subst, arith}
use Rattle.std.specs.Prelude.{codes}
use Rattle.serde_json.specs.Data.{Data, string}
use Rattle.serde_json.specs.Find.{as_str}
use Rattle.rds_names.specs.AndThen.{◌>>=◌}
use Rattle.rds_names.specs.declared.fault.Fault.TheVariants.{BadLine}
use Rattle.rds_names.specs.Key.{key_of}
use Rattle.rds_names.specs.Path.{path_of}
use Rattle.rds_state.specs.declared.command.Command.{Command}
use Rattle.rds_state.specs.declared.command.Command.TheVariants.{Set, Add, Del, Clear, Inc, Dec}
use Rattle.rds_json.specs.declared.unnamed.CountedAt.{CountedAt}
use Rattle.rds_json.specs.declared.unnamed.ValuedAt.{ValuedAt}
use Rattle.rds_json.specs.declared.verb.EditVerb.{EditVerb}
use Rattle.rds_json.specs.declared.verb.EditVerb.TheVariants as edits
use Rattle.rds_json.specs.Limits.{FitsAmount, FitsEdit, IsKey, IsPath, FitsScalar}
use Rattle.rds_json.specs.Members.{of_one, of_two}
use Rattle.rds_json.specs.Scalar.{scalar_of}
use Rattle.rds_json.specs.Show.{scalar_data}
use Rattle.rds_json.specs.Spelling.{amount_data, edit_data, path_data, line_of_word}
use Rattle.rds_json.specs.Unnamed.{counted_at, edit_by, keyed_count, part_at, pathed_value, valued_at}
use Rattle.rds_json.proofs.Outcomes.{both, bound, no_value, ok_is, there}
use Rattle.rds_json.proofs.Proper.{IsProper}
use Rattle.rds_json.proofs.Understood.{ListProper, IsPathAt, amount_back, key_at, number_in, path_at, same_two, scalar_back, wrong_count}
use Rattle.rds_json.proofs.Words.{edit_word_of}

part_member : (a : Data) (path : List (List ℕ)) → of_one path_of (as_str a) ≡ Ok path → IsPathAt a path
part_member a path h = let m = there path_of (as_str a) path h in path_at a m.0 path m.1 m.2

part_back : (word : List ℕ) (ds : List Data) (path : List (List ℕ)) → part_at (line_of_word word ds) ≡ Ok path → (ds ≡ path_data path ∷ []) × IsPath path
part_back word [] path h = wrong_count 2 word [] (Err BadLine) path (λ e. omega arith) h
part_back word (a ∷ []) path h = let m = part_member a path h in (ap (λ d. d ∷ []) m.0, m.1)
part_back word (a ∷ b ∷ ds) path h = wrong_count 2 word (a ∷ b ∷ ds) (of_one path_of (as_str a)) path (λ e. omega arith) h

valued_parts : (a b : Data) (x : ValuedAt) → IsProper b → of_two pathed_value (as_str a) (Some b) ≡ Ok x
    → (a ∷ b ∷ [] ≡ path_data x.path ∷ scalar_data x.value ∷ []) × IsPath x.path × FitsScalar x.value
valued_parts a b x proper h =
    let m = there (λ s. pathed_value s b) (as_str a) x (one_of_two (as_str a) h) in
    let p = bound (path_of m.0) (λ p. scalar_of b >>= λ v. Ok (record { path = p; value = v })) x m.2 in
    let v = bound (scalar_of b) (λ v. Ok (record { path = p.0; value = v })) x p.2 in
    let path = path_at a m.0 p.0 m.1 p.1 in
    let value = scalar_back b v.0 proper v.1 in
    subst (λ (y : ValuedAt). (a ∷ b ∷ [] ≡ path_data y.path ∷ scalar_data y.value ∷ []) × IsPath y.path × FitsScalar y.value)
    (ok_is (record { path = p.0; value = v.0 }) x v.2) (same_two path.0 value.0, path.1, value.1)
  where
    one_of_two : (o : Option (List ℕ)) → of_two pathed_value o (Some b) ≡ Ok x → of_one (λ s. pathed_value s b) o ≡ Ok x
    one_of_two (Some s) e = e
    one_of_two None e = no_value BadLine x e

valued_back : (word : List ℕ) (ds : List Data) (x : ValuedAt) → ListProper ds → valued_at (line_of_word word ds) ≡ Ok x
    → (ds ≡ path_data x.path ∷ scalar_data x.value ∷ []) × IsPath x.path × FitsScalar x.value
valued_back word [] x p h = wrong_count 3 word [] (Err BadLine) x (λ e. omega arith) h
valued_back word (a ∷ []) x p h = wrong_count 3 word (a ∷ []) (of_two pathed_value (as_str a) None) x (λ e. omega arith) h
valued_back word (a ∷ b ∷ []) x p h = valued_parts a b x p.1.0 h
valued_back word (a ∷ b ∷ c ∷ ds) x p h = wrong_count 3 word (a ∷ b ∷ c ∷ ds) (of_two pathed_value (as_str a) (Some b)) x (λ e. omega arith) h

counted_parts : (a b : Data) (x : CountedAt) → IsProper b → of_two keyed_count (as_str a) (number_in b) ≡ Ok x
    → (a ∷ b ∷ [] ≡ string x.key ∷ amount_data x.by ∷ []) × IsKey x.key × FitsAmount x.by
counted_parts a b x proper h =
    let m = both keyed_count (as_str a) (number_in b) x h in
    let k = bound (key_of m.0) (λ k. Ok (record { key = k; by = m.1 })) x m.4 in
    let key = key_at a m.0 k.0 m.2 k.1 in
    let by = amount_back b m.1 proper m.3 in
    subst (λ (y : CountedAt). (a ∷ b ∷ [] ≡ string y.key ∷ amount_data y.by ∷ []) × IsKey y.key × FitsAmount y.by)
    (ok_is (record { key = k.0; by = m.1 }) x k.2) (same_two key.0 by.0, key.1, by.1)

counted_back : (word : List ℕ) (ds : List Data) (x : CountedAt) → ListProper ds → counted_at (line_of_word word ds) ≡ Ok x
    → (ds ≡ string x.key ∷ amount_data x.by ∷ []) × IsKey x.key × FitsAmount x.by
counted_back word [] x p h = wrong_count 3 word [] (Err BadLine) x (λ e. omega arith) h
counted_back word (a ∷ []) x p h = wrong_count 3 word (a ∷ []) (of_two keyed_count (as_str a) None) x (λ e. omega arith) h
counted_back word (a ∷ b ∷ []) x p h = counted_parts a b x p.1.0 h
counted_back word (a ∷ b ∷ c ∷ ds) x p h = wrong_count 3 word (a ∷ b ∷ c ∷ ds) (of_two keyed_count (as_str a) (number_in b)) x (λ e. omega arith) h

abbrev IsSpelled : List ℕ → List Data → Command → Type 0
IsSpelled word ds edit = (line_of_word word ds ≡ edit_data edit) × FitsEdit edit

value_spelled : (word : List ℕ) (ds : List Data) (edit : ValuedAt → Command) → ((x : ValuedAt) → edit_data (edit x) ≡ line_of_word word (path_data x.path ∷ scalar_data x.value ∷ []))
    → ((x : ValuedAt) → IsPath x.path × FitsScalar x.value → FitsEdit (edit x)) → (e : Command) → ListProper ds → (valued_at (line_of_word word ds) >>= λ at. Ok (edit at)) ≡ Ok e → IsSpelled word ds e
value_spelled word ds edit spelled fits e p h =
    let a = bound (valued_at (line_of_word word ds)) (λ at. Ok (edit at)) e h in
    let r = valued_back word ds a.0 p a.1 in
    subst (IsSpelled word ds) (ok_is (edit a.0) e a.2) (ap (line_of_word word) r.0 ∙ sym (spelled a.0), fits a.0 (r.1, r.2))

count_spelled : (word : List ℕ) (ds : List Data) (edit : CountedAt → Command) → ((x : CountedAt) → edit_data (edit x) ≡ line_of_word word (string x.key ∷ amount_data x.by ∷ []))
    → ((x : CountedAt) → IsKey x.key × FitsAmount x.by → FitsEdit (edit x)) → (e : Command) → ListProper ds → (counted_at (line_of_word word ds) >>= λ at. Ok (edit at)) ≡ Ok e → IsSpelled word ds e
count_spelled word ds edit spelled fits e p h =
    let a = bound (counted_at (line_of_word word ds)) (λ at. Ok (edit at)) e h in
    let r = counted_back word ds a.0 p a.1 in
    subst (IsSpelled word ds) (ok_is (edit a.0) e a.2) (ap (line_of_word word) r.0 ∙ sym (spelled a.0), fits a.0 (r.1, r.2))

pub edit_back : (verb : EditVerb) (ds : List Data) (e : Command) → ListProper ds → edit_by verb (line_of_word (edit_word_of verb) ds) ≡ Ok e → IsSpelled (edit_word_of verb) ds e
edit_back edits.Set ds e p h = value_spelled _ ds (λ at. Set at.path at.value) (λ x. refl) (λ x f. f) e p h
edit_back edits.Add ds e p h = value_spelled _ ds (λ at. Add at.path at.value) (λ x. refl) (λ x f. f) e p h
edit_back edits.Del ds e p h = value_spelled _ ds (λ at. Del at.path at.value) (λ x. refl) (λ x f. f) e p h
edit_back edits.Clear ds e p h =
    let a = bound (part_at (line_of_word (codes "clear") ds)) (λ path. Ok (Clear path)) e h in
    let r = part_back (codes "clear") ds a.0 a.1 in
    subst (IsSpelled (codes "clear") ds) (ok_is (Clear a.0) e a.2) (ap (line_of_word (codes "clear")) r.0, r.1)
edit_back edits.Inc ds e p h = count_spelled _ ds (λ at. Inc at.key at.by) (λ x. refl) (λ x f. f) e p h
edit_back edits.Dec ds e p h = count_spelled _ ds (λ at. Dec at.key at.by) (λ x. refl) (λ x f. f) e p h

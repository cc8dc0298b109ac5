-- What is read as a line spells that line.
use Rattle.std.proofs.Common.{◌≡◌, ◌^◌, ℕ, suc, Bool, true, false, cond, ltb, leb, List, [], ◌∷◌, length, map, pos, negsuc, Option, Some, None, Result, Ok, Err, refl, sym, ap, subst, ◌∙◌, arith}
use Rattle.std.specs.Prelude.{⊤, option_and_then}
use Rattle.std.specs.List.{list_all}
use Rattle.std.proofs.lemmas.Bool.{leb-true, ltb-true}
use Rattle.serde_json.specs.Data.{Data, null, boolean, number, string, array, object, unsigned, negative, float}
use Rattle.serde_json.specs.Find.{as_number, as_str, as_u64}
use Rattle.serde_json.specs.View.{items_of}
use Rattle.rds_names.specs.AndThen.{◌>>=◌}
use Rattle.rds_names.specs.Conditions.{and_true}
use Rattle.rds_names.specs.declared.fault.Fault.{Fault}
use Rattle.rds_names.specs.declared.fault.Fault.TheVariants.{BadKey, BadLine, BadName, BadRoster, BadScalar}
use Rattle.rds_names.specs.declared.scalar.Scalar.{Scalar}
use Rattle.rds_names.specs.declared.scalar.Scalar.TheVariants.{Null, Bool as Truth, Int, Text}
use Rattle.rds_names.specs.Key.{is_key, key_of}
use Rattle.rds_names.specs.Name.{is_name, name_of}
use Rattle.rds_names.specs.Path.{path_of}
use Rattle.rds_names.specs.Roster.{RosterValue, are_names, roster_of}
use Rattle.rds_json.specs.declared.parts.AnswerAt.{AnswerAt}
use Rattle.rds_json.specs.declared.parts.CounterAt.{CounterAt}
use Rattle.rds_json.specs.declared.parts.GrowthAt.{GrowthAt}
use Rattle.rds_json.specs.declared.parts.PlaceAt.{PlaceAt}
use Rattle.rds_json.specs.declared.parts.ValueAt.{ValueAt}
use Rattle.rds_json.specs.Limits.{FitsAmount, IsKey, IsName, IsPath, IsRoster, FitsScalar}
use Rattle.rds_json.specs.Members.{items_in, of_one, of_three, of_two}
use Rattle.rds_json.specs.Parts.{answer_from, counter_from, growth_at, named_answer, named_counter, named_growth, named_place, named_value, number_alone, of_count, place_from, replica_from, value_at}
use Rattle.rds_json.specs.RosterLine.{is_text, names_of, roster_line, roster_from}
use Rattle.rds_json.specs.Scalar.{scalar_of, scalar_of_integer}
use Rattle.rds_json.specs.Show.{scalar_data}
use Rattle.rds_json.specs.Spelling.{amount_data, path_data, line_of_word}
use Rattle.rds_json.proofs.Names.{items_back}
use Rattle.rds_json.proofs.Outcomes.{all_three, both, bound, counted, no_value, none_is, ok_is, passed, some_is, there}
use Rattle.rds_json.proofs.Paths.{path_back}
use Rattle.rds_json.proofs.Proper.{IsProper}

-- ---- one member

abbrev text_in : Option Data → Option (List ℕ)
text_in o = option_and_then as_str o

abbrev pub number_in : Data → Option ℕ
number_in d = option_and_then as_u64 (as_number d)

pub text_back : (d : Data) (s : List ℕ) → as_str d ≡ Some s → d ≡ string s
text_back null s h = none_is s h
text_back (boolean b) s h = none_is s h
text_back (number n) s h = none_is s h
text_back (string t) s h = ap string (some_is t s h)
text_back (array ds) s h = none_is s h
text_back (object ms) s h = none_is s h

pub amount_back : (d : Data) (n : ℕ) → IsProper d → number_in d ≡ Some n → (d ≡ amount_data n) × FitsAmount n
amount_back null n p h = none_is n h
amount_back (boolean b) n p h = none_is n h
amount_back (number (unsigned m)) n p h = let is = some_is m n h in (ap amount_data is, subst FitsAmount is p)
amount_back (number (negative z)) n p h = none_is n h
amount_back (number (float x)) n p h = none_is n h
amount_back (string t) n p h = none_is n h
amount_back (array ds) n p h = none_is n h
amount_back (object ms) n p h = none_is n h

abbrev pub IsScalarAt : Data → Scalar → Type 0
IsScalarAt d v = (d ≡ scalar_data v) × FitsScalar v

integer_back : (n : ℕ) (v : Scalar) → scalar_of (number (unsigned n)) ≡ Ok v → IsScalarAt (number (unsigned n)) v
integer_back n v h = by_test (ltb n (2 ^ 63)) refl h
  where
    by_test : (b : Bool) → b ≡ ltb n (2 ^ 63) → scalar_of_integer (cond b (Some (pos n)) None) ≡ Ok v → IsScalarAt (number (unsigned n)) v
    by_test true is h = subst (IsScalarAt (number (unsigned n))) (ok_is (Int (pos n)) v h) (refl, record { sfits = ltb-true n (2 ^ 63) (sym is) })
    by_test false is h = no_value BadScalar v h

pub scalar_back : (d : Data) (v : Scalar) → IsProper d → scalar_of d ≡ Ok v → IsScalarAt d v
scalar_back null v p h = subst (IsScalarAt null) (ok_is Null v h) (refl, tt)
scalar_back (boolean b) v p h = subst (IsScalarAt (boolean b)) (ok_is (Truth b) v h) (refl, tt)
scalar_back (number (unsigned n)) v p h = integer_back n v h
scalar_back (number (negative (pos n))) v p h = absurd p
scalar_back (number (negative (negsuc n))) v p h = subst (IsScalarAt (number (negative (negsuc n)))) (ok_is (Int (negsuc n)) v h) (refl, record { sfits = p })
scalar_back (number (float x)) v p h = no_value BadScalar v h
scalar_back (string s) v p h =
    let few = passed (leb (length s) 1024) (Ok (Text s)) BadScalar v h in
    subst (IsScalarAt (string s)) (ok_is (Text s) v few.1) (refl, leb-true (length s) 1024 few.0)
scalar_back (array ds) v p h = no_value BadScalar v h
scalar_back (object ms) v p h = no_value BadScalar v h

named : (s name : List ℕ) → name_of s ≡ Ok name → (s ≡ name) × IsName name
named s name h = let p = passed (is_name s) (Ok s) BadName name h in let is = ok_is s name p.1 in (is, subst IsName is p.0)

keyed : (s key : List ℕ) → key_of s ≡ Ok key → (s ≡ key) × IsKey key
keyed s key h = let p = passed (is_key s) (Ok s) BadKey key h in let is = ok_is s key p.1 in (is, subst IsKey is p.0)

-- the member is this name, this key or this path
abbrev pub IsNameAt : Data → List ℕ → Type 0
IsNameAt d name = (d ≡ string name) × IsName name

abbrev pub IsKeyAt : Data → List ℕ → Type 0
IsKeyAt d key = (d ≡ string key) × IsKey key

abbrev pub IsPathAt : Data → List (List ℕ) → Type 0
IsPathAt d path = (d ≡ path_data path) × IsPath path

name_at : (d : Data) (s name : List ℕ) → as_str d ≡ Some s → name_of s ≡ Ok name → IsNameAt d name
name_at d s name t h = let n = named s name h in (text_back d s t ∙ ap string n.0, n.1)

pub key_at : (d : Data) (s key : List ℕ) → as_str d ≡ Some s → key_of s ≡ Ok key → IsKeyAt d key
key_at d s key t h = let n = keyed s key h in (text_back d s t ∙ ap string n.0, n.1)

pub path_at : (d : Data) (s : List ℕ) (path : List (List ℕ)) → as_str d ≡ Some s → path_of s ≡ Ok path → IsPathAt d path
path_at d s path t h = let n = path_back s path h in (text_back d s t ∙ ap string n.0, n.1)

-- ---- the members behind a line's word

abbrev pub ListProper : List Data → Type 0
ListProper [] = ⊤
ListProper (d ∷ ds) = IsProper d × ListProper ds

name_back : (d : Data) (name : List ℕ) → of_one name_of (as_str d) ≡ Ok name → IsNameAt d name
name_back d name h = let m = there name_of (as_str d) name h in name_at d m.0 name m.1 m.2

key_back : (d : Data) (key : List ℕ) → of_one key_of (as_str d) ≡ Ok key → IsKeyAt d key
key_back d key h = let m = there key_of (as_str d) key h in key_at d m.0 key m.1 m.2

count_back : (o : Option ℕ) (n : ℕ) → of_one Ok o ≡ Ok n → o ≡ Some n
count_back o n h = let m = there Ok o n h in m.1 ∙ ap Some (ok_is m.0 n m.2)

pub replica_back : (word : List ℕ) (ds : List Data) (name : List ℕ) → replica_from (line_of_word word ds) ≡ Ok name → (ds ≡ string name ∷ []) × IsName name
replica_back word [] name h = let n = (counted 2 (line_of_word word []) (Err BadLine) name h).0 in absurd (omega (arith, n))
replica_back word (a ∷ []) name h = let n = name_back a name h in (ap (λ d. d ∷ []) n.0, n.1)
replica_back word (a ∷ b ∷ ds) name h = let n = (counted 2 (line_of_word word (a ∷ b ∷ ds)) (of_one name_of (as_str a)) name h).0 in absurd (omega (arith, n))

pub alone_back : (word : List ℕ) (ds : List Data) (n : ℕ) → ListProper ds → number_alone (line_of_word word ds) ≡ Ok n → (ds ≡ amount_data n ∷ []) × FitsAmount n
alone_back word [] n p h = let m = (counted 2 (line_of_word word []) (Err BadLine) n h).0 in absurd (omega (arith, m))
alone_back word (a ∷ []) n p h = let m = amount_back a n p.0 (count_back (number_in a) n h) in (ap (λ d. d ∷ []) m.0, m.1)
alone_back word (a ∷ b ∷ ds) n p h = let m = (counted 2 (line_of_word word (a ∷ b ∷ ds)) (of_one Ok (number_in a)) n h).0 in absurd (omega (arith, m))

-- ---- two or three of them

pub same_two : {a b c d : Data} → a ≡ c → b ≡ d → a ∷ b ∷ [] ≡ c ∷ d ∷ []
same_two p q = rw (p, q) refl

same_three : {a b c d e f : Data} → a ≡ d → b ≡ e → c ≡ f → a ∷ b ∷ c ∷ [] ≡ d ∷ e ∷ f ∷ []
same_three p q r = rw (p, q, r) refl

answer_parts : (a b : Data) (x : AnswerAt) → IsProper b → of_two named_answer (as_str a) (number_in b) ≡ Ok x
    → (a ∷ b ∷ [] ≡ string x.name ∷ amount_data x.ask ∷ []) × IsName x.name × FitsAmount x.ask
answer_parts a b x p h =
    let m = both named_answer (as_str a) (number_in b) x h in
    let n = bound (name_of m.0) (λ n. Ok (record { name = n; ask = m.1 })) x m.4 in
    let name = name_at a m.0 n.0 m.2 n.1 in
    let ask = amount_back b m.1 p m.3 in
    subst (λ (y : AnswerAt). (a ∷ b ∷ [] ≡ string y.name ∷ amount_data y.ask ∷ []) × IsName y.name × FitsAmount y.ask)
    (ok_is (record { name = n.0; ask = m.1 }) x n.2) (same_two name.0 ask.0, name.1, ask.1)

growth_parts : (a b : Data) (x : GrowthAt) → of_two named_growth (as_str a) (as_str b) ≡ Ok x
    → (a ∷ b ∷ [] ≡ string x.name ∷ string x.newcomer ∷ []) × IsName x.name × IsName x.newcomer
growth_parts a b x h =
    let m = both named_growth (as_str a) (as_str b) x h in
    let n = bound (name_of m.0) (λ n. name_of m.1 >>= λ k. Ok (record { name = n; newcomer = k })) x m.4 in
    let k = bound (name_of m.1) (λ k. Ok (record { name = n.0; newcomer = k })) x n.2 in
    let name = name_at a m.0 n.0 m.2 n.1 in
    let newcomer = name_at b m.1 k.0 m.3 k.1 in
    subst (λ (y : GrowthAt). (a ∷ b ∷ [] ≡ string y.name ∷ string y.newcomer ∷ []) × IsName y.name × IsName y.newcomer)
    (ok_is (record { name = n.0; newcomer = k.0 }) x k.2) (same_two name.0 newcomer.0, name.1, newcomer.1)

place_parts : (a b : Data) (x : PlaceAt) → of_two named_place (as_str a) (as_str b) ≡ Ok x
    → (a ∷ b ∷ [] ≡ string x.name ∷ path_data x.path ∷ []) × IsName x.name × IsPath x.path
place_parts a b x h =
    let m = both named_place (as_str a) (as_str b) x h in
    let n = bound (name_of m.0) (λ n. path_of m.1 >>= λ p. Ok (record { name = n; path = p })) x m.4 in
    let p = bound (path_of m.1) (λ p. Ok (record { name = n.0; path = p })) x n.2 in
    let name = name_at a m.0 n.0 m.2 n.1 in
    let path = path_at b m.1 p.0 m.3 p.1 in
    subst (λ (y : PlaceAt). (a ∷ b ∷ [] ≡ string y.name ∷ path_data y.path ∷ []) × IsName y.name × IsPath y.path)
    (ok_is (record { name = n.0; path = p.0 }) x p.2) (same_two name.0 path.0, name.1, path.1)

value_parts : (a b c : Data) (x : ValueAt) → IsProper c → of_three named_value (as_str a) (as_str b) (Some c) ≡ Ok x
    → (a ∷ b ∷ c ∷ [] ≡ string x.name ∷ path_data x.path ∷ scalar_data x.value ∷ []) × IsName x.name × IsPath x.path × FitsScalar x.value
value_parts a b c x proper h =
    let m = both (λ s t. named_value s t c) (as_str a) (as_str b) x (two_of_three (as_str a) (as_str b) h) in
    let n = bound (name_of m.0) (λ n. path_of m.1 >>= λ p. scalar_of c >>= λ v. Ok (record { name = n; path = p; value = v })) x m.4 in
    let p = bound (path_of m.1) (λ p. scalar_of c >>= λ v. Ok (record { name = n.0; path = p; value = v })) x n.2 in
    let v = bound (scalar_of c) (λ v. Ok (record { name = n.0; path = p.0; value = v })) x p.2 in
    let name = name_at a m.0 n.0 m.2 n.1 in
    let path = path_at b m.1 p.0 m.3 p.1 in
    let value = scalar_back c v.0 proper v.1 in
    subst (λ (y : ValueAt). (a ∷ b ∷ c ∷ [] ≡ string y.name ∷ path_data y.path ∷ scalar_data y.value ∷ []) × IsName y.name × IsPath y.path × FitsScalar y.value)
    (ok_is (record { name = n.0; path = p.0; value = v.0 }) x v.2) (same_three name.0 path.0 value.0, name.1, path.1, value.1)
  where
    two_of_three : (o p : Option (List ℕ)) → of_three named_value o p (Some c) ≡ Ok x → of_two (λ s t. named_value s t c) o p ≡ Ok x
    two_of_three (Some s) (Some t) e = e
    two_of_three (Some s) None e = no_value BadLine x e
    two_of_three None t e = no_value BadLine x e

counter_parts : (a b c : Data) (x : CounterAt) → IsProper c → of_three named_counter (as_str a) (as_str b) (number_in c) ≡ Ok x
    → (a ∷ b ∷ c ∷ [] ≡ string x.name ∷ string x.key ∷ amount_data x.by ∷ []) × IsName x.name × IsKey x.key × FitsAmount x.by
counter_parts a b c x proper h =
    let m = all_three named_counter (as_str a) (as_str b) (number_in c) x h in
    let n = bound (name_of m.0) (λ n. key_of m.1 >>= λ k. Ok (record { name = n; key = k; by = m.2 })) x m.6 in
    let k = bound (key_of m.1) (λ k. Ok (record { name = n.0; key = k; by = m.2 })) x n.2 in
    let name = name_at a m.0 n.0 m.3 n.1 in
    let key = key_at b m.1 k.0 m.4 k.1 in
    let by = amount_back c m.2 proper m.5 in
    subst (λ (y : CounterAt). (a ∷ b ∷ c ∷ [] ≡ string y.name ∷ string y.key ∷ amount_data y.by ∷ []) × IsName y.name × IsKey y.key × FitsAmount y.by)
    (ok_is (record { name = n.0; key = k.0; by = m.2 }) x k.2) (same_three name.0 key.0 by.0, name.1, key.1, by.1)

-- a line of another number of members is refused
pub wrong_count : {X P : Type 0} (n : ℕ) (word : List ℕ) (ds : List Data) (said : Result X Fault) (x : X) → (suc (length (items_in (items_of ds))) ≡ n → ⊥) → of_count n (line_of_word word ds) said ≡ Ok x → P
wrong_count n word ds said x other h = absurd (other (counted n (line_of_word word ds) said x h).0)

pub answer_back : (word : List ℕ) (ds : List Data) (x : AnswerAt) → ListProper ds → answer_from (line_of_word word ds) ≡ Ok x
    → (ds ≡ string x.name ∷ amount_data x.ask ∷ []) × IsName x.name × FitsAmount x.ask
answer_back word [] x p h = wrong_count 3 word [] (Err BadLine) x (λ e. omega arith) h
answer_back word (a ∷ []) x p h = wrong_count 3 word (a ∷ []) (of_two named_answer (as_str a) None) x (λ e. omega arith) h
answer_back word (a ∷ b ∷ []) x p h = answer_parts a b x p.1.0 h
answer_back word (a ∷ b ∷ c ∷ ds) x p h = wrong_count 3 word (a ∷ b ∷ c ∷ ds) (of_two named_answer (as_str a) (number_in b)) x (λ e. omega arith) h

pub growth_back : (word : List ℕ) (ds : List Data) (x : GrowthAt) → growth_at (line_of_word word ds) ≡ Ok x
    → (ds ≡ string x.name ∷ string x.newcomer ∷ []) × IsName x.name × IsName x.newcomer
growth_back word [] x h = wrong_count 3 word [] (Err BadLine) x (λ e. omega arith) h
growth_back word (a ∷ []) x h = wrong_count 3 word (a ∷ []) (of_two named_growth (as_str a) None) x (λ e. omega arith) h
growth_back word (a ∷ b ∷ []) x h = growth_parts a b x h
growth_back word (a ∷ b ∷ c ∷ ds) x h = wrong_count 3 word (a ∷ b ∷ c ∷ ds) (of_two named_growth (as_str a) (as_str b)) x (λ e. omega arith) h

pub place_back : (word : List ℕ) (ds : List Data) (x : PlaceAt) → place_from (line_of_word word ds) ≡ Ok x
    → (ds ≡ string x.name ∷ path_data x.path ∷ []) × IsName x.name × IsPath x.path
place_back word [] x h = wrong_count 3 word [] (Err BadLine) x (λ e. omega arith) h
place_back word (a ∷ []) x h = wrong_count 3 word (a ∷ []) (of_two named_place (as_str a) None) x (λ e. omega arith) h
place_back word (a ∷ b ∷ []) x h = place_parts a b x h
place_back word (a ∷ b ∷ c ∷ ds) x h = wrong_count 3 word (a ∷ b ∷ c ∷ ds) (of_two named_place (as_str a) (as_str b)) x (λ e. omega arith) h

pub value_back : (word : List ℕ) (ds : List Data) (x : ValueAt) → ListProper ds → value_at (line_of_word word ds) ≡ Ok x
    → (ds ≡ string x.name ∷ path_data x.path ∷ scalar_data x.value ∷ []) × IsName x.name × IsPath x.path × FitsScalar x.value
value_back word [] x p h = wrong_count 4 word [] (Err BadLine) x (λ e. omega arith) h
value_back word (a ∷ []) x p h = wrong_count 4 word (a ∷ []) (of_three named_value (as_str a) None None) x (λ e. omega arith) h
value_back word (a ∷ b ∷ []) x p h = wrong_count 4 word (a ∷ b ∷ []) (of_three named_value (as_str a) (as_str b) None) x (λ e. omega arith) h
value_back word (a ∷ b ∷ c ∷ []) x p h = value_parts a b c x p.1.1.0 h
value_back word (a ∷ b ∷ c ∷ d ∷ ds) x p h = wrong_count 4 word (a ∷ b ∷ c ∷ d ∷ ds) (of_three named_value (as_str a) (as_str b) (Some c)) x (λ e. omega arith) h

pub counter_back : (word : List ℕ) (ds : List Data) (x : CounterAt) → ListProper ds → counter_from (line_of_word word ds) ≡ Ok x
    → (ds ≡ string x.name ∷ string x.key ∷ amount_data x.by ∷ []) × IsName x.name × IsKey x.key × FitsAmount x.by
counter_back word [] x p h = wrong_count 4 word [] (Err BadLine) x (λ e. omega arith) h
counter_back word (a ∷ []) x p h = wrong_count 4 word (a ∷ []) (of_three named_counter (as_str a) None None) x (λ e. omega arith) h
counter_back word (a ∷ b ∷ []) x p h = wrong_count 4 word (a ∷ b ∷ []) (of_three named_counter (as_str a) (as_str b) None) x (λ e. omega arith) h
counter_back word (a ∷ b ∷ c ∷ []) x p h = counter_parts a b c x p.1.1.0 h
counter_back word (a ∷ b ∷ c ∷ d ∷ ds) x p h = wrong_count 4 word (a ∷ b ∷ c ∷ d ∷ ds) (of_three named_counter (as_str a) (as_str b) (number_in c)) x (λ e. omega arith) h

-- ---- a roster

names_back : (ds : List Data) (names : List (List ℕ)) → names_of ds ≡ Ok names → (ds ≡ map string names) × (list_all is_name names ≡ true)
names_back [] names h = subst (λ ns. ([] ≡ map string ns) × (list_all is_name ns ≡ true)) (ok_is [] names h) (refl, refl)
names_back (d ∷ ds) names h =
    let n = bound (of_one name_of (as_str d)) (λ name. names_of ds >>= λ names. Ok (name ∷ names)) names h in
    let ns = bound (names_of ds) (λ names. Ok (n.0 ∷ names)) names n.2 in
    let first = name_back d n.0 n.1 in
    let rest = names_back ds ns.0 ns.1 in
    subst (λ ms. (d ∷ ds ≡ map string ms) × (list_all is_name ms ≡ true)) (ok_is (n.0 ∷ ns.0) names ns.2)
    (ap (λ e. e ∷ ds) first.0 ∙ ap (λ es. string n.0 ∷ es) rest.0, and_true _ _ first.1 rest.1)

abbrev pub IsRosterAt : List Data → RosterValue → Type 0
IsRosterAt ds r = (ds ≡ string r.group ∷ map string r.names) × IsRoster r

members_back : (ds : List Data) (r : RosterValue) → roster_from ds ≡ Ok r → IsRosterAt ds r
members_back [] r h = no_value BadLine r h
members_back (d ∷ ds) r h =
    let said = (passed (list_all is_text (d ∷ ds)) (of_one key_of (as_str d) >>= (λ key. names_of ds >>= λ ns. roster_of key ns)) BadLine r h).1 in
    let k = bound (of_one key_of (as_str d)) (λ key. names_of ds >>= λ ns. roster_of key ns) r said in
    let ns = bound (names_of ds) (λ ns. roster_of k.0 ns) r k.2 in
    let made = passed (are_names ns.0) (Ok (record { group = k.0; names = ns.0 })) BadRoster r ns.2 in
    let key = key_back d k.0 k.1 in
    let names = names_back ds ns.0 ns.1 in
    subst (IsRosterAt (d ∷ ds)) (ok_is (record { group = k.0; names = ns.0 }) r made.1)
    (ap (λ e. e ∷ ds) key.0 ∙ ap (λ es. string k.0 ∷ es) names.0, (key.1, names.1, made.0))

pub roster_back : (word : List ℕ) (ds : List Data) (r : RosterValue) → roster_line (line_of_word word ds) ≡ Ok r → IsRosterAt ds r
roster_back word ds r h = members_back ds r (ap roster_from (sym (items_back ds)) ∙ h)

-- The parts of a snapshot are formats.
use Rattle.std.proofs.Common.{◌≡◌, ℕ, suc, ◌-◌, ◌^◌, ◌<◌, ◌≤◌, Bool, true, false, not, cond, eqb, leb, ◌&&◌, ◌||◌, List, [], ◌∷◌, ◌++◌, length, Option, Some, None, refl, sym, ap, subst, ◌∙◌, arith, length-append, append_assoc}
use Rattle.std.specs.Prelude.{slice_get}
use Rattle.std.specs.List.{list_any, list_all}
use Rattle.std.specs.Str.{bytes_eq, is_utf8}
use Rattle.std.specs.Cmp.Lexicographic.{nat_list_eq_equiv}
use Rattle.std.proofs.lemmas.Bool.{leb-true, ltb-true, le-leb, lt-ltb, false≢true}
use Rattle.std.proofs.lemmas.List.{append-nil}
use Rattle.std.proofs.lemmas.Str.{is_utf8-from_IsUtf8}
use Rattle.std.proofs.lemmas.Slice.Eq.{bytes_eq-Decides}
use Rattle.std.proofs.lemmas.List.Folds.{list_any-append}
use Rattle.rds_names.specs.Key.{is_key}
use Rattle.rds_names.specs.Name.{is_name, is_name_byte, starts_with_letter}
use Rattle.rds_names.specs.Roster.{RosterValue, all_differ, are_names}
use Rattle.rds_names.specs.Conditions.{and_true, and_left, and_right}
use Rattle.rds_names.proofs.Ascii.{name_is_text}
use Rattle.rds_bytes.specs.Spelling as spell
use Rattle.rds_bytes.specs.Spelling.{byte_text, short_text, names_text, roster_text, magic}
use Rattle.rds_bytes.specs.Reading as read
use Rattle.rds_bytes.specs.Reading.{byte_at, when_at, is_between, last}
use Rattle.rds_bytes.specs.Values.{is_key_text}
use Rattle.rds_bytes.proofs.Format.{IsFormat, byte_format, number16, known_format, then_format, pair_format, made_format, drawn_format, when_format, refit}
use Rattle.rds_bytes.proofs.Lists.{AllAfter, list_format, string_format}

-- ---- short texts

abbrev IsLength : ℕ → ℕ → ℕ → Type 0
IsLength least most n = (n < 256) × (is_between least most n ≡ true)

length_format : (least most : ℕ) → IsFormat (when_at (is_between least most) byte_at) byte_text (IsLength least most)
length_format least most = when_format (is_between least most) byte_at byte_text (λ b. b < 256) byte_format

short_format : (least most : ℕ) → IsFormat (read.short_at least most) short_text (λ t. IsLength least most (length t) × (is_utf8 t ≡ true))
unfolding read.short_at
short_format least most = when_format is_utf8 _ _ _ (string_format _ _ _ (length_format least most))

below_byte : (least most n : ℕ) → most < 256 → is_between least most n ≡ true → n < 256
below_byte least most n small h = let le = leb-true n most (and_right (leb least n) _ h) in omega arith

pub key_format : IsFormat read.key_at short_text (λ t. is_key_text t ≡ true)
unfolding read.key_at
key_format =
    refit _ _ _ (λ t. is_key_text t ≡ true)
    (λ t h. and_true (is_utf8 t) (is_key t) h.0.1 h.1)
    (λ t h. (let key = and_right (is_utf8 t) (is_key t) h in
    let len : is_between 1 64 (length t) ≡ true = and_left (is_between 1 64 (length t)) (not (list_any (λ b. eqb b 47) t)) key in
    (((below_byte 1 64 (length t) (omega arith) len, len), and_left (is_utf8 t) (is_key t) h), key)))
    (when_format is_key _ _ _ (short_format 1 64))

-- ---- texts, no two of which are equal

abbrev has : List (List ℕ) → List ℕ → Bool
has names n = list_any (λ m. bytes_eq m n) names

turn : (a b c d : Bool) → (not (a || d) && (b && not c)) ≡ ((not a && b) && not (d || c))
turn true b c d = refl
turn false true c true = refl
turn false true c false = refl
turn false false c true = refl
turn false false c false = refl

or_none : (a : Bool) → (a || false) ≡ a
or_none true = refl
or_none false = refl

pub differ-push : (xs : List (List ℕ)) (y : List ℕ) → all_differ (xs ++ y ∷ []) ≡ (all_differ xs && read.is_new xs y)
differ-push [] y = refl
differ-push (x ∷ xs) y =
    let front : has (xs ++ y ∷ []) x ≡ (has xs x || bytes_eq x y) =
    list_any-append (λ m. bytes_eq m x) xs (y ∷ []) ∙ ap (λ b. has xs x || b) (or_none (bytes_eq y x) ∙ nat_list_eq_equiv.symm y x) in
    (λ i. not (front i) && differ-push xs y i) ∙ turn (has xs x) (all_differ xs) (has xs y) (bytes_eq x y)

pub differ_first : (xs ys : List (List ℕ)) → all_differ (xs ++ ys) ≡ true → all_differ xs ≡ true
differ_first [] ys h = refl
differ_first (x ∷ xs) ys h =
    let parts = sym (ap (λ b. not b && all_differ (xs ++ ys)) (list_any-append (λ m. bytes_eq m x) xs ys)) ∙ h in
    and_true _ _ (first (has xs x) (has ys x) (and_left _ (all_differ (xs ++ ys)) parts)) (differ_first xs ys (and_right (not (has xs x || has ys x)) _ parts))
  where
    first : (a b : Bool) → not (a || b) ≡ true → not a ≡ true
    first true b h = h
    first false b h = refl

pub push_more : {A : Type 0} (xs : List A) (y : A) (ys : List A) → (xs ++ y ∷ []) ++ ys ≡ xs ++ y ∷ ys
push_more xs y ys = append_assoc xs (y ∷ []) ys

module _ (test : List ℕ → Bool) where
  -- it passes the test, and none before it equals it
  abbrev pub IsNewOf : List (List ℕ) → List ℕ → Type 0
  IsNewOf before t = (test t ≡ true) × (read.is_new before t ≡ true)

  pub all_pass : (texts before : List (List ℕ)) → AllAfter IsNewOf before texts → list_all test texts ≡ true
  all_pass [] before h = refl
  all_pass (t ∷ texts) before h = and_true (test t) _ h.0.0 (all_pass texts (before ++ t ∷ []) h.1)

  pub differ_of : (texts before : List (List ℕ)) → all_differ before ≡ true → AllAfter IsNewOf before texts → all_differ (before ++ texts) ≡ true
  differ_of [] before all h = ap all_differ (append-nil before) ∙ all
  differ_of (t ∷ texts) before all h =
      ap all_differ (sym (push_more before t texts)) ∙ differ_of texts (before ++ t ∷ []) (differ-push before t ∙ and_true _ _ all h.0.1) h.1

  pub new_of : (texts before : List (List ℕ)) → all_differ (before ++ texts) ≡ true → list_all test texts ≡ true → AllAfter IsNewOf before texts
  new_of [] before all each = tt
  new_of (t ∷ texts) before all each =
      let pushed : all_differ ((before ++ t ∷ []) ++ texts) ≡ true = ap all_differ (push_more before t texts) ∙ all in
      let first = sym (differ-push before t) ∙ differ_first (before ++ t ∷ []) texts pushed in
      ((and_left (test t) _ each, and_right (all_differ before) _ first), new_of texts (before ++ t ∷ []) pushed (and_right (test t) _ each))

-- ---- names

starts_some : (t : List ℕ) → starts_with_letter t ≡ true → leb 1 (length t) ≡ true
starts_some [] h = absurd (false≢true h)
starts_some (b ∷ t) h = le-leb 1 (suc (length t)) (omega arith)

name_parts : (n : List ℕ) → is_name n ≡ true → IsLength 1 16 (length n) × (is_utf8 n ≡ true)
name_parts n h =
    let front = and_left (starts_with_letter n && leb (length n) 16) (list_all is_name_byte n) h in
    let some = starts_some n (and_left (starts_with_letter n) (leb (length n) 16) front) in
    let few = and_right (starts_with_letter n) (leb (length n) 16) front in
    let len : is_between 1 16 (length n) ≡ true = and_true _ _ some few in
    ((below_byte 1 16 (length n) (omega arith) len, len), is_utf8-from_IsUtf8 n (name_is_text n h))

pub name_most : (n : List ℕ) → is_name n ≡ true → length n ≤ 16
name_most n h = leb-true (length n) 16 (and_right (leb 1 (length n)) _ (name_parts n h).0.1)

new_name_format : (before : List (List ℕ)) → IsFormat (read.new_name_at before) short_text (IsNewOf is_name before)
unfolding read.new_name_at read.name_at
new_name_format before =
    refit _ _ _ (IsNewOf is_name before) (λ n h. (h.0.1, h.1)) (λ n h. ((name_parts n h.0, h.0), h.1))
    (when_format (read.is_new before) _ _ _ (when_format is_name _ _ _ (short_format 1 16)))

-- ---- names, no two of which are equal

abbrev AreNames : List (List ℕ) → Type 0
AreNames names = (list_all is_name names ≡ true) × (are_names names ≡ true)

names_there : (names : List (List ℕ)) → ((length names < 2 ^ 16) × (is_between 1 256 (length names) ≡ true)) × AllAfter (IsNewOf is_name) [] names → AreNames names
names_there names h = (all_pass is_name names [] h.1, and_true _ _ h.0.1 (differ_of is_name names [] refl h.1))

names_back : (names : List (List ℕ)) → AreNames names → ((length names < 2 ^ 16) × (is_between 1 256 (length names) ≡ true)) × AllAfter (IsNewOf is_name) [] names
names_back names h =
    let len : is_between 1 256 (length names) ≡ true = and_left (is_between 1 256 (length names)) (all_differ names) h.1 in
    let few = leb-true (length names) 256 (and_right (leb 1 (length names)) _ len) in
    ((omega arith, len), new_of is_name names [] (and_right (is_between 1 256 (length names)) _ h.1) h.0)

names_format : IsFormat read.names_at names_text AreNames
unfolding read.names_at
names_format =
    refit _ _ _ AreNames names_there names_back
    (list_format _ _ _ new_name_format _ _ _ (when_format (is_between 1 256) _ _ _ number16))

-- ---- the roster and the own number

pub record IsRoster (r : RosterValue) : Type 0 where
  pub group : is_key_text r.group ≡ true
  pub each_name : list_all is_name r.names ≡ true
  pub names : are_names r.names ≡ true

pub few_of_names : (names : List (List ℕ)) → are_names names ≡ true → length names ≤ 256
few_of_names names is = leb-true (length names) 256 (and_right (leb 1 (length names)) _ (and_left (is_between 1 256 (length names)) (all_differ names) is))

pub few_names : (r : RosterValue) → IsRoster r → length r.names ≤ 256
few_names r is = few_of_names r.names is.names

abbrev roster_parts : RosterValue → List ℕ × List (List ℕ)
roster_parts r = (r.group, r.names)

abbrev AreRosterParts : List ℕ × List (List ℕ) → Type 0
AreRosterParts p = (is_key_text p.0 ≡ true) × AreNames p.1

roster_there : (r : RosterValue) → IsRoster r → AreRosterParts (roster_parts r) × (read.roster_by (roster_parts r) ≡ Some r)
roster_there r is = ((is.group, (is.each_name, is.names)), ap (λ b. cond b (Some r) None) is.names)

roster_back : (p : List ℕ × List (List ℕ)) (r : RosterValue) → AreRosterParts p → read.roster_by p ≡ Some r → IsRoster r × (roster_parts r ≡ p)
roster_back p r h is =
    let made : RosterValue = record { group = p.0; names = p.1 } in
    let some : ◌≡◌ {A = Option RosterValue} (Some made) (Some r) = sym (ap (λ b. cond b (Some made) None) h.1.1) ∙ is in
    let same : made ≡ r = cc in
    (subst IsRoster same (record { group = h.0; each_name = h.1.0; names = h.1.1 }), ap roster_parts (sym same))

roster_format : IsFormat read.roster_at roster_text IsRoster
unfolding read.roster_at
roster_format = drawn_format read.roster_by roster_parts _ _ _ IsRoster roster_there roster_back (pair_format _ _ _ _ _ _ key_format names_format)

-- a byte below so many
pub replica_format : (replicas : ℕ) → IsFormat (read.replica_at replicas) byte_text (λ n. (n < 256) × (n < replicas))
unfolding read.replica_at
replica_format replicas =
    refit _ _ _ (λ n. (n < 256) × (n < replicas))
    (λ n h. (h.0, ltb-true n replicas h.1)) (λ n h. (h.0, lt-ltb n replicas h.1))
    (when_format (read.is_number replicas) _ _ _ byte_format)

own_format : (r : RosterValue) → IsRoster r → IsFormat (read.replica_at (length r.names)) byte_text (λ own. own < length r.names)
own_format r is =
    refit _ _ _ (λ own. own < length r.names) (λ own h. h.1) (λ own h. (let few = few_names r is in (omega arith, h))) (replica_format (length r.names))

abbrev IsMagic : List ℕ → Type 0
IsMagic t = (length t ≡ 4) × (bytes_eq magic t ≡ true)

magic_format : IsFormat read.magic_at (λ t. t) IsMagic
unfolding read.magic_at
magic_format = when_format (bytes_eq magic) _ _ _ (known_format 4)

abbrev pub Member : Type 0
Member = RosterValue × ℕ

abbrev pub IsMemberPair : Member → Type 0
IsMemberPair f = IsRoster f.0 × (f.1 < length f.0.names)

abbrev header_parts : Member → List ℕ × Member
header_parts f = (magic, f)

header_there : (f : Member) → IsMemberPair f → (IsMagic magic × IsMemberPair f) × (f ≡ f)
header_there f is = (((refl, refl), is), refl)

header_back : (p : List ℕ × Member) → IsMagic p.0 × IsMemberPair p.1 → IsMemberPair p.1 × (header_parts p.1 ≡ p)
header_back p h = (h.1, ap (λ (m : List ℕ). let q : List ℕ × Member = (m, p.1) in q) ((bytes_eq-Decides magic p.0).0 h.0.1))

pub member_format : IsFormat read.member_at (λ f. spell.member_text f.0 f.1) IsMemberPair
unfolding read.member_at
member_format = then_format _ _ _ _ _ _ roster_format own_format

pub header_format : IsFormat read.header_at (λ f. spell.header_text f.0 f.1) IsMemberPair
unfolding read.header_at
header_format = made_format (λ p. p.1) header_parts _ _ _ IsMemberPair header_there header_back (pair_format _ _ _ _ _ _ magic_format member_format)

-- ---- the last of the parts before

pub last-push : {A : Type 0} (xs : List A) (y : A) → last (xs ++ y ∷ []) ≡ Some y
last-push xs y = (let len : length (xs ++ y ∷ []) - 1 ≡ length xs = omega (arith, length-append xs (y ∷ [])) in ap (slice_get (xs ++ y ∷ [])) len ∙ at xs y)
  where
    at : {A : Type 0} (xs : List A) (y : A) → slice_get (xs ++ y ∷ []) (length xs) ≡ Some y
    at [] y = refl
    at (x ∷ xs) y = at xs y

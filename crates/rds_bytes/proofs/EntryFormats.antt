-- The entries of a snapshot are formats.
use Rattle.std.proofs.Common.{◌≡◌, ℕ, ◌^◌, ◌<◌, ◌≤◌, ◌⊎◌, inl, inr, Bool, true, false, cond, eqb, leb, ◌||◌, List, [], ◌∷◌, ◌++◌, length, Result, Ok, Err, Option, Some, None, ℤ, refl, sym, ap, subst, ◌∙◌, arith, rules}
use Rattle.std.specs.Prelude.{FitsSigned}
use Rattle.std.specs.List.{list_all, AllByRecursion}
use Rattle.std.specs.Str.{is_utf8}
use Rattle.std.specs.Int.{w64, to_be_bytes, cast_signed, cast_unsigned}
use Rattle.std.proofs.lemmas.Bool.{eqb-true, leb-true, le-leb}
use Rattle.std.proofs.lemmas.Int.{to_z-of_z, of_z-to_z}
use Rattle.rds_names.specs.declared.fault.Fault.{Fault}
use Rattle.rds_names.specs.declared.fault.Fault.TheVariants.{Bad}
use Rattle.rds_names.specs.declared.entry.Entry.{Entry}
use Rattle.rds_names.specs.declared.entry.Kind.{Kind}
use Rattle.rds_names.specs.declared.entry.Kind.TheVariants.{Reg, Elem}
use Rattle.rds_names.specs.declared.scalar.Scalar.{Scalar}
use Rattle.rds_names.specs.declared.scalar.Scalar.TheVariants.{Null, Bool as Truth, Int, Text}
use Rattle.rds_names.specs.Conditions.{and_true, and_right}
use Rattle.rds_names.specs.Entry.{entry_where}
use Rattle.rds_names.proofs.Entries.{entry_of_parts}
use Rattle.rds_bytes.specs.Entries.{EntryTuple, tuple_of, entry_of_tuple}
use Rattle.rds_bytes.specs.Spelling.{byte_text, kind_byte, text_text, scalar_text, keyed_path_text, keyed_entry_text}
use Rattle.rds_bytes.specs.Reading as read
use Rattle.rds_bytes.specs.Reading.{Reader, byte_at, made_at, when_at, is_between, tagged_at, int_scalar, text_scalar}
use Rattle.rds_bytes.specs.Values.{is_key_text, IsKeyText, IsScalar, IsEntry}
use Rattle.rds_bytes.proofs.Format.{IsFormat, IsBytes, Takes, Takes-then, CutOrBad, bind_ok, bind_err, chosen, err_is, ok_is, done, failed, byte_format, number16, number64, pair_format, made_format, drawn_format, when_format, refit}
use Rattle.rds_bytes.proofs.Lists.{AllAfter, list_format, string_format}

-- ---- kinds

kind_there : (k : Kind) → Unit {0} → ((kind_byte k < 256) × (read.is_kind (kind_byte k) ≡ true)) × (read.kind_by (kind_byte k) ≡ k)
kind_there Reg h = ((omega arith, refl), refl)
kind_there Elem h = ((omega arith, refl), refl)

kind_by : (b : ℕ) (one two : Bool) → eqb b 1 ≡ one → eqb b 2 ≡ two → (one ≡ true) ⊎ (two ≡ true) → kind_byte (cond one Reg Elem) ≡ b
kind_by b true two e1 e2 h = sym (eqb-true b 1 e1)
kind_by b false true e1 e2 h = sym (eqb-true b 2 e2)
kind_by b false false e1 e2 h = elim h [ inl x ↦ absurd cc | inr x ↦ absurd cc ]

or_true : (a b : Bool) → (a || b) ≡ true → (a ≡ true) ⊎ (b ≡ true)
or_true true b h = inl refl
or_true false b h = inr h

kind_back : (b : ℕ) → (b < 256) × (read.is_kind b ≡ true) → Unit {0} × (kind_byte (read.kind_by b) ≡ b)
kind_back b h = (tt, kind_by b (eqb b 1) (eqb b 2) refl refl (or_true (eqb b 1) (eqb b 2) h.1))

kind_format : IsFormat read.kind_at (λ k. byte_text (kind_byte k)) (λ _. Unit {0})
unfolding read.kind_at
kind_format = made_format read.kind_by kind_byte _ _ _ _ kind_there kind_back (when_format read.is_kind _ _ _ byte_format)

-- ---- numbers and texts

int_there : (z : ℤ) → FitsSigned w64 z → (cast_unsigned w64 z < 2 ^ 64) × (cast_signed w64 (cast_unsigned w64 z) ≡ z)
int_there z h = (search rules, to_z-of_z w64 z h)

int_back : (n : ℕ) → n < 2 ^ 64 → FitsSigned w64 (cast_signed w64 n) × (cast_unsigned w64 (cast_signed w64 n) ≡ n)
int_back n h = (search rules, of_z-to_z w64 n h)

abbrev int_text : ℤ → List ℕ
int_text z = to_be_bytes w64 (cast_unsigned w64 z)

int_format : IsFormat read.int_at int_text (FitsSigned w64)
unfolding read.int_at
int_format = made_format (cast_signed w64) (cast_unsigned w64) _ _ _ _ int_there int_back number64

abbrev IsText : List ℕ → Type 0
IsText t = (length t ≤ 1024) × (is_utf8 t ≡ true)

text_format : IsFormat (when_at (λ t. leb (length t) 1024) read.text_at) text_text IsText
unfolding read.text_at
text_format =
    refit _ _ _ IsText
    (λ t h. (leb-true (length t) 1024 h.1, h.0.1))
    (λ t h. (let le = h.0 in (((omega arith, and_true _ _ (le-leb 0 (length t) (omega arith)) (le-leb (length t) 1024 le)), h.1), le-leb (length t) 1024 le)))
    (when_format (λ t. leb (length t) 1024) _ _ _ (when_format is_utf8 _ _ _ (string_format _ _ _ (when_format (is_between 0 1024) _ _ _ number16))))

-- ---- scalars: a tag, and what follows it

abbrev Spelled : List ℕ → Scalar × List ℕ → Type 0
Spelled bytes x = Takes bytes (scalar_text x.0) x.1 × IsScalar x.0

after_tag : (bytes rest : List ℕ) (t : ℕ) (text after : List ℕ) → Takes bytes (t ∷ []) rest → Takes rest text after → Takes bytes (t ∷ text) after
after_tag bytes rest t text after p q = Takes-then bytes (t ∷ []) rest text after p q

abbrev from_four : ℕ → List ℕ → Result (Scalar × List ℕ) Fault
from_four t rest = cond (eqb t 4) (read.text_scalar_at rest) (Err Bad)

abbrev from_three : ℕ → List ℕ → Result (Scalar × List ℕ) Fault
from_three t rest = cond (eqb t 3) (made_at int_scalar read.int_at rest) (from_four t rest)

abbrev from_two : ℕ → List ℕ → Result (Scalar × List ℕ) Fault
from_two t rest = cond (eqb t 2) (Ok (Truth true, rest)) (from_three t rest)

abbrev from_one : ℕ → List ℕ → Result (Scalar × List ℕ) Fault
from_one t rest = cond (eqb t 1) (Ok (Truth false, rest)) (from_two t rest)

-- a tag that stands for the whole scalar
plain : (bytes rest : List ℕ) (t k : ℕ) (v : Scalar) (x : Scalar × List ℕ) → Takes bytes (t ∷ []) rest → eqb t k ≡ true → scalar_text v ≡ k ∷ [] → IsScalar v → done (v, rest) ≡ Ok x → Spelled bytes x
plain bytes rest t k v x p e text fits is =
    let t-is : t ≡ k = eqb-true t k e in
    subst (Spelled bytes) (ok_is (v, rest) x is) (rw text (subst (λ (n : ℕ). Takes bytes (n ∷ []) rest) t-is p), fits)

int_takes : (bytes rest : List ℕ) (t : ℕ) (x : Scalar × List ℕ) → Takes bytes (t ∷ []) rest → eqb t 3 ≡ true → made_at int_scalar read.int_at rest ≡ Ok x → Spelled bytes x
int_takes bytes rest t x p e is =
    let a = bind_ok (read.int_at rest) (λ z. Ok (int_scalar z.0, z.1)) x is in
    let got = int_format.takes rest a.0 p.rest_fits a.1 in
    let tag : Takes bytes (3 ∷ []) rest = subst (λ (n : ℕ). Takes bytes (n ∷ []) rest) (eqb-true t 3 e) p in
    subst (Spelled bytes) (ok_is (int_scalar a.0.0, a.0.1) x a.2) (after_tag bytes rest 3 _ a.0.1 tag got.0, got.1)

text_takes : (bytes rest : List ℕ) (t : ℕ) (x : Scalar × List ℕ) → Takes bytes (t ∷ []) rest → eqb t 4 ≡ true → read.text_scalar_at rest ≡ Ok x → Spelled bytes x
unfolding read.text_scalar_at
text_takes bytes rest t x p e is =
    let a = bind_ok (when_at (λ t. leb (length t) 1024) read.text_at rest) (λ z. Ok (text_scalar z.0, z.1)) x is in
    let got = text_format.takes rest a.0 p.rest_fits a.1 in
    let tag : Takes bytes (4 ∷ []) rest = subst (λ (n : ℕ). Takes bytes (n ∷ []) rest) (eqb-true t 4 e) p in
    subst (Spelled bytes) (ok_is (text_scalar a.0.0, a.0.1) x a.2) (after_tag bytes rest 4 _ a.0.1 tag got.0, got.1)

scalar_takes : (bytes : List ℕ) (x : Scalar × List ℕ) → IsBytes bytes → read.scalar_at bytes ≡ Ok x → Spelled bytes x
unfolding read.scalar_at
scalar_takes bytes x fits e =
    let a = bind_ok (byte_at bytes) (λ t. tagged_at t.0 t.1) x e in
    let t = a.0.0 in
    let rest = a.0.1 in
    let tag = (byte_format.takes bytes a.0 fits a.1).0 in
    elim (chosen (eqb t 0) (Ok (Null, rest)) (from_one t rest) (Ok x) a.2) [
      | inl h ↦ plain bytes rest t 0 Null x tag h.0 refl tt h.1
      | inr n0 ↦ elim (chosen (eqb t 1) (Ok (Truth false, rest)) (from_two t rest) (Ok x) n0.1) [
        | inl h ↦ plain bytes rest t 1 (Truth false) x tag h.0 refl tt h.1
        | inr n1 ↦ elim (chosen (eqb t 2) (Ok (Truth true, rest)) (from_three t rest) (Ok x) n1.1) [
          | inl h ↦ plain bytes rest t 2 (Truth true) x tag h.0 refl tt h.1
          | inr n2 ↦ elim (chosen (eqb t 3) (made_at int_scalar read.int_at rest) (from_four t rest) (Ok x) n2.1) [
            | inl h ↦ int_takes bytes rest t x tag h.0 h.1
            | inr n3 ↦ elim (chosen (eqb t 4) (read.text_scalar_at rest) (Err Bad) (Ok x) n3.1) [
              | inl h ↦ text_takes bytes rest t x tag h.0 h.1
              | inr n4 ↦ absurd (let bad : failed Bad ≡ Ok x = n4.1 in cc)
            ]
          ]
        ]
      ]
    ]

scalar_again : (v : Scalar) (rest : List ℕ) → IsScalar v → read.scalar_at (scalar_text v ++ rest) ≡ Ok (v, rest)
unfolding read.scalar_at read.text_scalar_at
scalar_again Null rest fits = refl
scalar_again (Truth false) rest fits = refl
scalar_again (Truth true) rest fits = refl
scalar_again (Int z) rest fits = rw (int_format.again z rest fits) refl
scalar_again (Text t) rest fits = let e = text_format.again t rest fits in ap (λ r. read.◌>>=◌ r (λ z. Ok (text_scalar z.0, z.1))) e

scalar_faults : (bytes : List ℕ) (e : Fault) → IsBytes bytes → read.scalar_at bytes ≡ Err e → CutOrBad e
unfolding read.scalar_at read.text_scalar_at
scalar_faults bytes e fits h =
    elim (bind_err (byte_at bytes) (λ t. tagged_at t.0 t.1) e h) [
      | inl first ↦ byte_format.faults bytes e fits first
      | inr a ↦
          let t = a.0.0 in
          let rest = a.0.1 in
          let rest_fits = (byte_format.takes bytes a.0 fits a.1).0.rest_fits in
          elim (chosen (eqb t 0) (Ok (Null, rest)) (from_one t rest) (Err e) a.2) [
            | inl h0 ↦ absurd (let bad : done (Null, rest) ≡ Err e = h0.1 in cc)
            | inr n0 ↦ elim (chosen (eqb t 1) (Ok (Truth false, rest)) (from_two t rest) (Err e) n0.1) [
              | inl h1 ↦ absurd (let bad : done (Truth false, rest) ≡ Err e = h1.1 in cc)
              | inr n1 ↦ elim (chosen (eqb t 2) (Ok (Truth true, rest)) (from_three t rest) (Err e) n1.1) [
                | inl h2 ↦ absurd (let bad : done (Truth true, rest) ≡ Err e = h2.1 in cc)
                | inr n2 ↦ elim (chosen (eqb t 3) (made_at int_scalar read.int_at rest) (from_four t rest) (Err e) n2.1) [
                  | inl h3 ↦ elim (bind_err (read.int_at rest) (λ z. Ok (int_scalar z.0, z.1)) e h3.1) [
                    | inl f ↦ int_format.faults rest e rest_fits f
                    | inr z ↦ absurd (let bad : done (int_scalar z.0.0, z.0.1) ≡ Err e = z.2 in cc)
                  ]
                  | inr n3 ↦ elim (chosen (eqb t 4) (read.text_scalar_at rest) (Err Bad) (Err e) n3.1) [
                    | inl h4 ↦ elim (bind_err (when_at (λ t. leb (length t) 1024) read.text_at rest) (λ z. Ok (text_scalar z.0, z.1)) e h4.1) [
                      | inl f ↦ text_format.faults rest e rest_fits f
                      | inr z ↦ absurd (let bad : done (text_scalar z.0.0, z.0.1) ≡ Err e = z.2 in cc)
                    ]
                    | inr n4 ↦ inr (sym (err_is {A = Scalar × List ℕ} Bad e n4.1))
                  ]
                ]
              ]
            ]
          ]
    ]

scalar_format : IsFormat read.scalar_at scalar_text IsScalar
scalar_format = record { takes = scalar_takes; again = scalar_again; faults = scalar_faults }

-- ---- paths and entries, for a format of their keys

abbrev pub IsPath : List (List ℕ) → Type 0
IsPath keys = (is_between 1 8 (length keys) ≡ true) × (list_all is_key_text keys ≡ true)

abbrev AreParts : EntryTuple → Type 0
AreParts p = IsPath p.0 × (Unit {0} × IsScalar p.1.1)

entry_there : (e : Entry) → IsEntry e → AreParts (tuple_of e) × (entry_of_tuple (tuple_of e) ≡ Some e)
entry_there e is = (((and_true _ _ (le-leb 1 (length e.path) e.below_root) (le-leb (length e.path) 8 e.within), is.0), (tt, is.1)), entry_of_parts _ _ _ e (record { at = refl; stands = refl; holds = refl }))

parts_where : (p : EntryTuple) (some few : Bool) (a : leb 1 (length p.0) ≡ some) (b : leb (length p.0) 8 ≡ few) (e : Entry) → entry_where p.0 p.1.0 p.1.1 some few a b ≡ Some e → tuple_of e ≡ p
parts_where p true true a b e is =
    let made : Entry = record { path = p.0; kind = p.1.0; value = p.1.1; below_root = leb-true 1 (length p.0) a; within = leb-true (length p.0) 8 b } in
    let some : ◌≡◌ {A = Option Entry} (Some made) (Some e) = is in
    let same : made ≡ e = ap (λ (o : Option Entry). or_made made o) some in
    ap tuple_of (sym same)
  where
    or_made : Entry → Option Entry → Entry
    or_made m None = m
    or_made m (Some x) = x
parts_where p true false a b e is = absurd cc
parts_where p false few a b e is = absurd cc

entry_back : (p : EntryTuple) (e : Entry) → AreParts p → entry_of_tuple p ≡ Some e → IsEntry e × (tuple_of e ≡ p)
entry_back p e h is =
    let same = parts_where p _ _ refl refl e is in
    ((ap (λ (q : EntryTuple). list_all is_key_text q.0) same ∙ h.0.1, subst (λ (q : EntryTuple). IsScalar q.1.1) (sym same) h.1.1), same)

all_texts : (IsKey : List ℕ → Type 0) → ((k : List ℕ) → IsKey k → IsKeyText k) → (keys : List (List ℕ)) → AllByRecursion IsKey keys → list_all is_key_text keys ≡ true
all_texts IsKey texts [] h = refl
all_texts IsKey texts (k ∷ keys) h = and_true _ _ (texts k h.0) (all_texts IsKey texts keys h.1)

-- a key is such a one, whatever stands before it
abbrev IsKeyAfter : (List ℕ → Type 0) → List (List ℕ) → List ℕ → Type 0
IsKeyAfter IsKey before k = IsKey k

each_of : (IsKey : List ℕ → Type 0) (before keys : List (List ℕ)) → AllAfter (IsKeyAfter IsKey) before keys → AllByRecursion IsKey keys
each_of IsKey before [] h = tt
each_of IsKey before (k ∷ keys) h = (h.0, each_of IsKey (before ++ k ∷ []) keys h.1)

of_each : (IsKey : List ℕ → Type 0) (before keys : List (List ℕ)) → AllByRecursion IsKey keys → AllAfter (IsKeyAfter IsKey) before keys
of_each IsKey before [] h = tt
of_each IsKey before (k ∷ keys) h = (h.0, of_each IsKey (before ++ k ∷ []) keys h.1)

abbrev pub IsEntryOf : (List ℕ → Type 0) → Entry → Type 0
IsEntryOf IsKey e = IsEntry e × AllByRecursion IsKey e.path

abbrev ArePartsOf : (List ℕ → Type 0) → EntryTuple → Type 0
ArePartsOf IsKey p = (IsPath p.0 × AllByRecursion IsKey p.0) × (Unit {0} × IsScalar p.1.1)

entry_of_there : (IsKey : List ℕ → Type 0) (e : Entry) → IsEntryOf IsKey e → ArePartsOf IsKey (tuple_of e) × (entry_of_tuple (tuple_of e) ≡ Some e)
entry_of_there IsKey e is = (let t = entry_there e is.0 in (((t.0.0, is.1), t.0.1), t.1))

entry_of_back : (IsKey : List ℕ → Type 0) (p : EntryTuple) (e : Entry) → ArePartsOf IsKey p → entry_of_tuple p ≡ Some e → IsEntryOf IsKey e × (tuple_of e ≡ p)
entry_of_back IsKey p e h is = (let b = entry_back p e (h.0.0, h.1) is in ((b.0, subst (λ (q : EntryTuple). AllByRecursion IsKey q.0) (sym b.1) h.0.1), b.1))

module _ (key : Reader (List ℕ)) (key_text : List ℕ → List ℕ) (IsKey : List ℕ → Type 0) (are_texts : (k : List ℕ) → IsKey k → IsKeyText k) (key_is : IsFormat key key_text IsKey) where
  path_format : IsFormat (read.keyed_path_at key) (keyed_path_text key_text) (λ keys. IsPath keys × AllByRecursion IsKey keys)
  unfolding read.keyed_path_at
  path_format =
      refit _ _ _ (λ keys. IsPath keys × AllByRecursion IsKey keys)
      (λ keys h. (let each = each_of IsKey [] keys h.0.1 in ((h.0.0.1, all_texts IsKey are_texts keys each), each)))
      (λ keys h. (let few = and_right (leb 1 (length keys)) _ h.0.0 in let le = leb-true (length keys) 8 few in (((omega arith, h.0.0), of_each IsKey [] keys h.1), few)))
      (when_format (λ keys. leb (length keys) 8) _ _ _ (list_format _ _ (IsKeyAfter IsKey) (λ _. key_is) _ _ _ (when_format (is_between 1 8) _ _ _ byte_format)))

  pub entry_format : IsFormat (read.keyed_entry_at key) (keyed_entry_text key_text) (IsEntryOf IsKey)
  unfolding read.keyed_entry_at
  entry_format =
      drawn_format entry_of_tuple tuple_of _ _ _ (IsEntryOf IsKey) (entry_of_there IsKey) (entry_of_back IsKey)
      (pair_format _ _ _ _ _ _ path_format (pair_format _ _ _ _ _ _ kind_format scalar_format))

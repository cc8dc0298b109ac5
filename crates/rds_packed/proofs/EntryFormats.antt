-- Entries are a format, for each format of their keys.
use Rattle.std.proofs.Common.{◌≡◌, ℕ, ◌+◌, ◌-◌, ◌*◌, ◌/◌, ◌%◌, ◌<◌, ◌≤◌, Bool, true, false, cond, eqb, leb, ltb, List, [], ◌∷◌, ◌++◌, length, Option, Some, None, pos, negsuc, refl, sym, ap, subst, ◌∙◌, arith}
use Rattle.std.specs.List.{flat_map, list_all, AllByRecursion}
use Rattle.std.proofs.lemmas.Bool.{leb-true, le-leb, lt-ltb}
use Rattle.std.proofs.lemmas.Bool.Decides.{nat_tests}
use Rattle.rds_names.specs.Conditions.{and_true}
use Rattle.rds_names.specs.Entry.{entry_where}
use Rattle.rds_names.specs.declared.entry.Entry.{Entry}
use Rattle.rds_names.specs.declared.entry.Kind.{Kind}
use Rattle.rds_names.specs.declared.entry.Kind.TheVariants.{Reg, Elem}
use Rattle.rds_names.specs.declared.scalar.Scalar.{Scalar}
use Rattle.rds_names.specs.declared.scalar.Scalar.TheVariants.{Null, Bool as Truth, Int, Text}
use Rattle.rds_names.proofs.Entries.{entry_of_parts}
use Rattle.rds_bytes.specs.declared.packed.TheConstants.{MAX_PACKED}
use Rattle.rds_bytes.specs.Entries.{EntryTuple, tuple_of, entry_of_tuple}
use Rattle.rds_bytes.specs.OneText.{HasOneText}
use Rattle.rds_bytes.specs.Packed.{packed_at, packed_text, HasPackedText}
use Rattle.rds_bytes.specs.Reading.{Reader, pair_at, byte_at}
use Rattle.rds_bytes.specs.Spelling.{byte_text}
use Rattle.rds_bytes.specs.Values.{is_key_text, IsKeyText, IsScalar, IsEntry}
use Rattle.rds_bytes.proofs.Format.{IsFormat, byte_format, then_format, pair_format, drawn_format, when_format, refit}
use Rattle.rds_bytes.proofs.Lists.{AllAfter, list_format}
use Rattle.rds_packed.specs.PackedReading as read
use Rattle.rds_packed.specs.PackedReading.{EntryParts, entry_of_head, head_keys, head_kind, head_tag, payload_at}
use Rattle.rds_packed.specs.PackedTexts.{value_tag, payload_text, kind_bit, entry_head, packed_entry_text}
use Rattle.rds_packed.proofs.Combined.{given_format}
use Rattle.rds_packed.proofs.ValueFormats.{Tagged, payload_format}

-- ---- heads

abbrev IsHead : ℕ → Type 0
IsHead h = (h < 256) × (ltb h 112 ≡ true)

head_format : IsFormat read.head_at byte_text IsHead
unfolding read.head_at
head_format = when_format (λ b. ltb b 112) byte_at byte_text (λ b. b < 256) byte_format

small_tag : (tag n : ℕ) (b : Bool) → tag ≤ 6 → cond b tag 6 ≤ 6
small_tag tag n true h = h
small_tag tag n false h = omega arith

pub tag_most : (v : Scalar) → value_tag v ≤ 6
tag_most Null = omega arith
tag_most (Truth true) = omega arith
tag_most (Truth false) = omega arith
tag_most (Text t) = omega arith
tag_most (Int (pos n)) = small_tag 4 n (leb n MAX_PACKED) (omega arith)
tag_most (Int (negsuc n)) = small_tag 5 n (leb n MAX_PACKED) (omega arith)

pub bit_most : (k : Kind) → kind_bit k ≤ 1
bit_most Reg = omega arith
bit_most Elem = omega arith

-- what a head is made of is found in it again
keys_of_head : (k b t : ℕ) → k < 8 → b ≤ 1 → (k + 8 * b + 16 * t) % 8 ≡ k
keys_of_head k b t p q = omega (arith, p, q)

bit_of_head : (k b t : ℕ) → k < 8 → b ≤ 1 → ((k + 8 * b + 16 * t) / 8) % 2 ≡ b
bit_of_head k b t p q = omega (arith, p, q)

tag_of_head : (k b t : ℕ) → k < 8 → b ≤ 1 → (k + 8 * b + 16 * t) / 16 ≡ t
tag_of_head k b t p q = omega (arith, p, q)

whole_head : (h : ℕ) → (h % 8) + 8 * ((h / 8) % 2) + 16 * (h / 16) ≡ h
whole_head h = omega arith

kind_there : (k : Kind) → cond (eqb (kind_bit k) 0) Reg Elem ≡ k
kind_there Reg = refl
kind_there Elem = refl

bit_back : (n : ℕ) (b : Bool) → n < 2 → eqb n 0 ≡ b → kind_bit (cond b Reg Elem) ≡ n
bit_back n true lt e = grind (arith, nat_tests)
bit_back n false lt e = grind (arith, nat_tests)

-- ---- keys

abbrev IsKeyAfter : (List ℕ → Type 0) → List (List ℕ) → List ℕ → Type 0
IsKeyAfter IsKey before k = IsKey k

each_of : (IsKey : List ℕ → Type 0) (before keys : List (List ℕ)) → AllAfter (IsKeyAfter IsKey) before keys → AllByRecursion IsKey keys
each_of IsKey before [] h = tt
each_of IsKey before (k ∷ keys) h = (h.0, each_of IsKey (before ++ k ∷ []) keys h.1)

of_each : (IsKey : List ℕ → Type 0) (before keys : List (List ℕ)) → AllByRecursion IsKey keys → AllAfter (IsKeyAfter IsKey) before keys
of_each IsKey before [] h = tt
of_each IsKey before (k ∷ keys) h = (h.0, of_each IsKey (before ++ k ∷ []) keys h.1)

all_texts : (IsKey : List ℕ → Type 0) → ((k : List ℕ) → IsKey k → IsKeyText k) → (keys : List (List ℕ)) → AllByRecursion IsKey keys → list_all is_key_text keys ≡ true
all_texts IsKey texts [] h = refl
all_texts IsKey texts (k ∷ keys) h = and_true _ _ (texts k h.0) (all_texts IsKey texts keys h.1)

-- ---- the entry of its parts

parts_where : (p : EntryTuple) (some few : Bool) (a : leb 1 (length p.0) ≡ some) (b : leb (length p.0) 8 ≡ few) (e : Entry) → entry_where p.0 p.1.0 p.1.1 some few a b ≡ Some e → tuple_of e ≡ p
parts_where p true true a b e is =
    let made : Entry = record { path = p.0; kind = p.1.0; value = p.1.1; below_root = leb-true 1 (length p.0) a; within = leb-true (length p.0) 8 b } in
    let some : ◌≡◌ {A = Option Entry} (Some made) (Some e) = is in
    let same : made ≡ e = ap (λ (o : Option Entry). or_made made o) some in
    ap tuple_of (sym same)
  where
    or_made : Entry → Option Entry → Entry
    or_made m None = m
    or_made m (Some x) = x
parts_where p true false a b e is = absurd cc
parts_where p false few a b e is = absurd cc

abbrev parts_of : Entry → EntryParts
parts_of e = (entry_head e, (e.path, e.value))

module _ (IsKey : List ℕ → Type 0) (are_texts : (k : List ℕ) → IsKey k → IsKeyText k) where
  abbrev AreParts : EntryParts → Type 0
  AreParts p = IsHead p.0 × (((length p.1.0 ≡ head_keys p.0) × AllByRecursion IsKey p.1.0) × Tagged (head_tag p.0) p.1.1)

  abbrev pub IsEntryOf : Entry → Type 0
  IsEntryOf e = IsEntry e × AllByRecursion IsKey e.path

  parts_there : (e : Entry) → IsEntryOf e → AreParts (parts_of e) × (entry_of_head (parts_of e) ≡ Some e)
  parts_there e h =
      let some = e.below_root in
      let few = e.within in
      let k : ℕ = length e.path - 1 in
      let b : ℕ = kind_bit e.kind in
      let t : ℕ = value_tag e.value in
      let k_most : k < 8 = omega arith in
      let b_most : b ≤ 1 = bit_most e.kind in
      let t_most : t ≤ 6 = tag_most e.value in
      let below : k + 8 * b + 16 * t < 112 = omega (arith, k_most, b_most, t_most) in
      let keys = keys_of_head k b t k_most b_most in
      let count : length e.path ≡ (k + 8 * b + 16 * t) % 8 + 1 = omega (arith, keys) in
      let kind : head_kind (entry_head e) ≡ e.kind = ap (λ (n : ℕ). cond (eqb n 0) Reg Elem) (bit_of_head k b t k_most b_most) ∙ kind_there e.kind in (
        ((omega (arith, below), lt-ltb _ 112 below), ((count, h.1), (sym (tag_of_head k b t k_most b_most), h.0.1))),
        ap (λ (x : Kind). entry_of_tuple (e.path, (x, e.value))) kind ∙ entry_of_parts _ _ _ e (record { at = refl; stands = refl; holds = refl }),
      )

  parts_back : (p : EntryParts) (e : Entry) → AreParts p → entry_of_head p ≡ Some e → IsEntryOf e × (parts_of e ≡ p)
  parts_back p e h is =
      let h0 = p.0 in
      let same : tuple_of e ≡ (p.1.0, (head_kind p.0, p.1.1)) = parts_where (p.1.0, (head_kind p.0, p.1.1)) _ _ refl refl e is in
      let path : e.path ≡ p.1.0 = ap (λ (q : EntryTuple). q.0) same in
      let kind : e.kind ≡ head_kind p.0 = ap (λ (q : EntryTuple). q.1.0) same in
      let value : e.value ≡ p.1.1 = ap (λ (q : EntryTuple). q.1.1) same in
      let texts = all_texts IsKey are_texts p.1.0 h.1.0.1 in
      let keys : length p.1.0 - 1 ≡ h0 % 8 = let count = h.1.0.0 in omega (arith, count) in
      let bit : kind_bit (head_kind h0) ≡ (h0 / 8) % 2 = bit_back ((h0 / 8) % 2) (eqb ((h0 / 8) % 2) 0) (omega arith) refl in
      let head : entry_head e ≡ h0 =
      (λ i. (length (path i) - 1) + 8 * kind_bit (kind i) + 16 * value_tag (value i)) ∙ (λ i. keys i + 8 * bit i + 16 * h.1.1.0 i) ∙ whole_head h0 in (
        (
          (ap (λ (ks : List (List ℕ)). list_all is_key_text ks) path ∙ texts, subst IsScalar (sym value) h.1.1.1),
          subst (AllByRecursion IsKey) (sym path) h.1.0.1,
        ),
        λ i. (head i, (path i, value i)),
      )

  module _ (one : HasOneText packed_at packed_text HasPackedText) (key : Reader (List ℕ)) (key_text : List ℕ → List ℕ) (key_is : IsFormat key key_text IsKey) where
    abbrev AreKeys : ℕ → List (List ℕ) → Type 0
    AreKeys count keys = (length keys ≡ count) × AllByRecursion IsKey keys

    path_format : (count : ℕ) → count ≤ 8 → IsFormat (read.packed_path_at key count) (flat_map key_text) (AreKeys count)
    unfolding read.packed_path_at
    path_format count most =
        refit _ _ _ (AreKeys count)
        (λ keys h. (h.0.0, each_of IsKey [] keys h.0.1))
        (λ keys h. (let long = h.0 in ((h.0, of_each IsKey [] keys h.1), le-leb (length keys) 8 (omega (arith, long)))))
        (when_format (λ keys. leb (length keys) 8) _ _ _ (list_format _ _ (IsKeyAfter IsKey) (λ _. key_is) _ _ _ (given_format count)))

    few_keys : (h : ℕ) → head_keys h ≤ 8
    few_keys h = omega arith

    pub entry_format : IsFormat (read.packed_entry_at key) (packed_entry_text key_text) IsEntryOf
    unfolding read.packed_entry_at
    entry_format =
        drawn_format entry_of_head parts_of _ _ AreParts IsEntryOf parts_there parts_back
        (then_format read.head_at (λ head. pair_at (read.packed_path_at key (head_keys head)) (payload_at (head_tag head))) byte_text (λ _ p. flat_map key_text p.0 ++ payload_text p.1) IsHead
        (λ head p. AreKeys (head_keys head) p.0 × Tagged (head_tag head) p.1) head_format
        (λ head _. pair_format _ _ _ _ _ _ (path_format (head_keys head) (few_keys head)) (payload_format one (head_tag head))))

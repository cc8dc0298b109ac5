-- The numbers that reading gives: unsigned ones fit 64 bits, and negative ones are below zero and fit 64 bits with
-- their sign.
use Rattle.std.proofs.Common.{◌≡◌, ◌<◌, ◌≤◌, ◌^◌, ◌&&◌, ℕ, zero, suc, Bool, true, false, cond, ltb, leb, List, pos, negsuc, neg_ℤ, Float, Option, Some, None, refl, sym, subst, arith}
use Rattle.std.specs.Prelude.{⊤, ◌==◌, drop, option_map, option_and_then, slice_index}
use Rattle.std.proofs.lemmas.Bool.{ltb-true, leb-true}
use Rattle.std.specs.Float.{binary64, float_is_finite}
use Rattle.std.specs.Float.Numeral.{Parts, minus, nearest_float, numeral_digits, scan_numeral}
use Rattle.json.specs.Json as json
use Rattle.json.specs.Lex.{tokens}
use Rattle.serde_json.specs.Data.{Num, unsigned, negative, float, Data, null, boolean, number, string, array, object, Items, no_items, item}
use Rattle.serde_json.specs.Read.{read, of_json, of_items, of_members, float_of, is_integer, max_depth, number_of, number_from}
use Rattle.serde_json.specs.Data.{no_members}
use Rattle.rds_names.specs.Conditions.{and_left, and_right}
use Rattle.rds_json.proofs.Outcomes.{none_is, some_is}

abbrev pub IsProperNumber : Num → Type 0
IsProperNumber (unsigned n) = n < 2 ^ 64
IsProperNumber (negative (pos n)) = ⊥
IsProperNumber (negative (negsuc n)) = n < 2 ^ 63
IsProperNumber (float x) = ⊤

abbrev pub IsProper : Data → Type 0
IsProper (number n) = IsProperNumber n
IsProper _ = ⊤

abbrev pub AreProper : Items → Type 0
AreProper no_items = ⊤
AreProper (item d ds) = IsProper d × AreProper ds

abbrev pub HasProper : Data → Type 0
HasProper (array ds) = AreProper ds
HasProper _ = ⊤

mapped : {X Y : Type 0} (o : Option X) (f : X → Y) (y : Y) → option_map f o ≡ Some y → (x : X) × (o ≡ Some x) × (f x ≡ y)
mapped (Some x) f y h = (x, refl, some_is (f x) y h)
mapped None f y h = none_is y h

followed : {X Y : Type 0} (o : Option X) (f : X → Option Y) (y : Y) → option_and_then f o ≡ Some y → (x : X) × (o ≡ Some x) × (f x ≡ Some y)
followed (Some x) f y h = (x, refl, h)
followed None f y h = none_is y h

either : {P : Type 0} (b : Bool) (x y : Option Num) (n : Num) → (x ≡ Some n → P) → (y ≡ Some n → P) → cond b x y ≡ Some n → P
either true x y n f g h = f h
either false x y n f g h = g h

a_float : (b : Bool) (x : Float) (n : Num) → cond b (Some (float x)) None ≡ Some n → IsProperNumber n
a_float true x n h = subst IsProperNumber (some_is (float x) n h) tt
a_float false x n h = none_is n h

unsigned_or : (whole : Bool) (k : ℕ) (other : Option Num) (n : Num) → (other ≡ Some n → IsProperNumber n)
    → cond (whole && ltb k (2 ^ 64)) (Some (unsigned k)) other ≡ Some n → IsProperNumber n
unsigned_or whole k other n f h = by_test (whole && ltb k (2 ^ 64)) refl h
  where
    by_test : (b : Bool) → b ≡ (whole && ltb k (2 ^ 64)) → cond b (Some (unsigned k)) other ≡ Some n → IsProperNumber n
    by_test true is h = subst IsProperNumber (some_is (unsigned k) n h) (ltb-true k (2 ^ 64) (and_right whole _ (sym is)))
    by_test false is h = f h

below_zero : (k : ℕ) → 0 < k → k ≤ 2 ^ 63 → IsProperNumber (negative (neg_ℤ (pos k)))
below_zero zero h fits = absurd (omega arith)
below_zero (suc k) h fits = let small : k < 2 ^ 63 = omega arith in small

negative_or : (whole : Bool) (k : ℕ) (other : Option Num) (n : Num) → (other ≡ Some n → IsProperNumber n)
    → cond ((whole && ltb 0 k) && leb k (2 ^ 63)) (Some (negative (neg_ℤ (pos k)))) other ≡ Some n → IsProperNumber n
negative_or whole k other n f h = by_test ((whole && ltb 0 k) && leb k (2 ^ 63)) refl h
  where
    by_test : (b : Bool) → b ≡ ((whole && ltb 0 k) && leb k (2 ^ 63)) → cond b (Some (negative (neg_ℤ (pos k)))) other ≡ Some n → IsProperNumber n
    by_test true is h =
        subst IsProperNumber (some_is (negative (neg_ℤ (pos k))) n h)
        (below_zero k (ltb-true 0 k (and_right whole _ (and_left (whole && ltb 0 k) _ (sym is)))) (leb-true k (2 ^ 63) (and_right (whole && ltb 0 k) _ (sym is))))
    by_test false is h = f h

float_proper : (sign : Bool) (p : Parts) (n : Num) → float_of sign p ≡ Some n → IsProperNumber n
float_proper sign p n h = a_float (float_is_finite (nearest_float binary64 sign p)) (nearest_float binary64 sign p) n h

from_proper : (sign : Bool) (p : Parts) (n : Num) → number_from sign p ≡ Some n → IsProperNumber n
from_proper false p n h = unsigned_or (is_integer p) (numeral_digits p) (float_of false p) n (float_proper false p n) h
from_proper true p n h = negative_or (is_integer p) (numeral_digits p) (float_of true p) n (float_proper true p n) h

number_proper : (s : List ℕ) (n : Num) → number_of s ≡ Some n → IsProperNumber n
unfolding number_of
number_proper s n h =
    let after = scan_numeral (drop 1 s) in
    either (slice_index s 0 == minus) (number_from true after) (number_from false (scan_numeral s)) n (from_proper true after n) (from_proper false (scan_numeral s) n) h

json_proper : (j : json.Json) (d : Data) → of_json j ≡ Some d → IsProper d
json_proper json.null d h = subst IsProper (some_is null d h) tt
json_proper (json.boolean b) d h = subst IsProper (some_is (boolean b) d h) tt
json_proper (json.number s) d h = let m = mapped (number_of s) number d h in subst IsProper m.2 (number_proper s m.0 m.1)
json_proper (json.string s) d h = subst IsProper (some_is (string s) d h) tt
json_proper (json.array js) d h = let m = mapped (of_items js) array d h in subst IsProper m.2 tt
json_proper (json.object ms) d h = let m = mapped (of_members ms no_members) object d h in subst IsProper m.2 tt

items_proper : (js : json.Items) (ds : Items) → of_items js ≡ Some ds → AreProper ds
items_proper json.no_items ds h = subst AreProper (some_is no_items ds h) tt
items_proper (json.item j js) ds h =
    let first = followed (of_json j) (λ d. option_map (item d) (of_items js)) ds h in
    let rest = mapped (of_items js) (item first.0) ds first.2 in
    subst AreProper rest.2 (json_proper j first.0 first.1, items_proper js rest.0 rest.1)

value_proper : (j : json.Json) (d : Data) → of_json j ≡ Some d → HasProper d
value_proper json.null d h = subst HasProper (some_is null d h) tt
value_proper (json.boolean b) d h = subst HasProper (some_is (boolean b) d h) tt
value_proper (json.number s) d h = let m = mapped (number_of s) number d h in subst HasProper m.2 tt
value_proper (json.string s) d h = subst HasProper (some_is (string s) d h) tt
value_proper (json.array js) d h = let m = mapped (of_items js) array d h in subst HasProper m.2 (items_proper js m.0 m.1)
value_proper (json.object ms) d h = let m = mapped (of_members ms no_members) object d h in subst HasProper m.2 tt

pub read_proper : (text : List ℕ) (d : Data) → read text ≡ Some d → HasProper d
read_proper text d h =
    let r = followed (option_and_then (λ p. json.if_last p.0 p.1) (json.value max_depth (tokens text))) of_json d h in
    value_proper r.0 d r.2

-- What a call answered that answered a value.
use Rattle.std.proofs.Common.{◌≡◌, ℕ, Bool, true, false, cond, eqb, Option, Some, None, Result, Ok, Err, refl, ap}
use Rattle.std.proofs.lemmas.Bool.{eqb-true}
use Rattle.serde_json.specs.Data.{Data}
use Rattle.rds_names.specs.declared.fault.Fault.{Fault}
use Rattle.rds_names.specs.declared.fault.Fault.TheVariants.{BadLine}
use Rattle.rds_names.specs.AndThen.{◌>>=◌}
use Rattle.rds_json.specs.Members.{member_count, of_one, of_three, of_two}
use Rattle.rds_json.specs.Parts.{of_count}

abbrev value_or : {X : Type 0} → X → Result X Fault → X
value_or x (Ok y) = y
value_or x (Err e) = x

pub ok_is : {X : Type 0} (x y : X) → (◌≡◌ {A = Result X Fault} (Ok x) (Ok y)) → x ≡ y
ok_is x y h = ap (value_or x) h

pub no_value : {X P : Type 0} (e : Fault) (x : X) → (◌≡◌ {A = Result X Fault} (Err e) (Ok x)) → P
no_value e x h = absurd cc

pub some_is : {X : Type 0} (x y : X) → Some x ≡ Some y → x ≡ y
some_is x y h = cc

pub none_is : {X P : Type 0} (x : X) → (◌≡◌ {A = Option X} None (Some x)) → P
none_is x h = absurd cc

pub bound : {X Y : Type 0} (r : Result X Fault) (f : X → Result Y Fault) (y : Y) → (r >>= f) ≡ Ok y → (x : X) × (r ≡ Ok x) × (f x ≡ Ok y)
bound (Ok x) f y h = (x, refl, h)
bound (Err e) f y h = no_value e y h

-- a test that had to pass
pub passed : {X : Type 0} (b : Bool) (r : Result X Fault) (e : Fault) (x : X) → cond b r (Err e) ≡ Ok x → (b ≡ true) × (r ≡ Ok x)
passed true r e x h = (refl, h)
passed false r e x h = no_value e x h

pub counted : {X : Type 0} (n : ℕ) (d : Data) (said : Result X Fault) (x : X) → of_count n d said ≡ Ok x → (member_count d ≡ n) × (said ≡ Ok x)
counted n d said x h = let p = passed (eqb (member_count d) n) said BadLine x h in (eqb-true (member_count d) n p.0, p.1)

-- members that had to be there
pub there : {A X : Type 0} (said : A → Result X Fault) (o : Option A) (x : X) → of_one said o ≡ Ok x → (a : A) × (o ≡ Some a) × (said a ≡ Ok x)
there said (Some a) x h = (a, refl, h)
there said None x h = no_value BadLine x h

pub both : {A B X : Type 0} (said : A → B → Result X Fault) (o : Option A) (p : Option B) (x : X) → of_two said o p ≡ Ok x
    → (a : A) × (b : B) × (o ≡ Some a) × (p ≡ Some b) × (said a b ≡ Ok x)
both said (Some a) (Some b) x h = (a, b, refl, refl, h)
both said (Some a) None x h = no_value BadLine x h
both said None p x h = no_value BadLine x h

pub all_three : {A B C X : Type 0} (said : A → B → C → Result X Fault) (o : Option A) (p : Option B) (q : Option C) (x : X) → of_three said o p q ≡ Ok x
    → (a : A) × (b : B) × (c : C) × (o ≡ Some a) × (p ≡ Some b) × (q ≡ Some c) × (said a b c ≡ Ok x)
all_three said (Some a) (Some b) (Some c) x h = (a, b, c, refl, refl, refl, h)
all_three said (Some a) (Some b) None x h = no_value BadLine x h
all_three said (Some a) None q x h = no_value BadLine x h
all_three said None p q x h = no_value BadLine x h

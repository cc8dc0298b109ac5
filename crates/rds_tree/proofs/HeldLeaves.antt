-- Leaves, by their kind and value.
use Rattle.std.proofs.Common.{◌≡◌, ℕ, Bool, true, false, cond, not, ◌&&◌, ◌||◌, List, [], ◌∷◌, map, refl, sym, ◌∙◌, ap}
use Rattle.std.proofs.Common.{subst}
use Rattle.std.proofs.Math.Bool.{and-false, and-true, and_comm, or-false, or_assoc}
use Rattle.std.specs.Prelude.{ℤ, Option, Some, None, Result, Ok, Err, IfOk}
use Rattle.std.specs.List.{list_any}
use Rattle.std.specs.List.Sorted.{IsStrictlySortedBy}
use Rattle.std.specs.FinMap.{int_cmp-IsAntisymmetric}
use Rattle.std.specs.Cmp.{tied_itself}
use Rattle.std.proofs.lemmas.Cmp.{int_cmp_total}
use Rattle.std.specs.Ordering.{eq_by_cmp, is_eq, int_cmp, int_eq}
use Rattle.std.proofs.lemmas.Bool.Decides.{Decides-int_eq}
use Rattle.std.proofs.lemmas.List.Folds.{list_any-append}
use Rattle.std.proofs.lemmas.Map.Text.{is_eq-slice_cmp}
use Rattle.rds_names.specs.Conditions.{equal_of}
use Rattle.rds_names.specs.declared.entry.Entry.{Entry}
use Rattle.rds_names.specs.declared.entry.Kind.{Kind}
use Rattle.rds_names.specs.declared.entry.Kind.TheVariants.{Reg, Elem}
use Rattle.rds_names.specs.declared.scalar.Scalar.{Scalar}
use Rattle.rds_names.specs.declared.scalar.Scalar.TheVariants.{Null, Bool as Truth, Int, Text}
use Rattle.rds_names.specs.Orders.{scalar_cmp}
use Rattle.rds_dots.specs.declared.dot.Dot.{Dot}
use Rattle.rds_dots.specs.Dots.{dot_cmp}
use Rattle.rds_life.specs.Killed.{is_same}
use Rattle.rds_state.specs.Edit.{same_scalar}
use Rattle.rds_state.specs.declared.command.Command.{Command}
use Rattle.rds_state.specs.declared.command.Command.TheVariants.{Set, Add, Del}
use Rattle.rds_tree.specs.declared.dot_list.Which.TheVariants.{AllBut, One}
use Rattle.rds_tree.specs.declared.leaf.Leaf.{Leaf}
use Rattle.rds_tree.specs.Cuts.{among_leaves, covered_leaf, covering, is_leaf, IsLess}
use Rattle.rds_tree.specs.Gathered.{values_in}
use Rattle.rds_tree.specs.Held.{among_any, among_dots, among_held, any_held, at_value, leaves_in, leaves_of, means}
use Rattle.rds_tree.specs.Once.{once_is}
use Rattle.rds_tree.specs.Row.{is_filled, are_full, AddsLeaf}
use Rattle.rds_tree.specs.View.{is_that_kind, values_once}
use Rattle.rds_tree.proofs.Grouped.{none_held, over}
use Rattle.rds_tree.proofs.Kids.{flip_eq}
use Rattle.rds_tree.proofs.SameView.{any-filter_map, passes}
use Rattle.rds_names.proofs.Orders.{scalars_exact}
use Rattle.rds_tree.proofs.ScalarOrder.{scalars_total}
use Rattle.rds_tree.proofs.Witness.{both_ways}

abbrev Held : Type 0
Held = List (Scalar × List Dot)

abbrev pub leaf : Kind → Scalar → Dot → Leaf
leaf kind value dot = record { kind = kind; value = value; dot = dot }

any-map : {A B : Type 0} (t : B → Bool) (f : A → B) (xs : List A) → list_any t (map f xs) ≡ list_any (λ x. t (f x)) xs
any-map t f [] = refl
any-map t f (x ∷ xs) = ap (λ b. t (f x) || b) (any-map t f xs)

any-leaves_of : (t : Leaf → Bool) (kind : Kind) (held : Held) → list_any t (leaves_of kind held) ≡ any_held (λ v d. t (leaf kind v d)) held
any-leaves_of t kind [] = refl
any-leaves_of t kind (e ∷ es) =
    list_any-append t (map (leaf kind e.0) e.1) (leaves_of kind es) ∙ ap (λ b. b || list_any t (leaves_of kind es)) (any-map t (leaf kind e.0) e.1)
    ∙ ap (λ b. list_any (λ d. t (leaf kind e.0 d)) e.1 || b) (any-leaves_of t kind es)

-- a leaf is one of a register or one of a set
pub any-leaves : (t : Leaf → Bool) (regs elems : Held) → list_any t (leaves_in regs elems) ≡ (any_held (λ v d. t (leaf Reg v d)) regs || any_held (λ v d. t (leaf Elem v d)) elems)
any-leaves t regs elems =
    list_any-append t (leaves_of Reg regs) (leaves_of Elem elems) ∙ ap (λ b. b || list_any t (leaves_of Elem elems)) (any-leaves_of t Reg regs)
    ∙ ap (λ b. any_held (λ v d. t (leaf Reg v d)) regs || b) (any-leaves_of t Elem elems)

-- ---- whether there is one

full-leaves_of : (kind : Kind) (held : Held) → are_full held ≡ true → is_filled (leaves_of kind held) ≡ is_filled held
full-leaves_of kind [] all = refl
full-leaves_of kind ((v, []) ∷ es) all = absurd (cc)
full-leaves_of kind ((v, (d ∷ ds)) ∷ es) all = refl

pub full-leaves : (regs elems : Held) → are_full regs ≡ true → are_full elems ≡ true → is_filled (leaves_in regs elems) ≡ (is_filled regs || is_filled elems)
full-leaves [] elems all every = full-leaves_of Elem elems every
full-leaves ((v, []) ∷ regs) elems all every = absurd (cc)
full-leaves ((v, (d ∷ ds)) ∷ regs) elems all every = refl

pub regs_full : (regs elems : Held) → are_full regs ≡ true → is_filled regs ≡ true
    → is_filled (leaves_in regs elems) ≡ true
regs_full [] elems all full = absurd (cc)
regs_full ((v, []) ∷ regs) elems all full = absurd (cc)
regs_full ((v, (d ∷ ds)) ∷ regs) elems all full = refl

-- ---- one more

pub adds_reg : (k : Kind) → k ≡ Reg → (old new : List Leaf) (regs rs elems : Held) (v : Scalar) (d : Dot) → leaves_in regs elems ≡ old → leaves_in rs elems ≡ new → ((t : Scalar → Dot → Bool) → any_held t rs ≡ (t v d || any_held t regs)) → AddsLeaf old (leaf k v d) new
adds_reg k at old new regs rs elems v d is was grows = subst (λ j. AddsLeaf old (leaf j v d) new) (sym at) (record {
  any = λ t.
      ap (list_any t) (sym was) ∙ any-leaves t rs elems ∙ ap (λ b. b || any_held (λ v d. t (leaf Elem v d)) elems) (grows (λ v d. t (leaf Reg v d)))
      ∙ or_assoc (t (leaf Reg v d)) _ _ ∙ ap (λ b. t (leaf Reg v d) || b) (sym (any-leaves t regs elems) ∙ ap (list_any t) is);
})

pub adds_elem : (k : Kind) → k ≡ Elem → (old new : List Leaf) (regs elems es : Held) (v : Scalar) (d : Dot) → leaves_in regs elems ≡ old → leaves_in regs es ≡ new → ((t : Scalar → Dot → Bool) → any_held t es ≡ (t v d || any_held t elems)) → AddsLeaf old (leaf k v d) new
adds_elem k at old new regs elems es v d is was grows = subst (λ j. AddsLeaf old (leaf j v d) new) (sym at) (record {
  any = λ t.
      ap (list_any t) (sym was) ∙ any-leaves t regs es ∙ ap (λ b. any_held (λ v d. t (leaf Reg v d)) regs || b) (grows (λ v d. t (leaf Elem v d)))
      ∙ over (any_held (λ v d. t (leaf Reg v d)) regs) (t (leaf Elem v d)) _ ∙ ap (λ b. t (leaf Elem v d) || b) (sym (any-leaves t regs elems) ∙ ap (list_any t) is);
})

-- ---- fewer

-- from what stays of either kind to what stays
abbrev pub StaysBut : (Scalar → Dot → Bool) → Held → Held → Type 0
StaysBut p old new = (t : Scalar → Dot → Bool) → any_held t new ≡ any_held (λ v d. t v d && not (p v d)) old

pub is_less : (picks : Leaf → Bool) (old new : List Leaf) (regs elems rs es : Held) → leaves_in regs elems ≡ old → leaves_in rs es ≡ new → StaysBut (λ v d. picks (leaf Reg v d)) regs rs → StaysBut (λ v d. picks (leaf Elem v d)) elems es → IsLess picks old new
is_less picks old new regs elems rs es is was reg elem = record {
  any = λ t.
      ap (list_any t) (sym was) ∙ any-leaves t rs es ∙ ap (λ b. b || any_held (λ v d. t (leaf Elem v d)) es) (reg (λ v d. t (leaf Reg v d)))
      ∙ ap (λ b. any_held (λ v d. t (leaf Reg v d) && not (picks (leaf Reg v d))) regs || b) (elem (λ v d. t (leaf Elem v d)))
      ∙ sym (any-leaves (λ l. t l && not (picks l)) regs elems) ∙ ap (list_any (λ l. t l && not (picks l))) is;
}

stays_one : (t p : Bool) → p ≡ false → t ≡ (t && not p)
stays_one t p none = sym (ap (λ b. t && not b) none ∙ and-true t)

-- where none goes
pub stays_all : (p : Scalar → Dot → Bool) (held : Held) → ((v : Scalar) (d : Dot) → p v d ≡ false) → StaysBut p held held
stays_all p held none t = λ i. any_held (λ v d. stays_one (t v d) (p v d) (none v d) i) held

-- where tests say the same
pub stays_as : (p q : Scalar → Dot → Bool) (old new : Held) → ((v : Scalar) (d : Dot) → p v d ≡ q v d) → StaysBut p old new → StaysBut q old new
stays_as p q old new same stays t = stays t ∙ (λ i. any_held (λ v d. t v d && not (same v d i)) old)

-- ---- values that are one

int_itself : (a b : ℤ) → a ≡ b → int_eq b a ≡ true
int_itself a b is = (Decides-int_eq b a).1 (sym is)

int_is : (a b : ℤ) → int_eq b a ≡ true → is_eq (int_cmp a b) ≡ true
int_is a b h = subst (λ x. is_eq (int_cmp a x) ≡ true) (sym ((Decides-int_eq b a).0 h)) (ap is_eq (tied_itself int_cmp_total a))

pub same_as : (value v : Scalar) → at_value value v ≡ same_scalar v value
same_as Null Null = refl
same_as (Truth true) (Truth true) = refl
same_as (Truth true) (Truth false) = refl
same_as (Truth false) (Truth true) = refl
same_as (Truth false) (Truth false) = refl
same_as (Int a) (Int b) = both_ways _ _ (λ h. int_itself a b (int_cmp-IsAntisymmetric a b (equal_of _ h))) (int_is a b)
same_as (Text a) (Text b) = flip_eq a b ∙ is_eq-slice_cmp b a
same_as Null (Truth b) = refl
same_as Null (Int b) = refl
same_as Null (Text b) = refl
same_as (Truth b) Null = refl
same_as (Truth a) (Int b) = refl
same_as (Truth a) (Text b) = refl
same_as (Int b) Null = refl
same_as (Int a) (Truth b) = refl
same_as (Int a) (Text b) = refl
same_as (Text b) Null = refl
same_as (Text a) (Truth b) = refl
same_as (Text a) (Int b) = refl

-- ---- what commands cover, but a dot

module _ (p : List (List ℕ)) (value : Scalar) where
  sets_reg : (but : Option Dot) (v : Scalar) (d : Dot) → means (AllBut but) d ≡ covering (Set p value) but (leaf Reg v d)
  sets_reg None v d = refl
  sets_reg (Some stays) v d = sym (and-true (not (is_same stays d)))

  sets_elem : (but : Option Dot) (v : Scalar) (d : Dot) → covering (Set p value) but (leaf Elem v d) ≡ false
  sets_elem None v d = refl
  sets_elem (Some stays) v d = and-false (not (is_same stays d))

  adds_no_reg : (but : Option Dot) (v : Scalar) (d : Dot) → covering (Add p value) but (leaf Reg v d) ≡ false
  adds_no_reg None v d = refl
  adds_no_reg (Some stays) v d = and-false (not (is_same stays d))

  adds_one : (but : Option Dot) (v : Scalar) (d : Dot) → (at_value value v && means (AllBut but) d) ≡ covering (Add p value) but (leaf Elem v d)
  adds_one None v d = and-true (at_value value v) ∙ same_as value v
  adds_one (Some stays) v d = and_comm (at_value value v) (not (is_same stays d)) ∙ ap (λ b. not (is_same stays d) && b) (same_as value v)

  pub set_less : (c : Command) → c ≡ Set p value → (but : Option Dot) (old new : List Leaf) (regs elems rs : Held) → leaves_in regs elems ≡ old → leaves_in rs elems ≡ new → StaysBut (λ v d. means (AllBut but) d) regs rs → IsLess (covering c but) old new
  set_less c at but old new regs elems rs is was stays =
      subst (λ d. IsLess (covering d but) old new) (sym at) (is_less (covering (Set p value) but) old new regs elems rs elems is was (stays_as _ _ regs rs (sets_reg but) stays) (stays_all _ elems (sets_elem but)))

  pub add_less : (c : Command) → c ≡ Add p value → (but : Option Dot) (old new : List Leaf) (regs elems es : Held) → leaves_in regs elems ≡ old → leaves_in regs es ≡ new → StaysBut (λ v d. at_value value v && means (AllBut but) d) elems es → IsLess (covering c but) old new
  add_less c at but old new regs elems es is was stays =
      subst (λ d. IsLess (covering d but) old new) (sym at) (is_less (covering (Add p value) but) old new regs elems regs es is was (stays_all _ regs (adds_no_reg but)) (stays_as _ _ elems es (adds_one but) stays))

  -- a Del covers what an Add does
  del_one : (but : Option Dot) (l : Leaf) → covering (Add p value) but l ≡ covering (Del p value) but l
  del_one None l = refl
  del_one (Some stays) l = refl

  pub del_less : (c : Command) → c ≡ Del p value → (but : Option Dot) (old new : List Leaf) (regs elems es : Held) → leaves_in regs elems ≡ old → leaves_in regs es ≡ new → StaysBut (λ v d. at_value value v && means (AllBut but) d) elems es → IsLess (covering c but) old new
  del_less c at but old new regs elems es is was stays = let less = add_less (Add p value) refl but old new regs elems es is was stays in record {
    any = λ t. less.any t ∙ (λ i. list_any (λ l. t l && not (del_one but l i)) old) ∙ ap (λ d. list_any (λ l. t l && not (covering d but l)) old) (sym at);
  }

-- one leaf
pub reg_less : (k : Kind) → k ≡ Reg → (value : Scalar) (dot : Dot) (old new : List Leaf) (regs elems rs : Held) → leaves_in regs elems ≡ old → leaves_in rs elems ≡ new → StaysBut (λ v d. at_value value v && means (One dot) d) regs rs → IsLess (is_leaf k value dot) old new
reg_less k at value dot old new regs elems rs is was stays =
    subst (λ j. IsLess (is_leaf j value dot) old new) (sym at) (is_less (is_leaf Reg value dot) old new regs elems rs elems is was stays (stays_all _ elems (λ v d. refl)))

pub elem_less : (k : Kind) → k ≡ Elem → (value : Scalar) (dot : Dot) (old new : List Leaf) (regs elems es : Held) → leaves_in regs elems ≡ old → leaves_in regs es ≡ new → StaysBut (λ v d. at_value value v && means (One dot) d) elems es → IsLess (is_leaf k value dot) old new
elem_less k at value dot old new regs elems es is was stays =
    subst (λ j. IsLess (is_leaf j value dot) old new) (sym at) (is_less (is_leaf Elem value dot) old new regs elems regs es is was (stays_all _ regs (λ v d. refl)) stays)

-- ---- what commands kill

module _ (p : List (List ℕ)) (value : Scalar) (d : Dot) (e : Entry) where
  pub set_among : (c : Command) → c ≡ Set p value → (leaves : List Leaf) (regs elems : Held) → leaves_in regs elems ≡ leaves → among_held (λ v. true) regs d e ≡ among_leaves (covered_leaf c) leaves d e
  set_among c at leaves regs elems is =
      sym (or-false _) ∙ ap (λ b. among_held (λ v. true) regs d e || b) (sym (none_held elems))
      ∙ sym (any-leaves (λ l. covered_leaf (Set p value) l && eq_by_cmp dot_cmp l.dot d) regs elems) ∙ ap (λ ls. among_leaves (covered_leaf (Set p value)) ls d e) is
      ∙ ap (λ m. among_leaves (covered_leaf m) leaves d e) (sym at)

  covered_among : (leaves : List Leaf) (regs elems : Held) → leaves_in regs elems ≡ leaves → among_held (at_value value) elems d e ≡ among_leaves (covered_leaf (Add p value)) leaves d e
  covered_among leaves regs elems is =
      (λ i. any_held (λ v x. same_as value v i && eq_by_cmp dot_cmp x d) elems)
      ∙ ap (λ b. b || any_held (λ v x. same_scalar v value && eq_by_cmp dot_cmp x d) elems) (sym (none_held regs))
      ∙ sym (any-leaves (λ l. covered_leaf (Add p value) l && eq_by_cmp dot_cmp l.dot d) regs elems) ∙ ap (λ ls. among_leaves (covered_leaf (Add p value)) ls d e) is

  pub add_among : (c : Command) → c ≡ Add p value → (leaves : List Leaf) (regs elems : Held) → leaves_in regs elems ≡ leaves → among_held (at_value value) elems d e ≡ among_leaves (covered_leaf c) leaves d e
  add_among c at leaves regs elems is = covered_among leaves regs elems is ∙ ap (λ m. among_leaves (covered_leaf m) leaves d e) (sym at)

  pub del_among : (c : Command) → c ≡ Del p value → (leaves : List Leaf) (regs elems : Held) → leaves_in regs elems ≡ leaves → among_held (at_value value) elems d e ≡ among_leaves (covered_leaf c) leaves d e
  del_among c at leaves regs elems is = covered_among leaves regs elems is ∙ ap (λ m. among_leaves (covered_leaf m) leaves d e) (sym at)

pub all_among : (leaves : List Leaf) (regs elems : Held) (d : Dot) (e : Entry) → leaves_in regs elems ≡ leaves → among_leaves (λ l. true) leaves d e ≡ (among_held (λ v. true) regs d e || among_held (λ v. true) elems d e)
all_among leaves regs elems d e is = ap (λ ls. among_leaves (λ l. true) ls d e) (sym is) ∙ any-leaves (λ l. true && eq_by_cmp dot_cmp l.dot d) regs elems

-- the dots of all values, value by value
pub among_values : (held : Held) (d : Dot) (e : Entry) → among_any (map (λ x. x.1) held) d e ≡ among_held (λ v. true) held d e
among_values [] d e = refl
among_values (h ∷ held) d e = ap (λ b. among_dots h.1 d e || b) (among_values held d e)

-- where a command covers no leaf
pub none_among : (picks : Leaf → Bool) (leaves : List Leaf) (d : Dot) (e : Entry) → ((l : Leaf) → picks l ≡ false) → among_leaves picks leaves d e ≡ false
none_among picks [] d e none = refl
none_among picks (l ∷ ls) d e none = ap (λ b. (b && eq_by_cmp dot_cmp l.dot d) || among_leaves picks ls d e) (none l) ∙ none_among picks ls d e none

-- ---- the values of a kind

pub if_ok : {A E : Type 0} {P Q : A → Type 0} (r : Result A E) → ((x : A) → P x → Q x) → IfOk r P → IfOk r Q
if_ok (Ok x) f h = f x h
if_ok (Err e) f h = tt

same_all : (b : Bool) (ds : List Dot) → (b || list_any (λ d. b) ds) ≡ b
same_all true ds = refl
same_all false [] = refl
same_all false (d ∷ ds) = same_all false ds

any_keys : (t : Scalar → Bool) (held : Held) → are_full held ≡ true → any_held (λ v d. t v) held ≡ list_any t (map (λ e. e.0) held)
any_keys t [] all = refl
any_keys t ((v, []) ∷ es) all = absurd (cc)
any_keys t ((v, (d ∷ ds)) ∷ es) all = ap (λ b. b || any_held (λ v d. t v) es) (same_all (t v) ds) ∙ ap (λ b. t v || b) (any_keys t es all)

abbrev pub of_kind : Kind → Held → Held → Held
of_kind Reg regs elems = regs
of_kind Elem regs elems = elems

any_values : (t : Scalar → Bool) (kind : Kind) (regs elems : Held) → are_full (of_kind kind regs elems) ≡ true → list_any t (values_in kind (leaves_in regs elems)) ≡ list_any t (map (λ e. e.0) (of_kind kind regs elems))
any_values t Reg regs elems all =
    any-filter_map t (λ l. cond (is_that_kind Reg l.kind) (Some l.value) None) (leaves_in regs elems) ∙ any-leaves (λ l. passes t (cond (is_that_kind Reg l.kind) (Some l.value) None)) regs elems
    ∙ ap (λ b. any_held (λ v d. t v) regs || b) (none_held elems) ∙ or-false _ ∙ any_keys t regs all
any_values t Elem regs elems all =
    any-filter_map t (λ l. cond (is_that_kind Elem l.kind) (Some l.value) None) (leaves_in regs elems) ∙ any-leaves (λ l. passes t (cond (is_that_kind Elem l.kind) (Some l.value) None)) regs elems
    ∙ ap (λ b. b || any_held (λ v d. t v) elems) (none_held regs) ∙ any_keys t elems all

pub values_are : (kind : Kind) (leaves : List Leaf) (regs elems : Held) → leaves_in regs elems ≡ leaves → are_full (of_kind kind regs elems) ≡ true → IsStrictlySortedBy scalar_cmp (map (λ e. e.0) (of_kind kind regs elems)) → map (λ e. e.0) (of_kind kind regs elems) ≡ values_once (values_in kind leaves)
values_are kind leaves regs elems is all rise =
    sym (once_is scalars_total scalars_exact (map (λ e. e.0) (of_kind kind regs elems)) (values_in kind (leaves_in regs elems)) rise (λ q. any_values (eq_by_cmp scalar_cmp q) kind regs elems all))
    ∙ ap (λ ls. values_once (values_in kind ls)) is

-- What the parts of a list have from the whole.
use Rattle.std.proofs.Common.{◌≡◌, Bool, true, List, [], ◌∷◌, ◌++◌, append_assoc, refl, ◌∙◌, ap}
use Rattle.std.specs.List.{list_all}
use Rattle.rds_dots.specs.declared.dot.Dot.{Dot}
use Rattle.rds_dots.specs.Ascending.{is_above, ascends}
use Rattle.rds_names.specs.Conditions.{and_true, and_left, and_right}

pub all_front : (p : Dot → Bool) (ds es : List Dot) → list_all p (ds ++ es) ≡ true → list_all p ds ≡ true
all_front p [] es all = refl
all_front p (d ∷ ds) es all = and_true (p d) _ (and_left (p d) _ all) (all_front p ds es (and_right (p d) _ all))

pub all_back : (p : Dot → Bool) (ds es : List Dot) → list_all p (ds ++ es) ≡ true → list_all p es ≡ true
all_back p [] es all = all
all_back p (d ∷ ds) es all = all_back p ds es (and_right (p d) _ all)

pub front_rises : (ds es : List Dot) → ascends (ds ++ es) ≡ true → ascends ds ≡ true
front_rises [] es rise = refl
front_rises (d ∷ ds) es rise = and_true _ _ (all_front (is_above d) ds es (and_left _ (ascends (ds ++ es)) rise)) (front_rises ds es (and_right (list_all (is_above d) (ds ++ es)) _ rise))

pub back_rises : (ds es : List Dot) → ascends (ds ++ es) ≡ true → ascends es ≡ true
back_rises [] es rise = rise
back_rises (d ∷ ds) es rise = back_rises ds es (and_right (list_all (is_above d) (ds ++ es)) _ rise)

-- the dots before one and that one
pub upto_rises : (ds : List Dot) (d : Dot) (es : List Dot) → ascends (ds ++ d ∷ es) ≡ true → ascends (ds ++ d ∷ []) ≡ true
upto_rises ds d es rise = front_rises (ds ++ d ∷ []) es (ap ascends (append_assoc ds (d ∷ []) es) ∙ rise)

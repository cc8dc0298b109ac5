-- Members one after the other.
use Rattle.std.proofs.Common.{◌≡◌, ℕ, List, [], ◌∷◌, ◌++◌, Result, Ok, Err, refl, sym, ◌∙◌, ap, append-nil, append_assoc}
use Rattle.serde_json.specs.Data.{Data}
use Rattle.serde_json.specs.Find.{as_str}
use Rattle.serde_json.specs.View.{items_of}
use Rattle.rds_names.specs.declared.fault.Fault.{Fault}
use Rattle.rds_names.specs.AndThen.{◌>>=◌}
use Rattle.rds_json.specs.Members.{items_in, of_one}
use Rattle.rds_names.specs.Name.{name_of}
use Rattle.rds_json.specs.RosterLine.{names_of}

pub items_back : (ds : List Data) → items_in (items_of ds) ≡ ds
items_back [] = refl
items_back (d ∷ ds) = ap (λ es. d ∷ es) (items_back ds)

-- the names, with those that members are
abbrev pub names_with : List (List ℕ) → List Data → Result (List (List ℕ)) Fault
names_with names ds = names_of ds >>= λ ns. Ok (names ++ ns)

pub with_none : (names : List (List ℕ)) → names_with names [] ≡ Ok names
with_none names = ap Ok (append-nil names)

moved : (names : List (List ℕ)) (n : List ℕ) (r : Result (List (List ℕ)) Fault) → (r >>= λ ns. Ok ((names ++ n ∷ []) ++ ns)) ≡ ((r >>= λ ns. Ok (n ∷ ns)) >>= λ ns. Ok (names ++ ns))
moved names n (Ok ns) = ap Ok (append_assoc names (n ∷ []) ns)
moved names n (Err e) = refl

pub with_name : (names : List (List ℕ)) (n : List ℕ) (d : Data) (ds : List Data) → of_one name_of (as_str d) ≡ Ok n → names_with (names ++ n ∷ []) ds ≡ names_with names (d ∷ ds)
with_name names n d ds is = moved names n (names_of ds) ∙ ap (λ r. (r >>= λ name. names_of ds >>= λ ns. Ok (name ∷ ns)) >>= λ ns. Ok (names ++ ns)) (sym is)

pub with_fault : (names : List (List ℕ)) (e : Fault) (d : Data) (ds : List Data) → of_one name_of (as_str d) ≡ Err e → names_with names (d ∷ ds) ≡ Err e
with_fault names e d ds is = ap (λ r. (r >>= λ name. names_of ds >>= λ ns. Ok (name ∷ ns)) >>= λ ns. Ok (names ++ ns)) is

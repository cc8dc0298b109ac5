-- An entry is the one of its parts.
use Rattle.std.proofs.Common.{◌≡◌, ℕ, Bool, true, false, List, length, Some, refl, sym, ap, ◌∙◌}
use Rattle.std.proofs.Math.Bridge.{le_prop}
use Rattle.std.specs.Prelude.{nat_le}
use Rattle.std.proofs.lemmas.Bool.{le-leb, leb-true}
use Rattle.rds_names.specs.declared.entry.Entry.{Entry}
use Rattle.rds_names.specs.declared.entry.Kind.{Kind}
use Rattle.rds_names.specs.declared.scalar.Scalar.{Scalar}
use Rattle.rds_names.specs.Entry.{HasParts, entry_where, entry_from_parts}

-- the ghost fields are the same, however they were proved
entry_where_is : (e : Entry) (some few : Bool) (p : nat_le 1 (length e.path) ≡ some) (q : nat_le (length e.path) 8 ≡ few) → some ≡ true → few ≡ true
    → entry_where e.path e.kind e.value some few p q ≡ Some e
entry_where_is e true true p q one most =
    ap (λ (x : Entry). Some x) (λ i. record {
      path = e.path;
      kind = e.kind;
      value = e.value;
      below_root = le_prop (leb-true 1 (length e.path) p) e.below_root i;
      within = le_prop (leb-true (length e.path) 8 q) e.within i;
    })
entry_where_is e true false p q one most = absurd cc
entry_where_is e false few p q one most = absurd cc

pub entry_of_parts : (path : List (List ℕ)) (kind : Kind) (value : Scalar) (e : Entry) → HasParts path kind value e
    → entry_from_parts path kind value ≡ Some e
entry_of_parts path kind value e h =
    (λ i. entry_from_parts (sym h.at i) (sym h.stands i) (sym h.holds i))
    ∙ entry_where_is e _ _ refl refl (le-leb _ _ e.below_root) (le-leb _ _ e.within)

use Rattle.std.proofs.Common.{◌≡◌, ℕ, List, ap}
use Rattle.std.specs.Bool.{Decides}
use Rattle.std.proofs.lemmas.Bool.Decides.{Decides-and, Decides-eqb, Decides-like}
use Rattle.std.proofs.lemmas.Slice.Eq.{slice_eq-Decides, bytes_eq-Decides}
use Rattle.rds_counts.specs.declared.row.CountRow.{CountRow}
use Rattle.rds_counts.specs.contracts.row.CountRowPartialEq.TheImpl.{eq-value}
use Rattle.rds_counts.proofs.rows.same_rows.Goals as goal

row_of_parts : List ℕ × (ℕ × (ℕ × ℕ)) → CountRow
row_of_parts x = record { key = x.0; replica = x.1.0; p = x.1.1.0; n = x.1.1.1 }

row_decides : (a b : CountRow) → Decides (eq-value.it a b) (a ≡ b)
unfolding row_of_parts
row_decides a b = Decides-like (eq-value.it a b)
    (λ (h : (a.key ≡ b.key) × ((a.replica ≡ b.replica) × ((a.p ≡ b.p) × (a.n ≡ b.n)))) i. row_of_parts (h.0 i, (h.1.0 i, (h.1.1.0 i, h.1.1.1 i))))
    (λ (e : a ≡ b). (ap (λ r. r.key) e, (ap (λ r. r.replica) e, (ap (λ r. r.p) e, ap (λ r. r.n) e))))
    (Decides-and _ _ (bytes_eq-Decides a.key b.key) (Decides-and _ _ (Decides-eqb a.replica b.replica) (Decides-and _ _ (Decides-eqb a.p b.p) (Decides-eqb a.n b.n))))

-- rows that are equal one by one are the same rows
pub returns : goal.returns
returns c = slice_eq-Decides row_decides c.args.left.now c.args.right.now c.eq.result c.eq.ensures

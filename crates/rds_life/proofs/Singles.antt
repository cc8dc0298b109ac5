-- A set with one more dot, and the dots of rows.
use Rattle.std.proofs.Common.{◌≡◌, ℕ, ◌&&◌, ◌||◌, sym, ◌∙◌, ap, arith, eqb, leb}
use Rattle.std.specs.FinSet as set
use Rattle.std.proofs.lemmas.Bool.Decides.{nat_tests}
use Rattle.rds_dots.specs.declared.dot.Dot.{Dot}
use Rattle.rds_dots.specs.Dots.{Dots, in_run}
use Rattle.rds_dots.specs.Order.{dots_total, dots_exact}
use Rattle.rds_dots.specs.Sets.{tied_is}

one_is : (a r s x : ℕ) → (eqb a r && leb s x && leb x s) ≡ (eqb a r && eqb x s)
one_is a r s x = grind (arith, nat_tests)

-- a run of one dot has it alone
pub insert_one : (s t : Dots) (d : Dot) → ((q : Dot) → set.contains t q ≡ (in_run (record { replica = d.replica; lo = d.seq; hi = d.seq }) q || set.contains s q)) → t ≡ set.insert s d
insert_one s t d more = set.same_set dots_total dots_exact _ _ (λ q.
    more q
    ∙ ap (λ b. b || set.contains s q) (one_is q.replica d.replica d.seq q.seq ∙ sym (tied_is q.replica d.replica q.seq d.seq))
    ∙ sym (set.contains-insert dots_total s d q))

-- Marks are read as they are written.
use Rattle.std.proofs.Common.{◌≡◌, Ok, ap}
use Rattle.std.proofs.lemmas.Bool.Decides.{Decides-and, Decides-eqb, Decides-like}
use Rattle.std.proofs.lemmas.Nat.{from_be_bytes-to_be_bytes_8}
use Rattle.std.specs.Bool.{Decides}
use Rattle.rds_state.specs.declared.mark.Mark.{Mark}
use Rattle.rds_answers.proofs.MarkHalves.{IsMark}
use Rattle.rds_session.specs.Marked.{mark_bytes, mark_read, same_mark}

same_halves : (m n : Mark) → m.high ≡ n.high → m.low ≡ n.low → m ≡ n
same_halves m n p q = λ i. record { high = p i; low = q i }

-- two marks are one exactly where their halves are
pub same_decides : (m n : Mark) → Decides (same_mark m n) (m ≡ n)
same_decides m n =
    Decides-like (same_mark m n) (λ p. same_halves m n p.0 p.1) (λ p. (ap (λ (x : Mark). x.high) p, ap (λ (x : Mark). x.low) p))
    (Decides-and _ _ (Decides-eqb m.high n.high) (Decides-eqb m.low n.low))

-- what is written is read again
pub mark_again : (m : Mark) → IsMark m → mark_read (mark_bytes m) ≡ Ok m
mark_again m is = ap Ok (same_halves _ m (from_be_bytes-to_be_bytes_8 m.high is.high) (from_be_bytes-to_be_bytes_8 m.low is.low))

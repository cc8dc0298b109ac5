-- Texts of several parts: their lengths, and one part added after the other.
use Rattle.std.proofs.Common.{◌≡◌, ℕ, ◌+◌, List, ◌++◌, length, ap, ◌∙◌, append_assoc, length-append, arith}

pub two_lengths : (x y : List ℕ) → length (x ++ y) ≡ length x + length y
two_lengths x y = length-append x y

pub three_lengths : (x y z : List ℕ) → length (x ++ (y ++ z)) ≡ length x + length y + length z
three_lengths x y z = let a = length-append x (y ++ z) in let b = length-append y z in omega (arith, a, b)

pub two_added : (a b c x y : List ℕ) → b ≡ a ++ x → c ≡ b ++ y → c ≡ a ++ (x ++ y)
two_added a b c x y p q = q ∙ ap (λ (t : List ℕ). t ++ y) p ∙ append_assoc a x y

pub three_added : (a b c d x y z : List ℕ) → b ≡ a ++ x → c ≡ b ++ y → d ≡ c ++ z → d ≡ a ++ (x ++ (y ++ z))
three_added a b c d x y z p q r = two_added a b d x (y ++ z) p (two_added b c d y z q r)

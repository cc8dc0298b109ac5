-- A name is ASCII.
use Rattle.std.proofs.Common.{◌≡◌, ℕ, zero, suc, ◌<◌, true, List, [], ◌∷◌, arith}
use Rattle.std.specs.List.{list_all}
use Rattle.std.specs.Str.{IsAscii, IsUtf8}
use Rattle.std.proofs.lemmas.Bool.Decides.{nat_tests}
use Rattle.std.proofs.lemmas.Str.{IsUtf8-from_ascii}
use Rattle.rds_names.specs.Name.{is_name, is_name_byte}
use Rattle.rds_names.specs.Conditions.{and_left, and_right}

small : (b : ℕ) → is_name_byte b ≡ true → b < 128
small b h = grind (arith, nat_tests)

all_small : (bs : List ℕ) → list_all is_name_byte bs ≡ true → IsAscii bs
all_small [] all i = omega arith
all_small (b ∷ bs) all zero = small b (and_left _ (list_all is_name_byte bs) all)
all_small (b ∷ bs) all (suc i) = all_small bs (and_right (is_name_byte b) _ all) i

-- so it is a text
pub name_is_text : (bs : List ℕ) → is_name bs ≡ true → IsUtf8 bs
name_is_text bs h = IsUtf8-from_ascii bs (all_small bs (and_right _ _ h))

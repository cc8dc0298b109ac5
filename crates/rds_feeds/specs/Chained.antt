-- One value after another.
use Rattle.rds_bytes.specs.Reading.{◌>>=◌, Reader}
use Rattle.rds_feeds.specs.declared.then.Then.{Then}
use Rattle.rds_feeds.specs.declared.then.Then.TheVariants.{First, Second}

-- a value, and then another that is made from it
abbrev pub chain : {V W : Type 0} → Reader V → (V → Reader W) → Reader W
chain f g bytes = f bytes >>= λ x. g x.0 x.1

abbrev pub then_finish : {A M B V W : Type 0} → (A → Reader V) → (M → V → Reader W) → (B → Reader W) → Then A M B → Reader W
then_finish first after second (First a m) = chain (first a) (after m)
then_finish first after second (Second b) = second b

-- How many dots aren't unseen.
use Rattle.std.proofs.Common.{◌≡◌, suc, List, [], ◌∷◌, length, refl, sym, ◌∙◌, ap}
use Rattle.std.specs.FinMap as map
use Rattle.std.specs.FinSet as set
use Rattle.rds_dots.specs.declared.dot.Dot.{Dot}
use Rattle.rds_dots.specs.Sets.{len-list}
use Rattle.rds_life.specs.Life.{Life, Lived, keys, seen_of}
use Rattle.rds_life.proofs.RowLemmas.{rise_of}

length_keys : (es : List (Dot × Life)) → length (keys es) ≡ length es
length_keys [] = refl
length_keys (e ∷ es) = ap (λ n. suc n) (length_keys es)

-- the seen dots are as many as have a life
pub len-seen_of : (v : Lived) → set.len (seen_of v) ≡ map.len v
len-seen_of v =
    len-list (map.keys v) (rise_of (map.entries v) (map.entries_sorted v))
    ∙ length_keys (map.entries v)
    ∙ sym (map.len-entries v)

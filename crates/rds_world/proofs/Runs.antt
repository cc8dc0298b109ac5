-- A run of two lists.
use Rattle.std.proofs.Common.{◌≡◌, ◌↔◌, List, [], ◌∷◌, ◌++◌, refl}
use Rattle.rds_world.specs.World.{World, Happening, next, run, Accepted}

pub run_on : (es fs : List Happening) (w : World) → run (es ++ fs) w ≡ run fs (run es w)
run_on [] fs w = refl
run_on (e ∷ es) fs w = run_on es fs (next w e)

accepted_first : (es fs : List Happening) (w : World) → Accepted (es ++ fs) w → Accepted es w × Accepted fs (run es w)
accepted_first [] fs w a = (tt, a)
accepted_first (e ∷ es) fs w a = let x = accepted_first es fs (next w e) a.1 in ((a.0, x.0), x.1)

accepted_both : (es fs : List Happening) (w : World) → Accepted es w × Accepted fs (run es w) → Accepted (es ++ fs) w
accepted_both [] fs w a = a.1
accepted_both (e ∷ es) fs w a = (a.0.0, accepted_both es fs (next w e) (a.0.1, a.1))

pub accepted_on : (es fs : List Happening) (w : World) → Accepted (es ++ fs) w ↔ (Accepted es w × Accepted fs (run es w))
accepted_on es fs w = (accepted_first es fs w, accepted_both es fs w)

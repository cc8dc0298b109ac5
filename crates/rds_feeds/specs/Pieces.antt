-- Reading in pieces.
use Rattle.std.specs.Prelude.{◌≡◌, ℕ, ◌⊎◌, List, [], ◌∷◌, ◌++◌, Ok, Err}
use Rattle.rds_names.specs.declared.fault.Fault.{Fault}
use Rattle.rds_bytes.specs.Reading.{Reader}
use Rattle.rds_names.specs.declared.fault.Fault.TheVariants.{Memory, Cut}
use Rattle.rds_feeds.specs.declared.unfinished.Progress.{Progress}
use Rattle.rds_feeds.specs.declared.unfinished.Progress.TheVariants.{More, Whole}

-- Bytes were read, as far as a rest; read says how they are read, with whatever follows them. Where more are wanted the
-- rest is read on in their stead, and is cut as it is; else the value is whole, and the rest follows it.
abbrev pub ReadsOn : {U V : Type 0} → (U → Reader V) → Reader V → Progress U V → List ℕ → Type 0
ReadsOn finish read (More u) rest = ((more : List ℕ) → read more ≡ finish u (rest ++ more)) × (finish u rest ≡ Err Cut)
ReadsOn finish read (Whole v) rest = (more : List ℕ) → read more ≡ Ok (v, rest ++ more)

-- memory ran out, or they are refused so whatever follows them
abbrev pub RefusesAlready : {V : Type 0} → Reader V → Fault → Type 0
RefusesAlready read e = (e ≡ Memory) ⊎ ((e ≡ Cut → ⊥) × ((more : List ℕ) → read more ≡ Err e))

-- pieces were read one after the other, each behind what was left of those before it
abbrev pub ReadsPieces : {U V : Type 0} → (U → Reader V) → U → List ℕ → List (List ℕ) → Progress U V → List ℕ → Type 0
ReadsPieces finish u held [] p rest = ⊥
ReadsPieces finish u held (piece ∷ []) p rest = ReadsOn finish (λ more. finish u ((held ++ piece) ++ more)) p rest
ReadsPieces {U} finish u held (piece ∷ (next ∷ pieces)) p rest =
    (later : U) × (left : List ℕ) × ReadsOn finish (λ more. finish u ((held ++ piece) ++ more)) (More later) left
    × ReadsPieces finish later left (next ∷ pieces) p rest

-- both want more bytes, or both are whole: the same value, with the same rest
abbrev pub EndAlike : {U V : Type 0} → Progress U V → List ℕ → Progress U V → List ℕ → Type 0
EndAlike (More u) rest (More w) rest' = Unit {0}
EndAlike (More u) rest (Whole w) rest' = ⊥
EndAlike (Whole v) rest (More w) rest' = ⊥
EndAlike (Whole v) rest (Whole w) rest' = (v ≡ w) × (rest ≡ rest')

-- A state that has a text fits its roster.
use Rattle.std.proofs.Common.{◌≡◌, ℕ, true, List, [], ◌∷◌, refl}
use Rattle.std.specs.List.{AllByRecursion}
use Rattle.std.proofs.lemmas.Bool.{lt-ltb}
use Rattle.rds_counts.specs.declared.row.CountRow.{CountRow}
use Rattle.rds_names.specs.Conditions.{and_true}
use Rattle.rds_life.specs.Life.{seen_of}
use Rattle.rds_state.specs.Fits.{Fits}
use Rattle.rds_counts.specs.Below.{rows_below}
use Rattle.rds_state.specs.Value.{StateValue, coordinates}
use Rattle.rds_state.proofs.FitsLemmas.{fits_by}
use Rattle.rds_bytes.specs.Values.{IsCountRowOf}
use Rattle.rds_codec.specs.StateTexts.{IsStateOf}

are_below : (replicas : ℕ) (rows : List CountRow) → AllByRecursion (IsCountRowOf replicas) rows → rows_below replicas rows ≡ true
are_below replicas [] h = refl
are_below replicas (r ∷ rows) h = and_true _ _ (lt-ltb r.replica replicas h.0.1) (are_below replicas rows h.1)

pub state_fits : (replicas : ℕ) (v : StateValue) → IsStateOf replicas v → Fits replicas (coordinates v)
state_fits replicas v is =
    fits_by replicas v (seen_of v.lives) refl is.counts.rows is.counts.are_rows is.counts.value (λ d h. (is.dots d h).1) (are_below replicas is.counts.rows is.counts.each_row)

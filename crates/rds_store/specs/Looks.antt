-- What is reported of a document at a path.
use Rattle.std.specs.Prelude.{◌≡◌, ◌⊎◌, ℕ, List, [], ◌∷◌, ◌++◌, Result, Ok, Err, MatchResult, String, string_bytes}
use Rattle.std.specs.Global.{Global}
use Rattle.serde_json.specs.Written.{compact_text}
use Rattle.rds_json.specs.Show.{data_of}
use Rattle.rds_json.specs.Standing.{standing_data}
use Rattle.rds_names.specs.AndThen.{◌>>=◌}
use Rattle.rds_names.specs.Path.{path_of}
use Rattle.rds_names.specs.declared.fault.Fault.{Fault}
use Rattle.rds_names.specs.declared.fault.Fault.TheVariants.{BadPath, Memory}
use Rattle.rds_state.specs.Value.{StateValue}
use Rattle.rds_tree.specs.Document.{document}
use Rattle.rds_tree.specs.Parts.{closed}
use Rattle.rds_tree.specs.Shown.{Shown, shown_view}
use Rattle.rds_tree.specs.View.{view_of}
use Rattle.rds_tree.specs.declared.views.View.{View}

-- what the document of a state shows at the path that a text is
abbrev pub shown_at : StateValue → List ℕ → Result Shown Fault
shown_at state path = path_of path >>= λ p. Ok (view_of (document state) p)

-- the view that is due, or the fault, unless memory ran out
abbrev pub MayShowView : StateValue → List ℕ → Result View Fault → Type 0
MayShowView state path result =
    MatchResult result (λ view. shown_at state path ≡ Ok (shown_view view))
    (λ fault. (fault ≡ Memory) ⊎ (shown_at state path ≡ Err fault))

-- a text about a state, at the path that a text is
abbrev pub text_at_path : (StateValue → List (List ℕ) → List ℕ) → StateValue → List ℕ → Result (List ℕ) Fault
text_at_path text state path = path_of path >>= λ p. Ok (text state p)

-- the view as compact JSON
abbrev pub view_text : StateValue → List (List ℕ) → List ℕ
view_text state path = compact_text (data_of (view_of (document state) path))

-- the same without what is below the maps
abbrev pub here_text : StateValue → List (List ℕ) → List ℕ
here_text state path = compact_text (data_of (closed (view_of (document state) path)))

-- the text that is due, or the fault, unless memory ran out
abbrev pub MayTell : Result (String Global) Fault → Result (List ℕ) Fault → Type 0
MayTell result due =
    MatchResult result (λ text. due ≡ Ok (string_bytes text)) (λ fault. (fault ≡ Memory) ⊎ (due ≡ Err fault))

-- what stands at the last key of a path, as compact JSON
pub record IsValueText (state : StateValue) (path text : List ℕ) : Type 0 where
  pub above : List (List ℕ)
  pub key : List ℕ
  pub place : path_of path ≡ Ok (above ++ key ∷ [])
  pub told : text ≡ compact_text (standing_data key (view_of (document state) above))

-- why a text is no path below the root
abbrev pub RefusesPlace : List ℕ → Fault → Type 0
RefusesPlace path fault = (path_of path ≡ Err fault) ⊎ ((path_of path ≡ Ok []) × (fault ≡ BadPath))

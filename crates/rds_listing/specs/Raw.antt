-- What stands at a key, as bare lines.
use Rattle.std.specs.Prelude.{◌≡◌, ◌≤◌, ℕ, ℤ, true, false, List, [], ◌∷◌, codes, filter, length, map, Option, Some, None, string_bytes}
use Rattle.std.specs.Fmt.{signed_decimal}
use Rattle.rds_names.specs.declared.scalar.Scalar.{Scalar}
use Rattle.rds_names.specs.declared.scalar.Scalar.TheVariants.{Null, Bool as Truth, Int, Text}
use Rattle.rds_state.specs.Value.{StateValue}
use Rattle.rds_tree.specs.Document.{document}
use Rattle.rds_tree.specs.Row.{is_filled}
use Rattle.rds_tree.specs.Shown.{Shown, shows}
use Rattle.rds_tree.specs.View.{view_of}
use Rattle.rds_json.specs.Standing.{counter_standing, values_at}
use Rattle.rds_listing.specs.Pieces.{lines_text}
use Rattle.rds_listing.specs.declared.bare.Raw.{Raw}
use Rattle.rds_listing.specs.declared.bare.Raw.TheVariants as raws
use Rattle.rds_listing.specs.declared.bare.Wanted.{Wanted}
use Rattle.rds_listing.specs.declared.bare.Wanted.TheVariants.{Any, Register, Set, Counter}

-- a value, a text without quotes
abbrev pub raw_line : Scalar → List ℕ
raw_line Null = codes "null"
raw_line (Truth true) = codes "true"
raw_line (Truth false) = codes "false"
raw_line (Int z) = signed_decimal z
raw_line (Text text) = text

abbrev pub values_lines : List Scalar → List (List ℕ)
values_lines values = map raw_line values

abbrev pub sum_lines : Option ℤ → List (List ℕ)
sum_lines None = []
sum_lines (Some sum) = signed_decimal sum ∷ []

-- the lines of each kind that is wanted
abbrev pub wanted_lines : Wanted → List Scalar → List Scalar → Option ℤ → List (List (List ℕ))
wanted_lines Any reg set counter = values_lines reg ∷ values_lines set ∷ sum_lines counter ∷ []
wanted_lines Register reg set counter = values_lines reg ∷ []
wanted_lines Set reg set counter = values_lines set ∷ []
wanted_lines Counter reg set counter = sum_lines counter ∷ []

-- those that have any, at a key of a view
abbrev pub lines_at : Wanted → List ℕ → Shown → List (List (List ℕ))
lines_at wanted key (shows maps regs sets counters) =
    filter is_filled (wanted_lines wanted (values_at key regs) (values_at key sets) (counter_standing key counters))

-- none of the kinds has a line, or one alone, whose lines are the text, or several
abbrev pub IsRaw : List (List (List ℕ)) → Raw → Type 0
IsRaw found raws.Nothing = found ≡ []
IsRaw found (raws.Text text) =
    (lines : List (List ℕ)) × (found ≡ lines ∷ []) × (string_bytes text ≡ lines_text lines)
IsRaw found raws.Several = 2 ≤ length found

-- that of what a state's document has at a key below a path
abbrev pub GivesRaw : StateValue → List (List ℕ) → List ℕ → Wanted → Raw → Type 0
GivesRaw state above key wanted raw = IsRaw (lines_at wanted key (view_of (document state) above)) raw

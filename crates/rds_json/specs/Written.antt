-- What is written, as tokens of JSON.
use Rattle.std.specs.Prelude.{◌≡◌, ℕ, ℤ, List, [], ◌∷◌, ◌++◌, codes, map, Option, Some, None}
use Rattle.std.specs.Cmp.Lexicographic.{slice_cmp}
use Rattle.std.specs.List.Sorted.{IsStrictlySortedBy}
use Rattle.std.specs.Ordering.{nat_cmp}
use Rattle.json.specs.Token.{Token, key}
use Rattle.json.specs.Tree.{json_tokens}
use Rattle.json.specs.Written.{Written}
use Rattle.serde_json.specs.Data.{Data}
use Rattle.serde_json.specs.Written.{compact_text, outline}
use Rattle.rds_json.specs.Show.{sums_data}

abbrev pub data_tokens : Data → List Token
data_tokens d = json_tokens (outline d)

-- the member of the counters, where there are some
abbrev pub counters_tokens : Option (List (List ℕ × ℤ)) → List Token
counters_tokens None = []
counters_tokens (Some rows) = key (codes "counters") ∷ data_tokens (sums_data rows)

-- these tokens are added
abbrev pub AddsTokens : Written → Written → List Token → Type 0
AddsTokens old new ts = (new.before ≡ old.before) × (new.tokens ≡ old.tokens ++ ts)

-- the text is that of the value whose tokens these are
abbrev pub TellsTokens : List ℕ → List Token → Type 0
TellsTokens text ts = (d : Data) → ts ≡ data_tokens d → text ≡ compact_text d

-- each key is below those after it
abbrev pub KeysAscend : {V : Type 0} → List (List ℕ × V) → Type 0
KeysAscend rows = IsStrictlySortedBy (slice_cmp nat_cmp) (map (λ r. r.0) rows)

-- Texts as JSON.
use Rattle.std.specs.Prelude.{ℕ, List, map}
use Rattle.serde_json.specs.Data.{Data, string, array}
use Rattle.serde_json.specs.View.{items_of}

abbrev pub texts_data : List (List ℕ) → Data
texts_data texts = array (items_of (map string texts))

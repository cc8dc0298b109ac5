-- What listeners are told of a turn.
use Rattle.std.specs.Prelude.{◌≡◌, ℕ, List, ◌++◌, codes, decimal, map, Option, None, Some, true}
use Rattle.serde_json.specs.Data.{Data}
use Rattle.serde_json.specs.Data.Data.{array}
use Rattle.serde_json.specs.View.{items_of}
use Rattle.serde_json.specs.Written.{compact_text}
use Rattle.rds_json.specs.Spelling.{path_data}
use Rattle.rds_state.specs.Mark.{mark_of, mark_text}
use Rattle.rds_state.specs.declared.mark.Mark.{Mark}
use Rattle.rds_http.specs.Site.{SiteValue}

abbrev pub paths_data : List (List (List ℕ)) → Data
paths_data paths = array (items_of (map path_data paths))

-- the paths at which something changed, or null where any may have changed
abbrev pub paths_json : Option (List (List (List ℕ))) → List ℕ
paths_json None = codes "null"
paths_json (Some paths) = compact_text (paths_data paths)

abbrev pub news_json : ℕ → Mark → Option (List (List (List ℕ))) → List ℕ
news_json turn mark paths =
    codes "{\"turn\":" ++ (decimal turn ++ (codes ",\"mark\":\"" ++ (mark_text mark ++ (codes "\",\"paths\":"
    ++ (paths_json paths ++ codes "}")))))

-- what was kept is reported: the turn, the mark of the document, and paths
pub record IsNews (site : SiteValue) (text : List ℕ) : Type 0 where
  pub due : site.has_news ≡ true
  pub paths : Option (List (List (List ℕ)))
  pub told : text ≡ news_json site.turn (mark_of site.document.state) paths

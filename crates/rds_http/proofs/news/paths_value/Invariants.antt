use Rattle.std.proofs.Common.{◌≡◌, ◌++◌, drop, map}
use Rattle.serde_json.specs.View.{view}
use Rattle.rds_json.specs.Spelling.{path_data}
use Rattle.rds_http.proofs.news.paths_value.Given as goal

abbrev pub invariant-loop-path : goal.invariant-loop-path
invariant-loop-path l = map view l.items.items ++ map path_data (drop l.path-index l.paths) ≡ map path_data l.paths

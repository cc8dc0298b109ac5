use Rattle.std.proofs.Common.{◌≡◌, codes, map}
use Rattle.std.specs.List.{list_any}
use Rattle.rds_fields.specs.Tokens.{field_values}
use Rattle.rds_http.specs.Tags.{is_matched_by}
use Rattle.rds_http.proofs.conditions.Current.is_matched.Given as goal

-- none of the conditions so far names the tag
abbrev pub invariant-loop-value : goal.invariant-loop-value
invariant-loop-value l =
    list_any (is_matched_by l.self) (map (λ v. v.bytes) l.value-iterator)
    ≡ list_any (is_matched_by l.self) (field_values l.headers (codes "if-match"))

use Rattle.std.proofs.Common.{◌≡◌, codes, map}
use Rattle.std.specs.List.{list_any}
use Rattle.rds_fields.specs.Tokens.{is_bearing, field_values}
use Rattle.rds_fields.proofs.token.Token.is_borne.Given as goal

-- none of the values so far shows the token
abbrev pub invariant-loop-value : goal.invariant-loop-value
invariant-loop-value l =
    list_any (is_bearing l.self) (map (λ v. v.bytes) l.value-iterator)
    ≡ list_any (is_bearing l.self) (field_values l.headers (codes "authorization"))

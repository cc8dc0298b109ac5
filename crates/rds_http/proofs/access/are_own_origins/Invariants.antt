use Rattle.std.proofs.Common.{◌≡◌, codes, map}
use Rattle.std.specs.List.{list_all}
use Rattle.rds_fields.specs.Tokens.{field_values}
use Rattle.rds_http.specs.Access.{host_in, is_own_origin}
use Rattle.rds_http.proofs.access.are_own_origins.Given as goal

-- all origins so far are those of the host
abbrev pub invariant-loop-origin : goal.invariant-loop-origin
invariant-loop-origin l =
    list_all (is_own_origin (host_in l.headers)) (map (λ v. v.bytes) l.origin-iterator)
    ≡ list_all (is_own_origin (host_in l.headers)) (field_values l.headers (codes "origin"))

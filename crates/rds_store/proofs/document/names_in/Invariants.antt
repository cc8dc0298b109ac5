use Rattle.std.proofs.Common.{◌≡◌, map, drop}
use Rattle.rds_store.proofs.Naming.{names_with}
use Rattle.rds_store.proofs.document.names_in.Given as goal
use Rattle.rds_store.specs.Documents.{names_in}

-- the names so far, with those of the texts that are left
abbrev pub invariant-loop-text : goal.invariant-loop-text
invariant-loop-text l = names_with l.names.items (map (λ t. t.now) (drop l.text-index l.texts)) ≡ names_in (map (λ t. t.now) l.texts)

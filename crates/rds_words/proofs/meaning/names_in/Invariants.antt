use Rattle.std.proofs.Common.{◌≡◌, map, drop}
use Rattle.rds_words.specs.Meaning.{names_in}
use Rattle.rds_words.proofs.Naming.{names_with}
use Rattle.rds_words.proofs.meaning.names_in.Given as goal

-- the names so far, with those of the texts that are left
abbrev pub invariant-loop-text : goal.invariant-loop-text
invariant-loop-text l = names_with l.names.items (map (λ t. t.now) (drop l.text-index l.texts)) ≡ names_in (map (λ t. t.now) l.texts)

use Rattle.std.proofs.Common.{◌≡◌, ◌++◌, take}
use Rattle.std.specs.List.{flat_map}
use Rattle.rds_bytes.specs.Spelling.{short_text}
use Rattle.rds_bytes.proofs.paths.put_keys.Given as goal

abbrev pub invariant-loop-key : goal.invariant-loop-key
invariant-loop-key l = l.out.items ≡ l.initial.out.items ++ flat_map short_text (take l.key-index l.keys)

use Rattle.std.proofs.Common.{◌≡◌, ◌+◌, ◌≤◌, None, drop, length, map as each}
use Rattle.std.specs.Option.{option_copied}
use Rattle.rds_tree.specs.Distinct.{distinct}
use Rattle.rds_names.specs.Key.{key_cmp}
use Rattle.rds_lines.proofs.overview.counter_count.Given as goal

-- the keys so far, with those of the rows that are left
abbrev pub invariant-loop-row : goal.invariant-loop-row
invariant-loop-row l = record {
  counted : l.count + length (distinct key_cmp (option_copied l.last) (each (λ r. r.key) (drop l.row-index l.rows))) ≡ length (distinct key_cmp None (each (λ r. r.key) l.rows));
  few : l.count ≤ l.row-index;
}

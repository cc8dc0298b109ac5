use Rattle.rds_state.proofs.JoinLaws as laws
use Rattle.rds_state.proofs.laws.join_laws.Goals as goal

pub returns : goal.returns
returns c = record {
  reflexive = laws.reflexive;
  transitive = laws.transitive;
  antisymmetric = laws.antisymmetric;
  above_left = laws.above_left;
  above_right = laws.above_right;
  least = laws.least;
  commutative = laws.commutative;
  compatible = laws.compatible_join;
  associative = laws.associative;
  idempotent = laws.idempotent;
  same_value = laws.same_value;
}

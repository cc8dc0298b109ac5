use Rattle.std.proofs.Common.{rules}
use Rattle.rds_offline.proofs.NextReplicas.{all_joined, no_memory}
use Rattle.rds_offline.proofs.next.next_replica.Goals as goal

pub returns-in-Ok-clause-next : goal.returns-in-Ok-clause-next
returns-in-Ok-clause-next g c = record {
  named = search rules;
  other = search rules;
  unused = search rules;
  roster = search rules;
  state = all_joined c.in_ok-next.next.state c.args.source.now.state c.take.new.self.state (search rules) (search rules) (search rules);
}

pub returns : goal.returns
returns g c = record {
  next = tt;
  fault = no_memory c.args.source.now c.args.name c.in_ok-next.next.state c.in-Some.own c.in-Err.fault (search rules) (search rules) (search rules) (search rules);
}

use Rattle.std.proofs.Common.{rules}
use Rattle.std.proofs.lemmas.Result.{on_ok_weaker}
use Rattle.rds_tree.specs.Shown.{shown_view}
use Rattle.rds_tree.specs.declared.views.View.{the_lemmas}
use Rattle.rds_json.proofs.Tokens.{standing_added}
use Rattle.rds_json.proofs.standing.write_standing.Goals as goal

pub returns : goal.returns
returns c = record {
  ok = on_ok_weaker c.end_object.result (λ ends. (
    search rules,
    standing_added c.args.key.now (shown_view c.args.shape.now) c.args.out.now.tokens c.begin_object.new.self.tokens c.key.new.self.tokens c.write_counter.new.out.tokens c.key-2.new.self.tokens c.write_scalars.new.out.tokens
        c.key-3.new.self.tokens c.write_scalars-2.new.out.tokens c.end_object.new.self.tokens (search rules) (search rules) (search (rules, the_lemmas)) (search rules) (search (rules, the_lemmas)) (search rules)
        (search (rules, the_lemmas)) ends,
  )) c.end_object.ensures.ok;
}

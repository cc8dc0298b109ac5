use Rattle.std.proofs.Common.{[], ◌∷◌, codes, refl}
use Rattle.rds_words.proofs.ClearPlan.{clear_plan, clear_takes}
use Rattle.rds_words.proofs.EachNamed.{task_dashed, task_written}
use Rattle.rds_words.proofs.OptionPlans.{run_plan, run_takes, serve_plan, serve_takes, show_plan, show_takes, sync_plan, sync_takes}
use Rattle.rds_words.proofs.TypedNames.{alone, apart, joined, named, named_dashed, placed}
use Rattle.rds_words.proofs.WatchPlan.{watch_plan, watch_takes}
use Rattle.rds_words.proofs.laws.word_laws.Goals as goal

pub returns-clause-written : goal.returns-clause-written
returns-clause-written c = task_written

pub returns-clause-dashed : goal.returns-clause-dashed
returns-clause-dashed c = task_dashed

pub returns-clause-all_cleared : goal.returns-clause-all_cleared
returns-clause-all_cleared c = λ name file are.
    named clear_plan clear_takes name (placed file ∷ alone (codes "--all") ∷ []) _ are refl refl refl

pub returns-clause-show : goal.returns-clause-show
returns-clause-show c =
    let typed = named show_plan show_takes in
    let behind = named_dashed show_plan show_takes in
    record {
      root_shown = λ name file are. typed name (placed file ∷ []) _ are refl refl refl;
      pretty_root = λ name file are. typed name (alone (codes "--pretty") ∷ placed file ∷ []) _ are refl refl refl;
      pretty_root_dashed = λ name file. behind name (alone (codes "--pretty") ∷ []) (file ∷ []) _ refl refl refl refl;
      pretty_behind = λ name file path are.
          typed name (placed file ∷ placed path ∷ alone (codes "--pretty") ∷ []) _ are refl refl refl;
      pretty_root_behind = λ name file are.
          typed name (placed file ∷ alone (codes "--pretty") ∷ []) _ are refl refl refl;
    }

pub returns-clause-serve : goal.returns-clause-serve
returns-clause-serve c =
    let typed = named serve_plan serve_takes in
    let behind = named_dashed serve_plan serve_takes in
    record {
      one_session = λ name file addr are. typed name (placed file ∷ placed addr ∷ []) _ are refl refl refl;
      sessions_alone = λ name file addr sessions are.
          typed name (placed file ∷ placed addr ∷ apart (codes "--sessions") sessions ∷ []) _ are refl refl refl;
      sessions_alone_dashed = λ name file addr sessions.
          behind name (joined (codes "--sessions") sessions ∷ []) (file ∷ addr ∷ []) _ refl refl refl refl;
      timeout_alone = λ name file addr timeout are.
          typed name (placed file ∷ placed addr ∷ apart (codes "--timeout") timeout ∷ []) _ are refl refl refl;
      timeout_alone_dashed = λ name file addr timeout.
          behind name (joined (codes "--timeout") timeout ∷ []) (file ∷ addr ∷ []) _ refl refl refl refl;
    }

pub returns-clause-sync : goal.returns-clause-sync
returns-clause-sync c =
    let typed = named sync_plan sync_takes in
    let behind = named_dashed sync_plan sync_takes in
    record {
      alone = λ name file addr are. typed name (placed file ∷ placed addr ∷ []) _ are refl refl refl;
      alone_dashed = λ name file addr. behind name [] (file ∷ addr ∷ []) _ refl refl refl refl;
      token_alone = λ name file addr token are.
          typed name (placed file ∷ placed addr ∷ apart (codes "--token-file") token ∷ []) _ are refl refl refl;
    }

pub returns-clause-run : goal.returns-clause-run
returns-clause-run c =
    let typed = named run_plan run_takes in
    let behind = named_dashed run_plan run_takes in
    record {
      alone = λ name file are. typed name (placed file ∷ []) _ are refl refl refl;
      alone_dashed = λ name file. behind name [] (file ∷ []) _ refl refl refl refl;
      peer_alone = λ name file peer are.
          typed name (placed file ∷ apart (codes "--peer") peer ∷ []) _ are refl refl refl;
      every_alone = λ name file every are.
          typed name (placed file ∷ apart (codes "--every") every ∷ []) _ are refl refl refl;
      open_alone = λ name file are. typed name (placed file ∷ alone (codes "--open") ∷ []) _ are refl refl refl;
      log_alone = λ name file are. typed name (placed file ∷ alone (codes "--log") ∷ []) _ are refl refl refl;
      token_alone = λ name file token are.
          typed name (placed file ∷ apart (codes "--token-file") token ∷ []) _ are refl refl refl;
    }

pub returns-clause-watch : goal.returns-clause-watch
returns-clause-watch c =
    let typed = named watch_plan watch_takes in
    let behind = named_dashed watch_plan watch_takes in
    record {
      alone = λ name node are. typed name (placed node ∷ []) _ are refl refl refl;
      alone_dashed = λ name node. behind name [] (node ∷ []) _ refl refl refl refl;
      token_alone = λ name node token are.
          typed name (placed node ∷ apart (codes "--token-file") token ∷ []) _ are refl refl refl;
      token_behind = λ name node path token are.
          typed name (placed node ∷ placed path ∷ apart (codes "--token-file") token ∷ []) _ are refl refl refl;
    }

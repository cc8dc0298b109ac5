-- The commands that have options, where none is given.
use Rattle.std.proofs.Common.{[], ◌∷◌, codes, refl}
use Rattle.rds_words.specs.Spelling.{before, exactly, or_root}
use Rattle.rds_words.proofs.CommandWords.{node_on_words}
use Rattle.rds_words.proofs.Counting.{IsCountedCommand, takes_one_before, takes_part, takes_three, takes_two, takes_two_before}
use Rattle.rds_words.proofs.OptionPlans.{add_is, del_is, get_is, run_is, serve_is, set_is, show_is, sync_is}
use Rattle.rds_words.proofs.Refusing.{IsRefused}
use Rattle.rds_words.proofs.Splitting.{refused_below}
use Rattle.rds_words.proofs.WatchPlan.{watch_is}

pub set_counted : IsCountedCommand (codes "set") (exactly 3)
unfolding IsRefused node_on_words
set_counted =
    takes_three (codes "set") (λ a b c called. (refl, refl)) (λ called. tt) (λ a called. tt) (λ a b called. tt)
    (λ a b c d more called. refused_below called _ _ (codes "--" ∷ a ∷ b ∷ c ∷ d ∷ more) set_is tt)

pub add_counted : IsCountedCommand (codes "add") (exactly 3)
unfolding IsRefused node_on_words
add_counted =
    takes_three (codes "add") (λ a b c called. (refl, refl)) (λ called. tt) (λ a called. tt) (λ a b called. tt)
    (λ a b c d more called. refused_below called _ _ (codes "--" ∷ a ∷ b ∷ c ∷ d ∷ more) add_is tt)

pub del_counted : IsCountedCommand (codes "del") (exactly 3)
unfolding IsRefused node_on_words
del_counted =
    takes_three (codes "del") (λ a b c called. (refl, refl)) (λ called. tt) (λ a called. tt) (λ a b called. tt)
    (λ a b c d more called. refused_below called _ _ (codes "--" ∷ a ∷ b ∷ c ∷ d ∷ more) del_is tt)

pub get_counted : IsCountedCommand (codes "get") (exactly 2)
unfolding IsRefused node_on_words
get_counted =
    takes_two (codes "get") (λ a b called. (refl, refl)) (λ called. tt) (λ a called. tt) (λ a b c more called. refused_below called _ _ (codes "--" ∷ a ∷ b ∷ c ∷ more) get_is tt)

pub show_counted : IsCountedCommand (codes "show") (or_root 2)
unfolding IsRefused node_on_words
show_counted =
    takes_part (codes "show") (λ a b called. (refl, refl)) (λ a called. (refl, refl)) (λ called. tt)
    (λ a b c more called. refused_below called _ _ (codes "--" ∷ a ∷ b ∷ c ∷ more) show_is tt)

pub serve_counted : IsCountedCommand (codes "serve") (before 2 (codes "1" ∷ codes "60" ∷ []))
unfolding IsRefused node_on_words
serve_counted =
    takes_two_before (codes "serve") (codes "1" ∷ codes "60" ∷ []) (λ a b called. (refl, refl)) (λ called. tt) (λ a called. tt)
    (λ a b c more called. refused_below called _ _ (codes "--" ∷ a ∷ b ∷ c ∷ more) serve_is tt)

pub sync_counted : IsCountedCommand (codes "sync") (before 2 (codes "60" ∷ []))
unfolding IsRefused node_on_words
sync_counted =
    takes_two_before (codes "sync") (codes "60" ∷ []) (λ a b called. (refl, refl)) (λ called. tt) (λ a called. tt)
    (λ a b c more called. refused_below called _ _ (codes "--" ∷ a ∷ b ∷ c ∷ more) sync_is tt)

pub run_counted : IsCountedCommand (codes "run") (before 1 (codes "127.0.0.1:7780" ∷ codes "10" ∷ []))
unfolding IsRefused node_on_words
run_counted =
    takes_one_before (codes "run") (codes "127.0.0.1:7780" ∷ codes "10" ∷ []) (λ a called. (refl, refl)) (λ called. tt)
    (λ a b more called. refused_below called _ _ (codes "--" ∷ a ∷ b ∷ more) run_is tt)

pub watch_counted : IsCountedCommand (codes "watch") (or_root 2)
unfolding IsRefused node_on_words
watch_counted =
    takes_part (codes "watch") (λ a b called. (refl, refl)) (λ a called. (refl, refl)) (λ called. tt)
    (λ a b c more called. refused_below called _ _ (codes "--" ∷ a ∷ b ∷ c ∷ more) watch_is tt)

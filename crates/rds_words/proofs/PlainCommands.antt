-- The commands that have no options, one by one.
use Rattle.std.proofs.Common.{codes, refl, inl, inr}
use Rattle.rds_words.specs.Spelling.{at_least, exactly, or_root}
use Rattle.rds_words.proofs.CommandWords.{node_on_words}
use Rattle.rds_words.proofs.GrowNamed.{grow_dashed, grow_met}
use Rattle.rds_words.proofs.PlainForms.{IsPlain, no_words, one_word, part, some_names, three_words, two_words}
use Rattle.rds_words.proofs.Refusing.{IsRefused}

pub grow_plain : IsPlain (codes "grow") (at_least 2)
unfolding IsRefused node_on_words
grow_plain =
    some_names (codes "grow") grow_met refl refl (inl refl, (inl refl, (inr (refl, λ rows. tt), tt)))
    (λ a b more called. grow_dashed called a b more) tt (λ a. tt)

pub inc_plain : IsPlain (codes "inc") (exactly 3)
unfolding IsRefused node_on_words
inc_plain =
    three_words (codes "inc") (refl, refl) refl refl (inl refl, (inl refl, (inl refl, (inr (refl, λ rows. tt), tt))))
    (λ a b c called. (refl, refl)) tt (λ a. tt) (λ a b. tt) (λ a b c d more. tt)

pub dec_plain : IsPlain (codes "dec") (exactly 3)
unfolding IsRefused node_on_words
dec_plain =
    three_words (codes "dec") (refl, refl) refl refl (inl refl, (inl refl, (inl refl, (inr (refl, λ rows. tt), tt))))
    (λ a b c called. (refl, refl)) tt (λ a. tt) (λ a b. tt) (λ a b c d more. tt)

pub edit_lines_plain : IsPlain (codes "edit") (exactly 1)
unfolding IsRefused node_on_words
edit_lines_plain =
    one_word (codes "edit") (refl, refl) refl refl (inl refl, (inr (refl, λ rows. tt), tt))
    (λ a called. (refl, refl)) tt (λ a b more. tt)

pub dump_plain : IsPlain (codes "dump") (or_root 2)
unfolding IsRefused node_on_words
dump_plain =
    part (codes "dump") (refl, refl) refl refl (inl refl, (inl refl, (inr (refl, λ rows. tt), tt)))
    (λ a b called. (refl, refl)) (λ a called. (refl, refl)) tt (λ a b c more. tt)

pub pair_plain : IsPlain (codes "pair") (exactly 2)
unfolding IsRefused node_on_words
pair_plain =
    two_words (codes "pair") (refl, refl) refl refl (inl refl, (inl refl, (inr (refl, λ rows. tt), tt)))
    (λ a b called. (refl, refl)) tt (λ a. tt) (λ a b c more. tt)

pub ask_plain : IsPlain (codes "ask") (exactly 1)
unfolding IsRefused node_on_words
ask_plain =
    one_word (codes "ask") (refl, refl) refl refl (inl refl, (inr (refl, λ rows. tt), tt))
    (λ a called. (refl, refl)) tt (λ a b more. tt)

pub answer_plain : IsPlain (codes "answer") (exactly 1)
unfolding IsRefused node_on_words
answer_plain =
    one_word (codes "answer") (refl, refl) refl refl (inl refl, (inr (refl, λ rows. tt), tt))
    (λ a called. (refl, refl)) tt (λ a b more. tt)

pub take_plain : IsPlain (codes "take") (exactly 3)
unfolding IsRefused node_on_words
take_plain =
    three_words (codes "take") (refl, refl) refl refl (inl refl, (inl refl, (inl refl, (inr (refl, λ rows. tt), tt))))
    (λ a b c called. (refl, refl)) tt (λ a. tt) (λ a b. tt) (λ a b c d more. tt)

pub merge_plain : IsPlain (codes "merge") (exactly 2)
unfolding IsRefused node_on_words
merge_plain =
    two_words (codes "merge") (refl, refl) refl refl (inl refl, (inl refl, (inr (refl, λ rows. tt), tt)))
    (λ a b called. (refl, refl)) tt (λ a. tt) (λ a b c more. tt)

pub compact_plain : IsPlain (codes "compact") (exactly 1)
unfolding IsRefused node_on_words
compact_plain =
    one_word (codes "compact") (refl, refl) refl refl (inl refl, (inr (refl, λ rows. tt), tt))
    (λ a called. (refl, refl)) tt (λ a b more. tt)

pub status_plain : IsPlain (codes "status") (exactly 1)
unfolding IsRefused node_on_words
status_plain =
    one_word (codes "status") (refl, refl) refl refl (inl refl, (inr (refl, λ rows. tt), tt))
    (λ a called. (refl, refl)) tt (λ a b more. tt)

pub check_plain : IsPlain (codes "check") (exactly 2)
unfolding IsRefused node_on_words
check_plain =
    two_words (codes "check") (refl, refl) refl refl (inl refl, (inl refl, (inr (refl, λ rows. tt), tt)))
    (λ a b called. (refl, refl)) tt (λ a. tt) (λ a b c more. tt)

pub conflicts_plain : IsPlain (codes "conflicts") (or_root 2)
unfolding IsRefused node_on_words
conflicts_plain =
    part (codes "conflicts") (refl, refl) refl refl (inl refl, (inl refl, (inr (refl, λ rows. tt), tt)))
    (λ a b called. (refl, refl)) (λ a called. (refl, refl)) tt (λ a b c more. tt)

pub diff_plain : IsPlain (codes "diff") (exactly 2)
unfolding IsRefused node_on_words
diff_plain =
    two_words (codes "diff") (refl, refl) refl refl (inl refl, (inl refl, (inr (refl, λ rows. tt), tt)))
    (λ a b called. (refl, refl)) tt (λ a. tt) (λ a b c more. tt)

pub join_plain : IsPlain (codes "join") (exactly 0)
unfolding IsRefused node_on_words
join_plain =
    no_words (codes "join") (refl, refl) refl refl (inr (refl, λ rows. tt), tt)
    (λ called. (refl, refl)) (λ a more. tt)

pub sim_plain : IsPlain (codes "sim") (exactly 0)
unfolding IsRefused node_on_words
sim_plain =
    no_words (codes "sim") (refl, refl) refl refl (inr (refl, λ rows. tt), tt)
    (λ called. (refl, refl)) (λ a more. tt)

pub files_plain : IsPlain (codes "files") (exactly 0)
unfolding IsRefused node_on_words
files_plain =
    no_words (codes "files") (refl, refl) refl refl (inr (refl, λ rows. tt), tt)
    (λ called. (refl, refl)) (λ a more. tt)

pub faults_plain : IsPlain (codes "faults") (exactly 0)
unfolding IsRefused node_on_words
faults_plain =
    no_words (codes "faults") (refl, refl) refl refl (inr (refl, λ rows. tt), tt)
    (λ called. (refl, refl)) (λ a more. tt)

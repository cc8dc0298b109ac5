use Rattle.std.proofs.Common.{◌≡◌, [], ◌++◌, ◌∙◌, ap, List, ℕ}
use Rattle.std.specs.Prelude.{fold}
use Rattle.rds_life.specs.Life.{live_rows}
use Rattle.rds_counts.specs.declared.row.CountRow.{CountRow}
use Rattle.rds_counts.specs.RowsOf.{count_rows}
use Rattle.rds_bytes.specs.Numbers.{numbers_from}
use Rattle.rds_bytes.specs.Table.{add_key, live_keys, counter_keys}
use Rattle.rds_bytes.proofs.NumberLaws.{both_keys, both_numbers}
use Rattle.rds_bytes.proofs.numbering.number_keys.Goals as goal

pub returns-clause-keys : goal.returns-clause-keys
returns-clause-keys g c =
    let xs = live_keys (live_rows c.args.lives.now) in
    let ys = counter_keys (count_rows c.args.counts.now) in
    let one = c.add_lives.new.self.keys.items in
    let two = c.add_counts.new.self.keys.items in
    let p : one ≡ fold add_key [] xs = c.in_ok-lives_length.ensures.keys ∙ ap (λ (t : List (List ℕ)). fold add_key t xs) c.no_keys-numbering.ensures.keys in
    let q : two ≡ fold add_key one ys = c.in_ok-add_counts.ensures.keys ∙ ap (λ (r : List CountRow). fold add_key one (counter_keys r)) c.rows.ensures.only in
    both_keys xs ys one two c.add_lives.new.self.numbers.items c.add_counts.new.self.numbers.items p q

pub returns-clause-numbers : goal.returns-clause-numbers
returns-clause-numbers g c =
    let xs = live_keys (live_rows c.args.lives.now) in
    let ys = counter_keys (count_rows c.args.counts.now) in
    let one = c.add_lives.new.self.keys.items in
    let two = c.add_counts.new.self.keys.items in
    let first = c.add_lives.new.self.numbers.items in
    let second = c.add_counts.new.self.numbers.items in
    let p : one ≡ fold add_key [] xs = c.in_ok-lives_length.ensures.keys ∙ ap (λ (t : List (List ℕ)). fold add_key t xs) c.no_keys-numbering.ensures.keys in
    let q : two ≡ fold add_key one ys = c.in_ok-add_counts.ensures.keys ∙ ap (λ (r : List CountRow). fold add_key one (counter_keys r)) c.rows.ensures.only in
    let r : first ≡ numbers_from [] xs = c.in_ok-lives_length.ensures.numbers ∙ (λ i. c.no_keys-numbering.ensures.numbers i ++ numbers_from (c.no_keys-numbering.ensures.keys i) xs) in
    let s : second ≡ first ++ numbers_from one ys = c.in_ok-add_counts.ensures.numbers ∙ ap (λ (rows : List CountRow). first ++ numbers_from one (counter_keys rows)) c.rows.ensures.only in
    both_numbers xs ys one two first second p q r s

use Rattle.std.proofs.Common.{◌≡◌, ℕ, ◌+◌, List, length, ap, sym, subst, ◌∙◌}
use Rattle.std.specs.FinSet as set
use Rattle.std.specs.List.{AllByRecursion}
use Rattle.rds_dots.specs.Dots.{Dots}
use Rattle.rds_life.specs.Life.{seen_of}
use Rattle.rds_counts.specs.Counted.{Counted}
use Rattle.rds_counts.specs.RowsOf.{count_rows}
use Rattle.rds_bytes.specs.Spelling.{dots_text, keyed_counters_text}
use Rattle.rds_bytes.specs.TableTexts.{table_text, number_text}
use Rattle.rds_bytes.specs.Values.{IsKeyText, IsKeyed}
use Rattle.rds_codec.specs.StateTexts.{table_in}
use Rattle.rds_codec.proofs.HaveTexts.{are_counts_of, is_state_of}
use Rattle.rds_codec.proofs.StateKeys.{by_table}
use Rattle.rds_codec.proofs.Texts.{two_length}
use Rattle.rds_codec.proofs.format_two.measure_two.Goals as goal

pub returns-clause-length : goal.returns-clause-length
returns-clause-length g c =
    let v = c.args.state.now in
    let key = number_text (table_in v) in
    let table = c.table_length-keys_length.ensures.length ∙ ap (λ (keys : List (List ℕ)). length (table_text keys)) (c.deref.ensures.value ∙ c.requires.keys) in
    let dots = c.measure_dots-rows.ensures.length ∙ ap (λ (s : Dots). length (dots_text s)) (c.seen.ensures ∙ ap seen_of c.lives-lives.ensures) in
    let rows = c.requires.measured.as_long (table_in v) in
    let counts = c.numbered_counters_length.ensures.length (table_in v) ∙ ap (λ (m : Counted). length (keyed_counters_text key m)) c.counts-counts.ensures in
    (λ i. table i + dots i + rows i + counts i) ∙ sym (two_length v)

pub returns-clause-value : goal.returns-clause-value
returns-clause-value g c =
    let v = c.args.state.now in
    let seen = c.seen.ensures ∙ ap seen_of c.lives-lives.ensures in
    let rows = c.rows-rows.result.now in
    let value = sym c.counts-counts.ensures ∙ c.rows-rows.ensures.value in
    let only : count_rows v.counts ≡ rows = sym (c.rows-rows.ensures.only ∙ ap count_rows c.counts-counts.ensures) in
    let texts = subst (AllByRecursion IsKeyText) (c.deref.ensures.value ∙ c.requires.keys) c.table_length-keys_length.ensures.texts in
    is_state_of v
    (λ d h. g.met.S.DotSet.within c.seen.result.now d (ap (λ (s : Dots). set.contains s d) seen ∙ h))
    c.requires.measured.are_entries
    (are_counts_of v.counts rows c.rows-rows.ensures.are_rows value (subst (AllByRecursion IsKeyed) only (by_table v texts).counts))

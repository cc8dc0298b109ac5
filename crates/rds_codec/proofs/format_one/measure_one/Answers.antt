use Rattle.std.proofs.Common.{◌≡◌, ◌<◌, ℕ, refl, subst, ap, ◌∙◌, length, List}
use Rattle.std.specs.List.{flat_map, AllByRecursion}
use Rattle.std.specs.FinSet as set
use Rattle.rds_counts.specs.Place.{Place}
use Rattle.rds_bytes.specs.Values.{IsLiveRow, AreCountsOf}
use Rattle.rds_state.proofs.FitsLemmas.{fits_dots}
use Rattle.rds_codec.proofs.HaveTexts.{is_state_of}
use Rattle.rds_counts.specs.Counted.{Counted, number}
use Rattle.rds_names.specs.declared.entry.Entry.{Entry}
use Rattle.rds_dots.specs.declared.dot.Dot.{Dot}
use Rattle.rds_dots.specs.Dots.{Dots}
use Rattle.rds_life.specs.Life.{seen_of, live_rows}
use Rattle.rds_bytes.specs.Spelling.{dots_text, live_row_text, counters_text}
use Rattle.rds_codec.proofs.Texts.{one_length}
use Rattle.rds_codec.proofs.format_one.measure_one.Given.{Over}
use Rattle.rds_codec.proofs.format_one.measure_one.Goals.{After-counters_length}
use Rattle.rds_codec.proofs.format_one.measure_one.Goals as goal

seen_is : (g : Over) (c : After-counters_length g) → g.S.DotSet.contents c.seen.result.now ≡ seen_of c.args.state.now.lives
seen_is g c = c.seen.ensures ∙ ap seen_of c.lives-lives.ensures

live_is : (g : Over) (c : After-counters_length g) → live_rows c.lives-lives.result.now ≡ live_rows c.args.state.now.lives
live_is g c = ap live_rows c.lives-lives.ensures

pub returns-clause-length : goal.returns-clause-length
returns-clause-length g c =
    let v = c.args.state.now in
    one_length v c.measure_dots-rows.result.1 c.live_rows_length-live_length.result c.counters_length.result
    (c.measure_dots-rows.ensures.length ∙ ap (λ (s : Dots). length (dots_text s)) (seen_is g c))
    (c.live_rows_length-live_length.ensures.length ∙ ap (λ (rows : List (Dot × Entry)). length (flat_map live_row_text rows)) (live_is g c))
    (c.counters_length.ensures.length ∙ ap (λ (m : Counted). length (counters_text m)) c.counts.ensures)

pub returns-clause-dots : goal.returns-clause-dots
returns-clause-dots g c = λ replicas fits d h.
    let v = c.args.state.now in
    (g.met.S.DotSet.within c.seen.result.now d (ap (λ (s : Dots). set.contains s d) (seen_is g c) ∙ h), fits_dots replicas v (seen_of v.lives) refl fits d h)

pub returns-clause-value : goal.returns-clause-value
returns-clause-value g c =
    let v = c.args.state.now in
    is_state_of v
    (λ d h. g.met.S.DotSet.within c.seen.result.now d (ap (λ (s : Dots). set.contains s d) (seen_is g c) ∙ h))
    (subst (AllByRecursion IsLiveRow) (live_is g c) c.live_rows_length-live_length.ensures.are_entries)
    (subst (λ (m : Counted). (replicas : ℕ) → ((q : Place) → 0 < number m q → q.replica < replicas) → AreCountsOf replicas m) c.counts.ensures c.counters_length.ensures.are_counts)

use Rattle.std.proofs.Common.{◌≡◌, ◌<◌, ◌+◌, ◌-◌, ◌*◌, true, not, refl, sym, subst, ap, ◌∙◌, arith, List, ℕ, ◌++◌}
use Rattle.rds_bytes.specs.Packed.{packed_text}
use Rattle.rds_briefs.specs.Lives.{lives_in, stretch_at}
use Rattle.rds_briefs.specs.BriefTexts.{lengths_text}
use Rattle.rds_briefs.proofs.StretchLemmas.{stretch_of}
use Rattle.rds_briefs.proofs.Putting.{IsPutting, put_begins, put_more, put_ends}
use Rattle.rds_briefs.proofs.LengthSteps.{lengths_left, is_none, all_lengths, next_length, fewer_left, no_lengths}
use Rattle.rds_briefs.proofs.writing.put_lengths.Goals as goal

pub telling-init : goal.telling-init
telling-init g c =
    let f = lives_in (g.S.DotSet.contents c.args.live.now) c.args.first.replica in
    let text = c.args.text.now in
    let whole = lengths_text f c.args.first.seq c.args.count in
    record {
      put = subst (λ (l : List ℕ). IsPutting text text l whole) (sym (all_lengths f true c.args.first.seq c.args.count (omega (arith, c.requires.some)))) (put_begins text whole);
      place = refl;
      from = c.requires.from_one;
    }

pub put_packed-requires : goal.put_packed-requires
put_packed-requires g c =
    let f = lives_in (g.S.DotSet.contents c.args.live.now) c.args.first.replica in
    let is = c.stretch-length.ensures in
    let within = (stretch_of f c.telling.is_live c.telling.seq c.telling.left).within in
    let most = c.requires.most in
    let place = c.telling.invariant.place in
    omega (arith, is, within, most, place)

pub overflow_add-seq : goal.overflow_add-seq
overflow_add-seq g c =
    let f = lives_in (g.S.DotSet.contents c.args.live.now) c.args.first.replica in
    let is = c.stretch-length.ensures in
    let within = (stretch_of f c.telling.is_live c.telling.seq c.telling.left).within in
    let most = c.requires.most in
    let place = c.telling.invariant.place in
    omega (arith, is, within, most, place)

pub overflow_sub-left : goal.overflow_sub-left
overflow_sub-left g c =
    let f = lives_in (g.S.DotSet.contents c.args.live.now) c.args.first.replica in
    let is = c.stretch-length.ensures in
    let within = (stretch_of f c.telling.is_live c.telling.seq c.telling.left).within in
    omega (arith, is, within)

pub telling-preserved : goal.telling-preserved
telling-preserved g c =
    let f = lives_in (g.S.DotSet.contents c.args.live.now) c.args.first.replica in
    let b = c.telling.is_live in
    let seq = c.telling.seq in
    let left = c.telling.left in
    let m = c.stretch-length.result in
    let is : m ≡ stretch_at f b seq left = c.stretch-length.ensures in
    let within = (stretch_of f b seq left).within in
    let old = c.args.text.now in
    let now = c.telling.text in
    let whole = lengths_text f c.args.first.seq c.args.count in
    let next = next_length f b seq left c.telling-test.true ∙ ap (λ (n : ℕ). packed_text n ++ lengths_left f (not b) (seq + n) (left - n)) (sym is) in
    let place = c.telling.invariant.place in
    let from = c.telling.invariant.from in
    record {
      put = put_more old now c.put_packed.new.self (packed_text m) (lengths_left f (not b) (seq + m) (left - m)) whole (subst (λ (l : List ℕ). IsPutting old now l whole) next c.telling.invariant.put) c.put_packed.ensures;
      place = omega (arith, place, within, is);
      from = omega (arith, from);
    }

pub telling-smaller : goal.telling-smaller
telling-smaller g c =
    let f = lives_in (g.S.DotSet.contents c.args.live.now) c.args.first.replica in
    let b = c.telling.is_live in
    let seq = c.telling.seq in
    let left = c.telling.left in
    subst (λ (n : ℕ). 2 * (left - n) + is_none f (not b) (seq + n) < 2 * left + is_none f b seq) (sym c.stretch-length.ensures) (fewer_left f b seq left c.telling-test.true)

pub returns : goal.returns
returns g c =
    let f = lives_in (g.S.DotSet.contents c.args.live.now) c.args.first.replica in
    let whole = lengths_text f c.args.first.seq c.args.count in
    put_ends c.args.text.now c.telling.text whole (subst (λ (l : List ℕ). IsPutting c.args.text.now c.telling.text l whole) (no_lengths f c.telling.is_live c.telling.seq c.telling.left (omega (arith, c.telling-test.false))) c.telling.invariant.put)

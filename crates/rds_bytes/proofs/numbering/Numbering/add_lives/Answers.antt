use Rattle.std.proofs.Common.{true, Bool, rules, ◌+◌, ◌≡◌, ◌++◌, ◌∙◌, ap, sym, List, ◌∷◌, ℕ}
use Rattle.std.specs.Prelude.{fold}
use Rattle.rds_names.specs.declared.entry.Entry.{Entry}
use Rattle.rds_life.specs.Life.{live_rows}
use Rattle.rds_dots.specs.declared.dot.Dot.{Dot}
use Rattle.rds_bytes.specs.Numbers.{numbered_length, numbers_from}
use Rattle.std.specs.List.{list_all}
use Rattle.rds_bytes.specs.Values.{is_key_text, IsLiveRow}
use Rattle.rds_bytes.specs.Table.{add_key, live_keys}
use Rattle.rds_bytes.proofs.NumberedTexts.{lives_length}
use Rattle.rds_bytes.proofs.NumberLaws.{row_folded, row_numbered}
use Rattle.rds_bytes.proofs.numbering.Numbering.add_lives.Goals as goal

pub loop-dot-preserved : goal.loop-dot-preserved
loop-dot-preserved g c =
    let row : Dot × Entry = (c.in-Some._dot, c.in-Some.entry.now) in
    let rows = c.next.new.self in
    let is : c.loop-dot._dot-iterator ≡ row ∷ rows = c.in-Some.ensures.steps in
    let t = c.loop-dot.self.keys.items in
    let ns = c.loop-dot.self.numbers.items in
    let a = c.add_path.new.self.keys.items in
    let path = c.keys-keys.ensures.keys in
    let keys : a ≡ fold add_key t row.1.path = c.in_ok-add_path.ensures.keys ∙ ap (fold add_key t) path in
    let numbers : c.add_path.new.self.numbers.items ≡ ns ++ numbers_from t row.1.path = c.in_ok-add_path.ensures.numbers ∙ ap (λ (x : List (List ℕ)). ns ++ numbers_from t x) path in
    let texts : list_all is_key_text row.1.path ≡ true = ap (λ (x : List (List ℕ)). list_all is_key_text x) (sym path) ∙ c.in_ok-add_path.ensures.texts in
    let entry : IsLiveRow row = (texts, c.numbered_row_length-length.ensures.scalar) in (
      row_folded a t _ row rows (ap (λ (r : List (Dot × Entry)). fold add_key t (live_keys r)) (sym is) ∙ c.loop-dot.invariant.0) keys,
      (
        row_numbered a t c.add_path.new.self.numbers.items ns _ row rows (ap (λ (r : List (Dot × Entry)). ns ++ numbers_from t (live_keys r)) (sym is) ∙ c.loop-dot.invariant.1.0) keys numbers,
        (c.in_ok-add_path.ensures.found, search rules),
      ),
    )

pub returns-clause-measured : goal.returns-clause-measured
returns-clause-measured g c =
    let rows = live_rows c.args.lives.now in
    let is = c.loop-dot.invariant.1.1.1 in
    let total : c.loop-dot.length ≡ 4 + numbered_length rows = search rules in
    record { as_long = λ table. total ∙ lives_length rows table; most = search rules; few = search rules; are_entries = search rules }

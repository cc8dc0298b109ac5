use Rattle.std.proofs.Common.{rules, ◌≡◌, ◌∙◌, Some, false, length, sym}
use Rattle.rds_bytes.specs.Numbers.{place_in}
use Rattle.rds_bytes.specs.Table.{has_key}
use Rattle.rds_bytes.proofs.PlaceLaws.{its_number}
use Rattle.rds_bytes.proofs.TableLaws.{number_none}
use Rattle.rds_bytes.proofs.numbering.Numbering.look_up.Goals.{in-Some, in-None+in_ok-found-in-None}
use Rattle.rds_bytes.proofs.numbering.Numbering.look_up.Goals as goal

pub returns-clause-number : goal.returns-clause-number
returns-clause-number c =
    let keys = c.args.self.now.keys.items in
    let key = c.args.key.now in
    c.in_ok-number.ensures.number ∙ elim c.match-known.branch [
      | in-Some w ↦
          let placed : place_in keys key ≡ Some c.match-known.found = search rules in
          its_number keys key c.match-known.found placed
      | in-None+in_ok-found-in-None w ↦
          let new : has_key keys key ≡ false = search rules in
          let next : c.match-known.found ≡ length keys = search rules in
          next ∙ sym (number_none keys key new)
    ]

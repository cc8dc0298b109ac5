use Rattle.std.proofs.Common.{rules, ◌≡◌, ◌<◌, Some, take, length, refl}
use Rattle.std.specs.Prelude.{slice_get}
use Rattle.std.proofs.lemmas.Option.{slice_get_read}
use Rattle.rds_bytes.proofs.PlaceLaws.{next_found, next_is_new, so_many}
use Rattle.rds_bytes.proofs.places.KeyPlaces.with_keys.Goals as goal

pub loop-number-preserved : goal.loop-number-preserved
loop-number-preserved c =
    let keys = c.args.keys.now in
    let n = c.loop-number.number in
    let key = c.index-keys-number.result in
    let within : n < length keys = search rules in
    let at : slice_get keys n ≡ Some key = slice_get_read keys (length keys) n key refl within c.index-keys-number.is in
    let new = next_is_new keys n key c.requires at in
    next_found _ keys n key at (c.in_ok-note.ensures.found (take n keys) c.loop-number.invariant (so_many keys n key at) new)

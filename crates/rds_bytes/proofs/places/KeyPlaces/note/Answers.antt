use Rattle.std.proofs.Common.{rules, ◌≡◌, ◌<◌, ◌∙◌, ℕ, [], Some, true, false, length, refl, sym, ap}
use Rattle.std.proofs.Math.ListN.{set, get_or}
use Rattle.std.proofs.lemmas.List.{set-get_or}
use Rattle.std.specs.Prelude.{bit_and}
use Rattle.std.specs.BTreeMap.{Updates}
use Rattle.rds_bytes.specs.Marks.{mark}
use Rattle.rds_bytes.specs.Places.{placed, has_room, pushed, bucket_of}
use Rattle.rds_bytes.proofs.KeyLoops.{pair_cmp}
use Rattle.rds_bytes.proofs.PlaceLaws.{put_in_bucket, put_elsewhere}
use Rattle.rds_bytes.proofs.places.KeyPlaces.note.Goals.{in-Some+else-put, in_default}
use Rattle.rds_bytes.proofs.places.KeyPlaces.note.Goals as goal

pub returns-then-put-clause-found : goal.returns-then-put-clause-found
returns-then-put-clause-found c keys are counted new =
    let places = c.args.self.now in
    let key = c.args.key.now in
    let items = places.buckets.items in
    let index : c.bucket_of-at.result ≡ bit_and (mark key) places.mask = c.bucket_of-at.ensures ∙ ap (λ (m : ℕ). bit_and m places.mask) c.requires.mark in
    let within : c.bucket_of-at.result < length items = search rules in
    let at : bit_and (mark key) places.mask < length items = rw index at within in
    let bucket : c.in-Some.bucket.now ≡ get_or items c.bucket_of-at.result [] = search rules in
    let its : c.in-Some.bucket.now ≡ bucket_of places (mark key) = bucket ∙ ap (λ (i : ℕ). get_or items i []) index in
    let place : c.in_ok-place.place ≡ placed (mark key) (length keys) = c.in_ok-place.ensures.place ∙ (λ i. placed (c.requires.mark i) (counted i)) in
    let room : has_room (bucket_of places (mark key)) ≡ true = ap has_room (sym its) ∙ sym c.put.ensures.room ∙ c.if-put.true in
    let more : c.put.new.bucket ≡ pushed (placed (mark key) (length keys)) (bucket_of places (mark key)) = c.if-put.ensures.put ∙ (λ i. pushed (place i) (its i)) in
    put_in_bucket keys key new places _ are refl refl room at (λ i. set items (index i) (more i))

pub returns-clause-found : goal.returns-clause-found
returns-clause-found c keys are counted new =
    let places = c.args.self.now in
    let key = c.args.key.now in
    let items = places.buckets.items in
    let index : c.bucket_of-at.result ≡ bit_and (mark key) places.mask = c.bucket_of-at.ensures ∙ ap (λ (m : ℕ). bit_and m places.mask) c.requires.mark in
    let copied : c.in_ok-copy.field-0 ≡ key = c.in_ok-copy.ensures.ok in
    let updates : c.match-get_mut.self.others ≡ places.others → Updates pair_cmp places.others c.insert.new.self (c.args.mark, key) (Some (length keys)) =
    λ same. coe 0 1 (i. Updates pair_cmp (same i) c.insert.new.self (c.args.mark, copied i) (Some (counted i))) c.in_ok-insert.ensures.updates in
    elim c.match-get_mut.branch [
      | in-Some+else-put w ↦
          let bucket : w.in-Some.bucket.now ≡ get_or items c.bucket_of-at.result [] = search rules in
          let its : w.in-Some.bucket.now ≡ bucket_of places (mark key) = bucket ∙ ap (λ (i : ℕ). get_or items i []) index in
          let full : has_room (bucket_of places (mark key)) ≡ false = ap has_room (sym its) ∙ sym w.put.ensures.room ∙ w.if-put.false in
          let back : w.put.new.bucket ≡ get_or items c.bucket_of-at.result [] = w.if-put.ensures.put ∙ bucket in
          let buckets : c.match-get_mut.self.buckets.items ≡ items =
          ap (λ s. s.buckets.items) w.self-is ∙ ap (set items c.bucket_of-at.result) back ∙ set-get_or items c.bucket_of-at.result [] in
          put_elsewhere keys key new places _ are c.args.mark c.requires.mark (ap (λ s. s.mask) w.self-is) buckets full (updates (ap (λ s. s.others) w.self-is))
      | in_default w ↦
          let none : get_or items c.bucket_of-at.result [] ≡ [] = search rules in
          let full : has_room (bucket_of places (mark key)) ≡ false = ap (λ (i : ℕ). has_room (get_or items i [])) (sym index) ∙ ap has_room none in
          put_elsewhere keys key new places _ are c.args.mark c.requires.mark (ap (λ s. s.mask) w.self-is) (ap (λ s. s.buckets.items) w.self-is) full (updates (ap (λ s. s.others) w.self-is))
    ]

use Rattle.rds_keep.proofs.BehindParts.{decoded_refused, decoded_stops, decoded_stored, decoded_whole, end_fault, err_then, ok_then, rest_fault, taken_bytes, taken_is_file, taken_length, taken_value}
use Rattle.rds_keep.proofs.stored.decode_behind.Goals as goal

pub take_records-requires : goal.take_records-requires
take_records-requires g c =
    rw c.of-replay.ensures (record { member = c.requires.front.value.member })

pub ended-requires-clause-value : goal.ended-requires-clause-value
ended-requires-clause-value g c =
    let front = c.args.front in
    let taken = rw c.of-replay.ensures at c.in-Ok.ensures.taken in
    taken_value front.format front.is_summed front.replica front.length c.take_records.new.self c.args.behind.now c.in-Ok.rest.now c.requires.front taken

pub ended-requires-clause-file : goal.ended-requires-clause-file
ended-requires-clause-file g c =
    let front = c.args.front in
    let taken = rw c.of-replay.ensures at c.in-Ok.ensures.taken in
    (taken_bytes front.format front.is_summed front.replica front.length c.take_records.new.self c.args.behind.now c.in-Ok.rest.now c.requires.front taken, taken_is_file front.format front.is_summed front.replica front.length c.take_records.new.self c.args.behind.now c.in-Ok.rest.now c.requires.front taken, taken_length front.format front.is_summed front.replica front.length c.take_records.new.self c.args.behind.now c.in-Ok.rest.now c.requires.front taken)

pub returns-in-Ok-clause-stored : goal.returns-in-Ok-clause-stored
returns-in-Ok-clause-stored g c =
    let front = c.args.front in
    let taken = rw c.of-replay.ensures at c.in-Ok.ensures.taken in
    let stored = c.ended.ensures.stored (taken_bytes front.format front.is_summed front.replica front.length c.take_records.new.self c.args.behind.now c.in-Ok.rest.now c.requires.front taken) (taken_is_file front.format front.is_summed front.replica front.length c.take_records.new.self c.args.behind.now c.in-Ok.rest.now c.requires.front taken) (taken_length front.format front.is_summed front.replica front.length c.take_records.new.self c.args.behind.now c.in-Ok.rest.now c.requires.front taken) in
    ok_then c.ended.result stored (λ s has. decoded_stored front.format front.is_summed front.replica front.length c.take_records.new.self c.args.behind.now c.in-Ok.rest.now c.requires.front taken s.kept s.layout c.requires.alone has)

pub returns-in-Ok-clause-refused : goal.returns-in-Ok-clause-refused
returns-in-Ok-clause-refused g c =
    let front = c.args.front in
    let taken = rw c.of-replay.ensures at c.in-Ok.ensures.taken in
    err_then c.ended.result c.ended.ensures.refused (λ r why. decoded_refused front.format front.is_summed front.replica front.length c.take_records.new.self c.args.behind.now c.in-Ok.rest.now c.requires.front taken r.fault c.requires.alone c.in-Ok.ensures.end why)

pub returns-in-Ok-clause-at : goal.returns-in-Ok-clause-at
returns-in-Ok-clause-at g c =
    let front = c.args.front in
    let taken = rw c.of-replay.ensures at c.in-Ok.ensures.taken in
    err_then c.ended.result c.ended.ensures.at (λ r same. decoded_whole front.format front.is_summed front.replica front.length c.take_records.new.self c.args.behind.now c.in-Ok.rest.now c.requires.front taken r.at same)

pub returns-in-Ok-clause-fault : goal.returns-in-Ok-clause-fault
returns-in-Ok-clause-fault g c =
    err_then c.ended.result c.ended.ensures.refused (λ r why. end_fault _ _ r.fault why)

pub returns-in-Err-clause-refused : goal.returns-in-Err-clause-refused
returns-in-Err-clause-refused g c =
    let front = c.args.front in
    let stops = rw c.of-replay.ensures at c.in-Err.ensures.stops in
    decoded_stops front.format front.is_summed front.replica front.length c.take_records.new.self c.args.behind.now c.in-Err.fault c.requires.front c.requires.alone stops

pub returns-in-Err-clause-at : goal.returns-in-Err-clause-at
returns-in-Err-clause-at g c =
    let front = c.args.front in
    let stops = rw c.of-replay.ensures at c.in-Err.ensures.stops in
    decoded_whole front.format front.is_summed front.replica front.length c.take_records.new.self c.args.behind.now stops.rest c.requires.front stops.taken c.whole.result c.whole.ensures

pub returns-in-Err-clause-fault : goal.returns-in-Err-clause-fault
returns-in-Err-clause-fault g c =
    let front = c.args.front in
    let stops = rw c.of-replay.ensures at c.in-Err.ensures.stops in
    rest_fault c.take_records.new.self stops.rest c.in-Err.fault stops.refused

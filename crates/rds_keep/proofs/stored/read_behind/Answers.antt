use Rattle.std.proofs.Common.{inr}
use Rattle.rds_keep.proofs.BehindParts.{behind_refused, behind_stops, behind_stops_whole, behind_stored, behind_whole, end_fault, err_then, ok_on, on_on, read_bytes, read_is_file, read_length, read_value, stop_fault}
use Rattle.rds_keep.proofs.stored.read_behind.Goals as goal

pub read_records-requires-clause-member : goal.read_records-requires-clause-member
read_records-requires-clause-member g c = rw c.of-replay.ensures (let is = c.requires.front.value in is.member)

-- ---- the rest may be a torn end

pub ended-requires-clause-value : goal.ended-requires-clause-value
ended-requires-clause-value g c =
    let front = c.args.front in
    let read = rw c.of-replay.ensures at c.in-Ok.ensures.read in
    read_value front.format front.is_summed front.replica front.length c.read_records.new.self (g.R.Read.remaining c.args.reader.now.inner) (g.R.Read.remaining c.read_records.new.reader.inner) c.args.behind.items c.in-Ok.rest.items c.requires.front read

pub ended-requires-clause-file : goal.ended-requires-clause-file
ended-requires-clause-file g c =
    let front = c.args.front in
    let read = rw c.of-replay.ensures at c.in-Ok.ensures.read in (
      read_bytes front.format front.is_summed front.replica front.length c.read_records.new.self (g.R.Read.remaining c.args.reader.now.inner) (g.R.Read.remaining c.read_records.new.reader.inner) c.args.behind.items c.in-Ok.rest.items c.requires.front read,
      read_is_file front.format front.is_summed front.replica front.length c.read_records.new.self (g.R.Read.remaining c.args.reader.now.inner) (g.R.Read.remaining c.read_records.new.reader.inner) c.args.behind.items c.in-Ok.rest.items c.requires.front read,
      read_length front.format front.is_summed front.replica front.length c.read_records.new.self (g.R.Read.remaining c.args.reader.now.inner) (g.R.Read.remaining c.read_records.new.reader.inner) c.args.behind.items c.in-Ok.rest.items c.requires.front read,
    )

pub returns-in-Ok-clause-stored : goal.returns-in-Ok-clause-stored
returns-in-Ok-clause-stored g c =
    let front = c.args.front in
    let read = rw c.of-replay.ensures at c.in-Ok.ensures.read in
    let stored = rw c.deref.ensures.value at (c.ended.ensures.stored (read_bytes front.format front.is_summed front.replica front.length c.read_records.new.self (g.R.Read.remaining c.args.reader.now.inner) (g.R.Read.remaining c.read_records.new.reader.inner) c.args.behind.items c.in-Ok.rest.items c.requires.front read) (read_is_file front.format front.is_summed front.replica front.length c.read_records.new.self (g.R.Read.remaining c.args.reader.now.inner) (g.R.Read.remaining c.read_records.new.reader.inner) c.args.behind.items c.in-Ok.rest.items c.requires.front read) (read_length front.format front.is_summed front.replica front.length c.read_records.new.self (g.R.Read.remaining c.args.reader.now.inner) (g.R.Read.remaining c.read_records.new.reader.inner) c.args.behind.items c.in-Ok.rest.items c.requires.front read)) in
    let torn = rw c.deref.ensures.value at c.ended.ensures.torn in
    ok_on c.ended.result stored torn (λ s has ends. behind_stored front.format front.is_summed front.replica front.length c.read_records.new.self (g.R.Read.remaining c.args.reader.now.inner) (g.R.Read.remaining c.read_records.new.reader.inner) c.args.behind.items c.in-Ok.rest.items c.requires.front read s.kept s.layout c.requires.alone ends c.in-Ok.ensures.end has)

pub returns-in-Ok-clause-end : goal.returns-in-Ok-clause-end
returns-in-Ok-clause-end g c =
    let torn = rw c.deref.ensures.value at c.ended.ensures.torn in
    on_on c.ended.result torn (λ ends. c.in-Ok.ensures.end ends.short)

pub returns-in-Ok-clause-refused : goal.returns-in-Ok-clause-refused
returns-in-Ok-clause-refused g c =
    let front = c.args.front in
    let read = rw c.of-replay.ensures at c.in-Ok.ensures.read in
    err_then c.ended.result (rw c.deref.ensures.value at c.ended.ensures.refused) (λ r why. behind_refused front.format front.is_summed front.replica front.length c.read_records.new.self (g.R.Read.remaining c.args.reader.now.inner) (g.R.Read.remaining c.read_records.new.reader.inner) c.args.behind.items c.in-Ok.rest.items c.requires.front read r.fault c.requires.alone c.in-Ok.ensures.none c.in-Ok.ensures.end why)

pub returns-in-Ok-clause-at : goal.returns-in-Ok-clause-at
returns-in-Ok-clause-at g c =
    let front = c.args.front in
    let read = rw c.of-replay.ensures at c.in-Ok.ensures.read in
    err_then c.ended.result c.ended.ensures.at (λ r same. behind_whole front.format front.is_summed front.replica front.length c.read_records.new.self (g.R.Read.remaining c.args.reader.now.inner) (g.R.Read.remaining c.read_records.new.reader.inner) c.args.behind.items c.in-Ok.rest.items c.requires.front read r.at same)

pub returns-in-Ok-clause-fault : goal.returns-in-Ok-clause-fault
returns-in-Ok-clause-fault g c =
    err_then c.ended.result c.ended.ensures.refused (λ r why. inr (end_fault _ _ r.fault why))

-- ---- a record is refused

pub returns-in-Err-clause-refused : goal.returns-in-Err-clause-refused
returns-in-Err-clause-refused g c =
    let front = c.args.front in
    let stops = rw c.of-replay.ensures at c.in-Err.ensures.stops in
    behind_stops front.format front.is_summed front.replica front.length c.read_records.new.self (g.R.Read.remaining c.args.reader.now.inner) (g.R.Read.remaining c.read_records.new.reader.inner) c.args.behind.items c.in-Err.fault c.requires.front c.requires.alone stops

pub returns-in-Err-clause-at : goal.returns-in-Err-clause-at
returns-in-Err-clause-at g c =
    let front = c.args.front in
    let stops = rw c.of-replay.ensures at c.in-Err.ensures.stops in
    behind_stops_whole front.format front.is_summed front.replica front.length c.read_records.new.self (g.R.Read.remaining c.args.reader.now.inner) (g.R.Read.remaining c.read_records.new.reader.inner) c.args.behind.items c.in-Err.fault c.whole.result c.requires.front stops c.whole.ensures

pub returns-in-Err-clause-fault : goal.returns-in-Err-clause-fault
returns-in-Err-clause-fault g c =
    stop_fault _ _ _ _ _ c.in-Err.fault c.in-Err.ensures.stops

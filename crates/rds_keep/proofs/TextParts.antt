-- A text that wasn't begun, and one that was written whole.
use Rattle.std.proofs.Common.{ℕ, ◌<◌, List, length, sym, subst, Option, Result, Ok, Err, OnErr, arith}
use Rattle.std.specs.Io.KnownBytes.{Appends, Keeps}
use Rattle.std.proofs.KnownBytes.{Appends-nil, Appends-kept}
use Rattle.std.proofs.lemmas.List.{take_all}
use Rattle.rds_names.specs.declared.fault.Fault.{Fault}
use Rattle.rds_state.specs.Fits.{ReplicaValue}
use Rattle.rds_codec.specs.StateTexts.{snapshot_text, snapshot_text_in}
use Rattle.rds_keep.specs.Parts.{AppendsFront, AppendsPart}

-- a snapshot's text has bytes
has_bytes : (v : ReplicaValue) → 0 < length (snapshot_text v)
unfolding snapshot_text_in
has_bytes v = omega arith

-- nothing of it was written
not_begun : (known : Option (List ℕ)) (v : ReplicaValue) → AppendsPart known known (snapshot_text v)
not_begun known v = (0, has_bytes v, Appends-nil known)

pub refused_before : {T : Type 0} (known : Option (List ℕ)) (v : ReplicaValue) (result : Result T Fault) → OnErr result (AppendsPart known known (snapshot_text v))
refused_before known v (Ok x) = tt
refused_before known v (Err e) = not_begun known v

-- all of it was written, and stayed
written_whole : (first now next : Option (List ℕ)) (text : List ℕ) → Appends first now text → Keeps now next → AppendsFront first next text
written_whole first now next text p q = (length text, omega arith, subst (Appends first next) (sym (take_all (length text) text (omega arith))) (Appends-kept first now next text p q))

pub refused_after : {T : Type 0} (first now next : Option (List ℕ)) (text : List ℕ) (result : Result T Fault) → Appends first now text → Keeps now next → OnErr result (AppendsFront first next text)
refused_after first now next text (Ok x) p q = tt
refused_after first now next text (Err e) p q = written_whole first now next text p q

pub stays_written : (first now next : Option (List ℕ)) (text : List ℕ) → Appends first now text → Keeps now next → Appends first next text
stays_written first now next text p q = Appends-kept first now next text p q

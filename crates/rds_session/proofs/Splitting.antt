-- A stream has one reading as messages and a rest.
use Rattle.std.proofs.Common.{◌≡◌, ℕ, zero, suc, ◌+◌, ◌-◌, ◌*◌, ◌/◌, ◌%◌, ◌<◌, ◌≤◌, false, eqb, List, [], ◌∷◌, ◌++◌, length, refl, sym, ap, ◌∙◌, arith, append_assoc, map}
use Rattle.std.specs.Prelude.{◌==◌, if◌then◌else◌}
use Rattle.std.specs.List.{flat_map, AllByRecursion}
use Rattle.std.proofs.lemmas.Bool.{ne_eqb}
use Rattle.std.proofs.lemmas.List.{append-nil}
use Rattle.std.proofs.lemmas.List.Concat.{flat_map-cons}
use Rattle.rds_session.specs.declared.chunks.Place.{Place}
use Rattle.rds_session.specs.declared.chunks.Place.TheVariants.{First, Second, Within}
use Rattle.rds_session.specs.Chunks.{place_left, chunk_text, message_text}
use Rattle.rds_session.specs.Stream.{IsChunk, AreChunks, contents_of, IsChunkFront, IsPart, Splits, AreSplitOnce}
use Rattle.rds_session.proofs.Messages.{high_low}

-- each message that has ended, and the bytes since
abbrev pub then_message : List ℕ → List (List ℕ) × List ℕ → List (List ℕ) × List ℕ
then_message m p = (m ∷ p.0, p.1)

unfoldable pub split_from : List ℕ → Place → List ℕ → List ℕ → List (List ℕ) × List ℕ
split_from [] place held raw = ([], raw)
split_from (b ∷ bs) First held raw = split_from bs (Second b) held (raw ++ b ∷ [])
split_from (b ∷ bs) (Second high) held raw =
    if high * 256 + b == 0 then then_message held (split_from bs First [] []) else split_from bs (Within (high * 256 + b)) held (raw ++ b ∷ [])
split_from (b ∷ bs) (Within left) held raw = split_from bs (place_left (left - 1)) (held ++ b ∷ []) (raw ++ b ∷ [])

-- the messages of a stream, and its rest
abbrev pub messages_of : List ℕ → List (List ℕ) × List ℕ
messages_of x = split_from x First [] []

split_one : (b : ℕ) (bs : List ℕ) (left : ℕ) (held raw : List ℕ) → split_from (b ∷ bs) (place_left (suc left)) held raw ≡ split_from bs (place_left left) (held ++ b ∷ []) (raw ++ b ∷ [])
unfolding split_from
split_one b bs left held raw = let less : suc left - 1 ≡ left = omega arith in let some : eqb (suc left) 0 ≡ false = ne_eqb (suc left) 0 (omega arith) in rw (some, less) refl

split_run : (run more : List ℕ) (left : ℕ) (held raw : List ℕ) → length run ≤ left
    → split_from (run ++ more) (place_left left) held raw ≡ split_from more (place_left (left - length run)) (held ++ run) (raw ++ run)
split_run [] more left held raw le = let same : left - 0 ≡ left = omega arith in rw (same, append-nil held, append-nil raw) refl
split_run (b ∷ run) more zero held raw le = absurd (omega arith)
split_run (b ∷ run) more (suc left) held raw le =
    let less : suc left - suc (length run) ≡ left - length run = omega arith in
    split_one b (run ++ more) left held raw
    ∙ split_run run more left (held ++ b ∷ []) (raw ++ b ∷ []) (omega arith)
    ∙ rw (less, append_assoc held (b ∷ []) run, append_assoc raw (b ∷ []) run) refl

split_length : (high low : ℕ) (more held raw : List ℕ) → 0 < high * 256 + low
    → split_from (high ∷ low ∷ more) First held raw ≡ split_from more (place_left (high * 256 + low)) held (raw ++ high ∷ low ∷ [])
unfolding split_from
split_length high low more held raw pos =
    let some : eqb (high * 256 + low) 0 ≡ false = ne_eqb (high * 256 + low) 0 (omega arith) in
    rw (some, append_assoc raw (high ∷ []) (low ∷ [])) refl

split_chunk : (c more held raw : List ℕ) → IsChunk c → split_from (chunk_text c ++ more) First held raw ≡ split_from more First (held ++ c) (raw ++ chunk_text c)
split_chunk c more held raw h =
    let n = length c in
    let high = n / 256 % 256 in
    let low = n % 256 in
    let e : high * 256 + low ≡ n = high_low n h.1 in
    let none : n - length c ≡ 0 = omega arith in
    split_length high low (c ++ more) held raw (omega (arith, e, h.0))
    ∙ ap (λ (k : ℕ). split_from (c ++ more) (place_left k) held (raw ++ high ∷ low ∷ [])) e
    ∙ split_run c more n held (raw ++ high ∷ low ∷ []) (omega arith)
    ∙ rw (none, append_assoc raw (high ∷ low ∷ []) c) refl

split_chunks : (cs : List (List ℕ)) (more held raw : List ℕ) → AreChunks cs
    → split_from (flat_map chunk_text cs ++ more) First held raw ≡ split_from more First (held ++ contents_of cs) (raw ++ flat_map chunk_text cs)
split_chunks [] more held raw h = rw (append-nil held, append-nil raw) refl
split_chunks (c ∷ cs) more held raw h =
    let one : flat_map chunk_text (c ∷ cs) ++ more ≡ chunk_text c ++ (flat_map chunk_text cs ++ more) =
    ap (λ (t : List ℕ). t ++ more) (flat_map-cons chunk_text c cs) ∙ append_assoc (chunk_text c) (flat_map chunk_text cs) more in
    let texts : (raw ++ chunk_text c) ++ flat_map chunk_text cs ≡ raw ++ flat_map chunk_text (c ∷ cs) =
    append_assoc raw (chunk_text c) (flat_map chunk_text cs) ∙ ap (λ (t : List ℕ). raw ++ t) (sym (flat_map-cons chunk_text c cs)) in
    ap (λ (t : List ℕ). split_from t First held raw) one
    ∙ split_chunk c (flat_map chunk_text cs ++ more) held raw h.0
    ∙ split_chunks cs more (held ++ c) (raw ++ chunk_text c) h.1
    ∙ ap (λ (t : List ℕ). split_from more First t ((raw ++ chunk_text c) ++ flat_map chunk_text cs)) (append_assoc held c (contents_of cs))
    ∙ ap (λ (t : List ℕ). split_from more First (held ++ (c ++ contents_of cs)) t) texts

split_end : (more held raw : List ℕ) → split_from (0 ∷ 0 ∷ more) First held raw ≡ then_message held (messages_of more)
unfolding split_from
split_end more held raw = refl

split_message : (cs : List (List ℕ)) (more : List ℕ) → AreChunks cs → messages_of (message_text cs ++ more) ≡ then_message (contents_of cs) (messages_of more)
split_message cs more h =
    ap messages_of (append_assoc (flat_map chunk_text cs) (0 ∷ 0 ∷ []) more)
    ∙ split_chunks cs (0 ∷ 0 ∷ more) [] [] h ∙ split_end more (contents_of cs) (flat_map chunk_text cs)

split_front : (front held raw : List ℕ) → IsChunkFront front → split_from front First held raw ≡ ([], raw ++ front)
unfolding split_from
split_front [] held raw h = ap (λ (t : List ℕ). ([], t)) (sym (append-nil raw))
split_front (high ∷ []) held raw h = refl
split_front (high ∷ low ∷ c) held raw h =
    let whole : c ++ [] ≡ c = append-nil c in
    split_length high low c held raw (omega arith)
    ∙ ap (λ (t : List ℕ). split_from t (place_left (high * 256 + low)) held (raw ++ high ∷ low ∷ [])) (sym whole)
    ∙ split_run c [] (high * 256 + low) held (raw ++ high ∷ low ∷ []) (omega arith)
    ∙ ap (λ (t : List ℕ). ([], t)) (append_assoc raw (high ∷ low ∷ []) c)

split_part : (rest : List ℕ) → IsPart rest → messages_of rest ≡ ([], rest)
split_part rest p =
    ap messages_of p.split ∙ split_chunks p.chunks p.front [] [] p.are_chunks ∙ split_front p.front (contents_of p.chunks) (flat_map chunk_text p.chunks) p.is_front
    ∙ ap (λ (t : List ℕ). ([], t)) (sym p.split)

split_cuts : (cuts : List (List (List ℕ))) (rest : List ℕ) → AllByRecursion AreChunks cuts → IsPart rest → messages_of (flat_map message_text cuts ++ rest) ≡ (map contents_of cuts, rest)
split_cuts [] rest h p = split_part rest p
split_cuts (cs ∷ cuts) rest h p =
    let one : flat_map message_text (cs ∷ cuts) ++ rest ≡ message_text cs ++ (flat_map message_text cuts ++ rest) =
    ap (λ (t : List ℕ). t ++ rest) (flat_map-cons message_text cs cuts) ∙ append_assoc (message_text cs) (flat_map message_text cuts) rest in
    ap messages_of one ∙ split_message cs (flat_map message_text cuts ++ rest) h.0 ∙ ap (then_message (contents_of cs)) (split_cuts cuts rest h.1 p)

-- what a stream is read as is what the function says
pub splits_are : (x : List ℕ) (ms : List (List ℕ)) (rest : List ℕ) → Splits x ms rest → messages_of x ≡ (ms, rest)
splits_are x ms rest r = ap messages_of r.split ∙ split_cuts r.cuts rest r.are_cuts r.part ∙ ap (λ (t : List (List ℕ)). (t, rest)) r.joined_are

pub splits_once : AreSplitOnce
splits_once x ms ns rest other p q =
    let e : (ms, rest) ≡ (ns, other) = sym (splits_are x ms rest p) ∙ splits_are x ns other q in
    (ap (λ (t : List (List ℕ) × List ℕ). t.0) e, ap (λ (t : List (List ℕ) × List ℕ). t.1) e)

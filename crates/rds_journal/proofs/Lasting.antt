-- Records that were appended outlast what comes after.
use Rattle.std.proofs.Common.{◌≡◌, ℕ, ◌+◌, ◌-◌, ◌≤◌, List, [], ◌∷◌, ◌++◌, length, take, drop, refl, sym, ap, subst, ◌∙◌, arith, append_assoc, append-nil, take-append-drop, length-append, length-take}
use Rattle.std.specs.List.{All}
use Rattle.std.proofs.lemmas.List.{drop-take, take_at, take-append-le, drop-append-le}
use Rattle.std.proofs.lemmas.List.Elements.{All-nil, All-cons, All-append}
use Rattle.std.proofs.Math.Seq.{take-append-add}
use Rattle.rds_journal.specs.Appending.{appended, KeepsFront}
use Rattle.rds_journal.specs.Crashes.{IsBeginning, HasSynced, HasWhole, IsLeftBy, AreLeft, last_file, OutlastsAppends, ReadsAppended}
use Rattle.rds_journal.specs.Records.{record_text, journal_text, IsPayload, IsBegun, IsJournal}
use Rattle.rds_journal.proofs.Crashes.{synced_is_read, journal_more}
use Rattle.rds_journal.proofs.Format.{no_text}

-- the texts of one record more
text_of_one : (payload : List ℕ) → journal_text (payload ∷ []) ≡ record_text payload
text_of_one payload = append-nil (record_text payload)

one_more : (payloads : List (List ℕ)) (payload : List ℕ) → journal_text (payloads ++ payload ∷ []) ≡ journal_text payloads ++ record_text payload
one_more payloads payload = journal_more payloads (payload ∷ []) ∙ ap (λ (t : List ℕ). journal_text payloads ++ t) (text_of_one payload)

-- what stands behind the start up to the end of the whole records
up_to_end : (start : ℕ) (file : List ℕ) (payloads : List (List ℕ)) (end : ℕ) → HasWhole start file payloads end → drop start (take end file) ≡ journal_text payloads
up_to_end start file payloads end whole =
    ap (λ (n : ℕ). drop start (take n file)) whole.is_end
    ∙ drop-take start (length (journal_text payloads)) file
    ∙ ap (take (length (journal_text payloads))) whole.journal.parts
    ∙ take_at (journal_text payloads) whole.rest (length (journal_text payloads)) refl

nothing_begun : IsBegun [] → ⊥
nothing_begun begun = no_text begun.0 begun.1 begun.3

room : (start : ℕ) (file : List ℕ) (payloads : List (List ℕ)) (end : ℕ) → HasWhole start file payloads end → start ≤ length (take end file)
room start file payloads end whole = omega (arith, whole.within, whole.is_end, length-take end file)

pub is_appended_to : (start end : ℕ) (file payload : List ℕ) (payloads : List (List ℕ)) → ReadsAppended start file payloads end payload
is_appended_to start end file payload payloads whole short = record {
  rest = [];
  within = omega (arith, room start file payloads end whole, length-append (take end file) (record_text payload));
  journal = record {
    parts =
        drop-append-le start (take end file) (record_text payload) (room start file payloads end whole)
        ∙ ap (λ (t : List ℕ). t ++ record_text payload) (up_to_end start file payloads end whole)
        ∙ sym (one_more payloads payload)
        ∙ sym (append-nil (journal_text (payloads ++ payload ∷ [])));
    short = All-append IsPayload payloads (payload ∷ []) whole.journal.short (All-cons IsPayload payload [] short (All-nil IsPayload));
    end = nothing_begun;
  };
  is_end = omega (arith, whole.is_end, ap length (one_more payloads payload), length-append (journal_text payloads) (record_text payload));
}

-- ---- more appends

-- up to an end that lies no less far, the same records stand
stays_synced : (start : ℕ) (old new : List ℕ) (synced : List (List ℕ)) (end : ℕ) → start + length (journal_text synced) ≤ end → take end new ≡ take end old → HasSynced synced (drop start old) → HasSynced synced (drop start new)
stays_synced start old new synced end far same has =
    let n = end - start in
    let here : start + n ≡ end = omega arith in
    let text = journal_text synced in
    let front : take n (drop start new) ≡ take n (drop start old) = sym (drop-take start n new) ∙ (ap (λ (m : ℕ). drop start (take m new)) here ∙ ap (drop start) same ∙ (ap (λ (m : ℕ). drop start (take m old)) (sym here) ∙ drop-take start n old)) in
    let more : n ≡ length text + (n - length text) = omega arith in
    let begins : take n (drop start old) ≡ text ++ take (n - length text) has.0 = ap (take n) has.1 ∙ (ap (λ (m : ℕ). take m (text ++ has.0)) more ∙ take-append-add text has.0 (n - length text)) in (
      take (n - length text) has.0 ++ drop n (drop start new),
      sym (take-append-drop n (drop start new)) ∙ (ap (λ (t : List ℕ). t ++ drop n (drop start new)) (front ∙ begins) ∙ append_assoc text (take (n - length text) has.0) (drop n (drop start new))),
    )

longer : (synced more : List (List ℕ)) → length (journal_text synced) ≤ length (journal_text (synced ++ more))
longer synced more = omega (arith, ap length (journal_more synced more), length-append (journal_text synced) (journal_text more))

one_left : (start : ℕ) (old new : List ℕ) (synced : List (List ℕ)) → All IsPayload synced → HasSynced synced (drop start old) → IsLeftBy start old new → HasSynced synced (drop start new)
one_left start old new synced short has left =
    let begins = synced_is_read synced (drop start old) left.payloads left.whole.rest short has left.whole.journal in
    let far = longer synced begins.0 in
    let same : length (journal_text left.payloads) ≡ length (journal_text (synced ++ begins.0)) = ap (λ (ps : List (List ℕ)). length (journal_text ps)) begins.1 in
    stays_synced start old new synced left.end (omega (arith, left.whole.is_end)) left.keeps.front has

all_left : (start : ℕ) (first : List ℕ) (files : List (List ℕ)) (synced : List (List ℕ)) → All IsPayload synced → HasSynced synced (drop start first) → AreLeft start first files → HasSynced synced (drop start (last_file first files))
all_left start first [] synced short has left = has
all_left start first (next ∷ files) synced short has left = all_left start next files synced short (one_left start first next synced short has left.0) left.1

pub outlasts : (start : ℕ) (first : List ℕ) (files : List (List ℕ)) → OutlastsAppends start first files
outlasts start first files payloads found end last whole left read =
    synced_is_read payloads (drop start (last_file first files)) found read.rest whole.journal.short
    (all_left start first files payloads whole.journal.short (whole.rest, whole.journal.parts) left) read.journal

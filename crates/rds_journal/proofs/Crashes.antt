-- What is read of a journal that a crash left.
use Rattle.std.proofs.Common.{◌≡◌, ℕ, List, [], ◌∷◌, ◌++◌, Ok, refl, sym, ap, ◌∙◌, append_assoc}
use Rattle.std.specs.List.{All}
use Rattle.std.proofs.lemmas.Grind.{flat_map-append}
use Rattle.std.proofs.lemmas.List.Elements.{All-head, All-tail}
use Rattle.rds_bytes.proofs.Format.{ok_is}
use Rattle.rds_journal.specs.Crashes.{IsBeginning, ReadsSynced, ReadsWritten}
use Rattle.rds_journal.specs.Records.{record_text, journal_text, record_at, IsPayload, IsBegun}
use Rattle.rds_journal.proofs.Format.{record_format, no_text}

-- two records at one place are one
same_first : (r b s c : List ℕ) → IsPayload r → IsPayload s → record_text r ++ b ≡ record_text s ++ c → (r ≡ s) × (b ≡ c)
same_first r b s c short short2 e =
    let one : record_at (record_text r ++ b) ≡ Ok (r, b) = record_format.again r b short in
    let two : record_at (record_text s ++ c) ≡ Ok (s, c) = record_format.again s c short2 in
    let is : ◌≡◌ {A = List ℕ × List ℕ} (r, b) (s, c) = ok_is (r, b) (s, c) (sym one ∙ (ap record_at e ∙ two)) in
    (ap (λ (p : List ℕ × List ℕ). p.0) is, ap (λ (p : List ℕ × List ℕ). p.1) is)

both_cons : (a b : List ℕ) (xs ys : List (List ℕ)) → a ≡ b → ys ≡ xs → b ∷ ys ≡ a ∷ xs
both_cons a b xs ys e f = cc

moved : (r : List ℕ) (rs : List (List ℕ)) (b : List ℕ) → journal_text (r ∷ rs) ++ b ≡ record_text r ++ (journal_text rs ++ b)
moved r rs b = append_assoc (record_text r) (journal_text rs) b

-- what begins with the texts of records is read as these, and what comes behind
pub read_on : (synced records : List (List ℕ)) (tail rest : List ℕ) → All IsPayload synced → All IsPayload records → (IsBegun rest → ⊥)
    → journal_text synced ++ tail ≡ journal_text records ++ rest
    → (more : List (List ℕ)) × (records ≡ synced ++ more) × (tail ≡ journal_text more ++ rest)
read_on [] records tail rest s r end e = (records, refl, e)
read_on (a ∷ synced) [] tail rest s r end e =
    absurd (end (a, journal_text synced ++ tail, All-head IsPayload a synced s, sym e ∙ moved a synced tail))
read_on (a ∷ synced) (b ∷ records) tail rest s r end e =
    let same = same_first a (journal_text synced ++ tail) b (journal_text records ++ rest) (All-head IsPayload a synced s) (All-head IsPayload b records r) (sym (moved a synced tail) ∙ (e ∙ moved b records rest)) in
    let on = read_on synced records tail rest (All-tail IsPayload a synced s) (All-tail IsPayload b records r) end same.1 in
    (on.0, both_cons a b (synced ++ on.0) records same.0 on.1, on.2)

pub synced_is_read : (synced : List (List ℕ)) (file : List ℕ) → ReadsSynced synced file
synced_is_read synced file records rest short has j =
    let on = read_on synced records has.0 rest short j.short j.end (sym has.1 ∙ j.parts) in
    (on.0, on.1)

read_within : (records written : List (List ℕ)) (tail : List ℕ) → All IsPayload records → All IsPayload written
    → journal_text written ≡ journal_text records ++ tail → IsBeginning records written
read_within [] written tail r w e = (written, refl)
read_within (a ∷ records) [] tail r w e = absurd (no_text a (journal_text records ++ tail) (e ∙ moved a records tail))
read_within (a ∷ records) (b ∷ written) tail r w e =
    let same = same_first a (journal_text records ++ tail) b (journal_text written) (All-head IsPayload a records r) (All-head IsPayload b written w) (sym (e ∙ moved a records tail)) in
    let on = read_within records written tail (All-tail IsPayload a records r) (All-tail IsPayload b written w) (sym same.1) in
    (on.0, both_cons a b (records ++ on.0) written same.0 on.1)

pub written_is_read : (written : List (List ℕ)) (file : List ℕ) → ReadsWritten written file
written_is_read written file records rest short part j =
    read_within records written (rest ++ part.0) j.short short (part.1 ∙ (ap (λ (t : List ℕ). t ++ part.0) j.parts ∙ append_assoc (journal_text records) rest part.0))

pub journal_more : (xs ys : List (List ℕ)) → journal_text (xs ++ ys) ≡ journal_text xs ++ journal_text ys
journal_more xs ys = flat_map-append record_text xs ys

-- Changes that were made one after the other, and the records of them.
use Rattle.std.proofs.Common.{◌≡◌, ℕ, ◌≤◌, List, [], ◌∷◌, ◌++◌, length, map, Ok, refl, sym, ap, ◌∙◌, subst, arith, append_assoc, append-nil}
use Rattle.std.proofs.lemmas.List.{length-append, map-append}
use Rattle.rds_names.specs.Roster.{RosterValue, Begins}
use Rattle.rds_bytes.proofs.Format.{ok_is}
use Rattle.rds_bytes.specs.Values.{IsMember}
use Rattle.rds_codec.specs.declared.limits.TheConstants.{LIMIT}
use Rattle.rds_state.specs.Fits.{ReplicaValue}
use Rattle.rds_state.proofs.JoinLaws.{same_value}
use Rattle.rds_journal.specs.Records.{IsBegun, IsPayload, IsTorn, journal_text, record_at, record_text}
use Rattle.rds_journal.proofs.Crashes.{journal_more}
use Rattle.rds_journal.proofs.Format.{record_format}
use Rattle.rds_keep.specs.Changes.{ChangeValue, IsRedone, change_text, roster_after}
use Rattle.rds_keep.specs.Kept.{AreMade, EndsAs, records_text}
use Rattle.rds_keep.specs.Replay.{Redoes}
use Rattle.rds_keep.proofs.ChangeTexts.{same_change}

-- ---- one record

pub same_first : (r b s c : List ℕ) → IsPayload r → IsPayload s → record_text r ++ b ≡ record_text s ++ c → (r ≡ s) × (b ≡ c)
same_first r b s c short short2 e =
    let one : record_at (record_text r ++ b) ≡ Ok (r, b) = record_format.again r b short in
    let two : record_at (record_text s ++ c) ≡ Ok (s, c) = record_format.again s c short2 in
    let is : ◌≡◌ {A = List ℕ × List ℕ} (r, b) (s, c) = ok_is (r, b) (s, c) (sym one ∙ (ap record_at e ∙ two)) in
    (ap (λ (p : List ℕ × List ℕ). p.0) is, ap (λ (p : List ℕ × List ℕ). p.1) is)

-- ---- one change

pub own_stays : (old : ReplicaValue) (changes : List ChangeValue) (new : ReplicaValue) → AreMade old changes new → new.own ≡ old.own
own_stays old [] new same = ap (λ (v : ReplicaValue). v.own) (sym same)
own_stays old (c ∷ changes) new made = own_stays made.0 changes new made.3 ∙ made.1.changed.own

same_replica : (v w : ReplicaValue) → v.roster ≡ w.roster → v.own ≡ w.own → v.state ≡ w.state → v ≡ w
same_replica v w p q r = λ i. record { roster = p i; own = q i; state = r i }

-- a change makes one replica
pub redone_once : (old : ReplicaValue) (c : ChangeValue) (v w : ReplicaValue) → IsRedone old c v → IsRedone old c w → v ≡ w
redone_once old c v w p q =
    same_replica v w (p.changed.roster ∙ sym q.changed.roster) (p.changed.own ∙ sym q.changed.own)
    (same_value v.state w.state (p.changed.joined ∙ sym q.changed.joined))

pub member_stays : (old : ReplicaValue) (c : ChangeValue) (new : ReplicaValue) → IsRedone old c new → IsMember new.roster new.own
member_stays old c new redone =
    subst (λ (r : RosterValue). IsMember r new.own) (sym redone.changed.roster)
    (subst (λ (n : ℕ). IsMember (roster_after old.roster c.roster) n) (sym redone.changed.own) redone.change.member)

pub longer_names : (r s : RosterValue) → Begins r s → length r.names ≤ length s.names
longer_names r s begins = (let more = begins.1 in let same = ap length more.1 in omega (arith, same, length-append r.names more.0))

-- ---- many

pub all_members : (old : ReplicaValue) (changes : List ChangeValue) (new : ReplicaValue) → AreMade old changes new → IsMember old.roster old.own → IsMember new.roster new.own
all_members old [] new same is = subst (λ (v : ReplicaValue). IsMember v.roster v.own) same is
all_members old (c ∷ changes) new made is = all_members made.0 changes new made.3 (member_stays old c made.0 made.1)

-- one change more
pub made_more : (old : ReplicaValue) (changes : List ChangeValue) (mid : ReplicaValue) (c : ChangeValue) (new : ReplicaValue) → AreMade old changes mid → IsRedone mid c new → IsPayload (change_text mid.own c)
    → AreMade old (changes ++ c ∷ []) new
made_more old [] mid c new same redone short =
    (new, subst (λ (v : ReplicaValue). IsRedone v c new) (sym same) redone, subst (λ (v : ReplicaValue). IsPayload (change_text v.own c)) (sym same) short, refl)
made_more old (d ∷ changes) mid c new made redone short = (made.0, made.1, made.2, made_more made.0 changes mid c new made.3 redone short)

pub records_more : (own : ℕ) (changes : List ChangeValue) (c : ChangeValue) → records_text own (changes ++ c ∷ []) ≡ records_text own changes ++ record_text (change_text own c)
records_more own changes c =
    ap journal_text (map-append (change_text own) changes (c ∷ []))
    ∙ journal_more (map (change_text own) changes) (change_text own c ∷ [])
    ∙ ap (λ (t : List ℕ). records_text own changes ++ t) (append-nil (record_text (change_text own c)))

pub first_record_of : (own : ℕ) (c : ChangeValue) (changes : List ChangeValue) (torn : List ℕ) → records_text own (c ∷ changes) ++ torn ≡ record_text (change_text own c) ++ (records_text own changes ++ torn)
first_record_of own c changes torn = append_assoc (record_text (change_text own c)) (records_text own changes) torn

-- ---- how bytes end

-- a record at the front of a torn end: there is none
pub not_torn : (torn payload behind : List ℕ) → IsTorn torn → IsPayload payload → record_text payload ++ behind ≡ torn → ⊥
not_torn torn payload behind end short same = end.none 0 (payload, behind, short, sym same)

-- they end as the first record's change and what is behind it
ends_by : (v : ReplicaValue) (payload behind : List ℕ) (w : ReplicaValue) (changes : List ChangeValue) (torn : List ℕ) → IsPayload payload → record_text payload ++ behind ≡ records_text v.own changes ++ torn → AreMade v changes w → IsTorn torn
    → (c : ChangeValue) × (payload ≡ change_text v.own c) × ((next : ReplicaValue) × IsRedone v c next × EndsAs next behind w)
ends_by v payload behind w [] torn short parts made end = absurd (not_torn torn payload behind end short parts)
ends_by v payload behind w (c ∷ changes) torn short parts made end =
    let same = same_first payload behind (change_text v.own c) (records_text v.own changes ++ torn) short made.2 (parts ∙ first_record_of v.own c changes torn) in
    let own : v.own ≡ made.0.own = sym made.1.changed.own in (
      c,
      same.0,
      (made.0, made.1, record { changes = changes; torn = torn; parts = same.1 ∙ ap (λ (n : ℕ). records_text n changes ++ torn) own; made = made.3; end = end }),
    )

pub ends_behind : (v : ReplicaValue) (payload behind : List ℕ) (c : ChangeValue) (next w : ReplicaValue) → IsPayload payload → payload ≡ change_text v.own c → IsRedone v c next → EndsAs v (record_text payload ++ behind) w → EndsAs next behind w
ends_behind v payload behind c next w short text redone ends =
    let found = ends_by v payload behind w ends.changes ends.torn short ends.parts ends.made ends.end in
    let within : length (change_text v.own c) ≤ LIMIT = subst (λ (t : List ℕ). length t ≤ LIMIT) text (omega (arith, short)) in
    let same : c ≡ found.0 = same_change v.roster v.own c found.0 redone.change found.2.1.change (sym text ∙ found.1) within in
    let one : found.2.0 ≡ next = redone_once v found.0 found.2.0 next found.2.1 (subst (λ (d : ChangeValue). IsRedone v d next) same redone) in
    subst (λ (u : ReplicaValue). EndsAs u behind w) one found.2.2

-- the payload of the first record is no change that fits
pub ends_nowhere : (v : ReplicaValue) (payload behind : List ℕ) (w : ReplicaValue) → IsPayload payload → ((next : ReplicaValue) → Redoes v payload next → ⊥) → EndsAs v (record_text payload ++ behind) w → ⊥
ends_nowhere v payload behind w short none ends =
    let found = ends_by v payload behind w ends.changes ends.torn short ends.parts ends.made ends.end in
    none found.2.0 (found.0, found.1, found.2.1)

-- the records of changes, one after the other
pub ends_after : (old : ReplicaValue) (changes : List ChangeValue) (new : ReplicaValue) (rest : List ℕ) (w : ReplicaValue) → AreMade old changes new → EndsAs old (records_text old.own changes ++ rest) w → EndsAs new rest w
ends_after old [] new rest w same ends = subst (λ (v : ReplicaValue). EndsAs v rest w) same ends
ends_after old (c ∷ changes) new rest w made ends =
    let here : EndsAs old (record_text (change_text old.own c) ++ (records_text old.own changes ++ rest)) w = subst (λ (t : List ℕ). EndsAs old t w) (first_record_of old.own c changes rest) ends in
    let next = ends_behind old (change_text old.own c) (records_text old.own changes ++ rest) c made.0 w made.2 refl made.1 here in
    let own : old.own ≡ made.0.own = sym made.1.changed.own in
    ends_after made.0 changes new rest w made.3 (subst (λ (n : ℕ). EndsAs made.0 (records_text n changes ++ rest) w) own next)

-- bytes in which no record begins are a torn end
torn_by : (v : ReplicaValue) (bytes : List ℕ) (w : ReplicaValue) (changes : List ChangeValue) (torn : List ℕ) → bytes ≡ records_text v.own changes ++ torn → AreMade v changes w → IsTorn torn → (IsBegun bytes → ⊥) → IsTorn bytes
torn_by v bytes w [] torn parts made end none = subst IsTorn (sym parts) end
torn_by v bytes w (c ∷ changes) torn parts made end none =
    absurd (none (change_text v.own c, records_text v.own changes ++ torn, made.2, parts ∙ first_record_of v.own c changes torn))

pub ends_torn : (v : ReplicaValue) (bytes : List ℕ) (w : ReplicaValue) → EndsAs v bytes w → (IsBegun bytes → ⊥) → IsTorn bytes
ends_torn v bytes w ends none = torn_by v bytes w ends.changes ends.torn ends.parts ends.made ends.end none

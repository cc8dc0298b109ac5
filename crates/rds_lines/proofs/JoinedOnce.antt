-- Two snapshots are joined to one thing alone, so the answer to their lines is known.
use Rattle.std.proofs.Common.{◌≡◌, ◌≢◌, ◌≤◌, ℕ, inl, inr, false, List, length, Result, Ok, Err, refl, sym, ap, ◌∙◌, subst, ltb, arith}
use Rattle.std.specs.Ordering.{is_lt}
use Rattle.std.specs.declared.cmp.Ordering.{Ordering}
use Rattle.std.specs.declared.cmp.Ordering.TheVariants.{Less, Equal, Greater}
use Rattle.std.proofs.lemmas.Bool.{le-ltb}
use Rattle.hex.proofs.HexLemmas.{decode_of-ok}
use Rattle.rds_names.specs.Roster.{RosterValue, OneBegins}
use Rattle.rds_names.specs.declared.fault.Fault.{Fault}
use Rattle.rds_names.specs.declared.fault.Fault.TheVariants.{Memory, Conflict, WrongGroup, WrongRoster}
use Rattle.rds_dots.specs.declared.dot.Dot.{Dot}
use Rattle.rds_dots.specs.Dots.{dot_cmp}
use Rattle.rds_dots.specs.Order.{dots_exact, after_before}
use Rattle.rds_life.specs.Life.{Lived, IsFirstConflict}
use Rattle.rds_state.specs.Value.{StateValue}
use Rattle.rds_state.proofs.JoinLaws.{same_value}
use Rattle.rds_lines.specs.Join.{ReadsLine, JoinsReplicas, JoinedTo, TextOfJoined, AfterBoth, AfterSecond, AfterFirst, JoinsTo}
use Rattle.rds_lines.specs.declared.join.TheConstants.{LINE_LIMIT}
use Rattle.rds_lines.specs.JoinLaws.{SpellsLine, SpellsBoth, IsJoinedOnce, AnswersSpelled}
use Rattle.rds_lines.specs.Lines.{until_newline, after_line}
use Rattle.rds_state.specs.Fits.{ReplicaValue}
use Rattle.rds_codec.specs.DecodedSnapshots.{replica_in, DecodesSnapshot}
use Rattle.rds_codec.specs.FormatTexts.{Snapshot, snapshot_text_in}
use Rattle.rds_codec.specs.StateTexts.{IsSnapshot}
use Rattle.rds_codec.specs.declared.formats.Format.{Format}
use Rattle.rds_codec.specs.declared.limits.TheConstants.{LIMIT}

-- what two snapshots may be joined to
data Cases (v w : ReplicaValue) (a : Result ReplicaValue Fault) : Type 0 where
  is_joined : (both : ReplicaValue) → a ≡ Ok both → JoinsReplicas v w both → Cases v w a
  other_groups : a ≡ Err WrongGroup → v.roster.group ≢ w.roster.group → Cases v w a
  other_rosters : a ≡ Err WrongRoster → v.roster.group ≡ w.roster.group → ¬ (OneBegins v.roster w.roster) → Cases v w a
  first_conflict : (d : Dot) → a ≡ Err (Conflict d.replica d.seq) → OneBegins v.roster w.roster → IsFirstConflict v.state.lives w.state.lives d → Cases v w a

cases : (v w : ReplicaValue) (a : Result ReplicaValue Fault) → JoinedTo v w a → Cases v w a
cases v w (Ok both) h = is_joined both refl h
cases v w (Err WrongGroup) h = other_groups refl h
cases v w (Err WrongRoster) h = other_rosters refl h.0 h.1
cases v w (Err (Conflict replica seq)) h = first_conflict (record { replica = replica; seq = seq }) refl h.0 h.1
cases v w (Err fault) h = absurd h

same_group : (r s : RosterValue) → OneBegins r s → r.group ≡ s.group
same_group r s meet = elim meet [ inl first ↦ first.0 | inr second ↦ sym second.0 ]

snapshot_of : RosterValue → ℕ → StateValue → ReplicaValue
snapshot_of roster own state = record { roster = roster; own = own; state = state }

one_joined : (v w x y : ReplicaValue) → JoinsReplicas v w x → JoinsReplicas v w y → x ≡ y
unfolding snapshot_of
one_joined v w x y h k =
    ap (λ (r : RosterValue). snapshot_of r x.own x.state) (h.roster ∙ sym k.roster)
    ∙ ap (λ (n : ℕ). snapshot_of y.roster n x.state) (h.own ∙ sym k.own)
    ∙ ap (snapshot_of y.roster y.own) (same_value x.state y.state (h.state ∙ sym k.state))

-- the first conflict is one
one_conflict : (a b : Lived) (d e : Dot) (o : Ordering) → dot_cmp d e ≡ o → IsFirstConflict a b d → IsFirstConflict a b e → d ≡ e
one_conflict a b d e Less is h k = absurd (h.here (k.first d (ap is_lt is)))
one_conflict a b d e Equal is h k = dots_exact d e is
one_conflict a b d e Greater is h k = absurd (k.here (h.first e (ap is_lt (after_before d e is))))

conflict_of : Dot → Result ReplicaValue Fault
conflict_of d = Err (Conflict d.replica d.seq)

done : ReplicaValue → Result ReplicaValue Fault
done v = Ok v

joined_else : (v w both : ReplicaValue) (a b : Result ReplicaValue Fault) → a ≡ Ok both → JoinsReplicas v w both → Cases v w b → a ≡ b
unfolding done
joined_else v w both a b e h k = elim k [
  | is_joined other f j ↦ e ∙ ap done (one_joined v w both other h j) ∙ sym f
  | other_groups f differ ↦ absurd (differ (same_group v.roster w.roster h.meet))
  | other_rosters f same differ ↦ absurd (differ h.meet)
  | first_conflict d f meet first ↦ absurd (first.here (h.compatible.each_dot d))
]

groups_else : (v w : ReplicaValue) (a b : Result ReplicaValue Fault) → a ≡ Err WrongGroup → v.roster.group ≢ w.roster.group → Cases v w b → a ≡ b
groups_else v w a b e h k = elim k [
  | is_joined other f j ↦ absurd (h (same_group v.roster w.roster j.meet))
  | other_groups f differ ↦ e ∙ sym f
  | other_rosters f same differ ↦ absurd (h same)
  | first_conflict d f meet first ↦ absurd (h (same_group v.roster w.roster meet))
]

rosters_else : (v w : ReplicaValue) (a b : Result ReplicaValue Fault) → a ≡ Err WrongRoster → v.roster.group ≡ w.roster.group → ¬ (OneBegins v.roster w.roster) → Cases v w b → a ≡ b
rosters_else v w a b e group h k = elim k [
  | is_joined other f j ↦ absurd (h j.meet)
  | other_groups f differ ↦ absurd (differ group)
  | other_rosters f same differ ↦ e ∙ sym f
  | first_conflict d f meet first ↦ absurd (h meet)
]

conflict_else : (v w : ReplicaValue) (a b : Result ReplicaValue Fault) (d : Dot) → a ≡ Err (Conflict d.replica d.seq) → OneBegins v.roster w.roster → IsFirstConflict v.state.lives w.state.lives d → Cases v w b → a ≡ b
unfolding conflict_of
conflict_else v w a b d e meet h k = elim k [
  | is_joined other f j ↦ absurd (h.here (j.compatible.each_dot d))
  | other_groups f differ ↦ absurd (differ (same_group v.roster w.roster meet))
  | other_rosters f same differ ↦ absurd (differ meet)
  | first_conflict q f other first ↦ e ∙ ap conflict_of (one_conflict v.state.lives w.state.lives d q (dot_cmp d q) refl h first) ∙ sym f
]

pub joined_once : IsJoinedOnce
joined_once v w a b h k = elim (cases v w a h) [
  | is_joined both e j ↦ joined_else v w both a b e j (cases v w b k)
  | other_groups e differ ↦ groups_else v w a b e differ (cases v w b k)
  | other_rosters e same differ ↦ rosters_else v w a b e same differ (cases v w b k)
  | first_conflict d e meet first ↦ conflict_else v w a b d e meet first (cases v w b k)
]

-- what reads the bytes of a snapshot in a format reads this snapshot
decoded_spelled : (format : Format) (v : ReplicaValue) (bytes : List ℕ) (r : Result ReplicaValue Fault) → IsSnapshot v → bytes ≡ snapshot_text_in format v → length bytes ≤ LIMIT → r ≢ Err Memory → DecodesSnapshot bytes r → r ≡ Ok v
decoded_spelled format v bytes r is_snapshot spelled within memory decoded =
    let read : Result Snapshot Fault = decoded.0 in
    let same : r ≡ replica_in read = decoded.3 in
    elim (decoded.1.found (format, v) within (record { is_value = is_snapshot; spelled = spelled })) [
      | inl is ↦ same ∙ ap replica_in is
      | inr none ↦ absurd (memory (same ∙ ap replica_in none))
    ]

-- a line that spells a snapshot in either format is read as it
read_spelled : (line : List ℕ) (v : ReplicaValue) (r : Result ReplicaValue Fault) → SpellsLine line v → ReadsLine line r → r ≡ Ok v
read_spelled line v r spells reads =
    let text = snapshot_text_in spells.format v in
    let long = (decode_of-ok line text spells.digits).2 in
    let short : ltb LINE_LIMIT (length line) ≡ false = le-ltb LINE_LIMIT (length line) (omega (arith, long, spells.within)) in
    decoded_spelled spells.format v text r spells.is_snapshot refl spells.within reads.0 (rw (short, spells.digits) at reads.1)

spelled : (input : List ℕ) (v w : ReplicaValue) (joined : Result ReplicaValue Fault) (r : Result (List ℕ) Fault) → SpellsBoth input v w → JoinedTo v w joined → JoinsTo input r → TextOfJoined joined r
spelled input v w joined r both is h =
    let rest = after_line input in
    let first = subst (λ (x : Result ReplicaValue Fault). AfterFirst rest x r) (read_spelled (until_newline input) v h.0 both.first h.1) h.2 in
    let second = subst (λ (x : Result ReplicaValue Fault). AfterSecond (after_line rest) v x r) (read_spelled (until_newline rest) w first.0 both.second first.1) first.2 in
    let answer = subst (λ (x : List ℕ). AfterBoth x v w r) both.ended second in
    subst (λ (x : Result ReplicaValue Fault). TextOfJoined x r) (joined_once v w answer.0 joined answer.1 is) answer.2

pub answers_spelled : AnswersSpelled
answers_spelled input v w joined r both is h = elim h [
  | inl memory ↦ inr memory
  | inr joins ↦ inl (spelled input v w joined r both is joins)
]

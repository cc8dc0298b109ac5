-- What questions of one hash tell, and what states of one digest are.
use Rattle.std.proofs.Common.{◌≡◌, ℕ, ◌<◌, ◌^◌, List, [], ◌∷◌, ◌++◌, length, get_or, drop, Option, Some, None, inl, inr, refl, sym, ap, subst, ◌∙◌, append_assoc, length-append, arith}
use Rattle.std.specs.Int.{w16, to_be_bytes}
use Rattle.std.specs.List.{flat_map}
use Rattle.std.specs.FinMap as map
use Rattle.std.specs.Str.{bytes_eq}
use Rattle.std.proofs.lemmas.Bool.{cases_Bool}
use Rattle.std.proofs.lemmas.Slice.Eq.{bytes_eq-Decides}
use Rattle.rds_names.specs.Roster.{RosterValue}
use Rattle.rds_counts.specs.Counted.{number}
use Rattle.rds_life.specs.Life.{Agree, Dead, Life, Live}
use Rattle.rds_state.specs.Mark.{mark_of}
use Rattle.rds_state.specs.Value.{coordinates}
use Rattle.rds_state.proofs.JoinLaws.{same_coordinates, same_value}
use Rattle.rds_delta.specs.Digested.{DigestValue, ranks_in}
use Rattle.rds_delta.specs.Ranks.{Ranks, life_rank}
use Rattle.rds_delta.proofs.Digests.{ranks_of_digest}
use Rattle.rds_bytes.specs.Reading.{number_at}
use Rattle.rds_bytes.specs.Spelling.{names_text, roster_text, short_text}
use Rattle.rds_bytes.proofs.Format.{done, number16, ok_is}
use Rattle.rds_bytes.proofs.PartFormats.{few_of_names}
use Rattle.rds_briefs.specs.Briefs.{brief_kind, brief_text}
use Rattle.rds_briefs.proofs.Apart.{briefs_apart}
use Rattle.rds_codec.specs.DigestTexts.{IsDigestOf}
use Rattle.rds_codec.specs.Laws.{HasText}
use Rattle.rds_questions.specs.Hashed.{EqualDigestsTellEqualStates, EqualHashesTellEqualMarks, EqualHashesTellEqualQuestions, TellTheSame, question_hash, told_text}
use Rattle.rds_questions.specs.Questions.{QuestionValue, askers_of, question_kind}
use Rattle.rds_questions.proofs.Decoded.{brief_within}

-- ---- a roster's text

-- texts of one length
parts_apart : (a b x y : List ℕ) → length a ≡ length b → a ++ x ≡ b ++ y → (a ≡ b) × (x ≡ y)
parts_apart [] [] x y len e = (refl, e)
parts_apart [] (c ∷ b) x y len e = absurd (omega (arith, len))
parts_apart (c ∷ a) [] x y len e = absurd (omega (arith, len))
parts_apart (c ∷ a) (d ∷ b) x y len e =
    let first : c ≡ d = ap (λ (t : List ℕ). get_or t 0 0) e in
    let rest = parts_apart a b x y (omega (arith, len)) (ap (λ (t : List ℕ). drop 1 t) e) in
    (λ i. first i ∷ rest.0 i, rest.1)

-- a text behind its length
short_apart : (a b x y : List ℕ) → short_text a ++ x ≡ short_text b ++ y → (a ≡ b) × (x ≡ y)
short_apart a b x y e = parts_apart a b x y (ap (λ (t : List ℕ). get_or t 0 0) e) (ap (λ (t : List ℕ). drop 1 t) e)

names_apart : (ns ms : List (List ℕ)) (x y : List ℕ) → length ns ≡ length ms → flat_map short_text ns ++ x ≡ flat_map short_text ms ++ y → (ns ≡ ms) × (x ≡ y)
names_apart [] [] x y len e = (refl, e)
names_apart [] (m ∷ ms) x y len e = absurd (omega (arith, len))
names_apart (n ∷ ns) [] x y len e = absurd (omega (arith, len))
names_apart (n ∷ ns) (m ∷ ms) x y len e =
    let parts : short_text n ++ (flat_map short_text ns ++ x) ≡ short_text m ++ (flat_map short_text ms ++ y) =
    sym (append_assoc (short_text n) (flat_map short_text ns) x) ∙ (e ∙ append_assoc (short_text m) (flat_map short_text ms) y) in
    let first = short_apart n m (flat_map short_text ns ++ x) (flat_map short_text ms ++ y) parts in
    let rest = names_apart ns ms x y (omega (arith, len)) first.1 in
    (λ i. first.0 i ∷ rest.0 i, rest.1)

-- no roster's text begins another's
roster_apart : (r s : RosterValue) (x y : List ℕ) → length r.names < 2 ^ 16 → length s.names < 2 ^ 16 → roster_text r ++ x ≡ roster_text s ++ y → (r ≡ s) × (x ≡ y)
roster_apart r s x y few fewer e =
    let group = short_apart r.group s.group (names_text r.names ++ x) (names_text s.names ++ y)
    (sym (append_assoc (short_text r.group) (names_text r.names) x) ∙ (e ∙ append_assoc (short_text s.group) (names_text s.names) y)) in
    let parts = sym (append_assoc (to_be_bytes w16 (length r.names)) (flat_map short_text r.names) x) ∙ (group.1 ∙ append_assoc (to_be_bytes w16 (length s.names)) (flat_map short_text s.names) y) in
    let both : done (length r.names, flat_map short_text r.names ++ x) ≡ done (length s.names, flat_map short_text s.names ++ y) =
    sym (number16.again (length r.names) (flat_map short_text r.names ++ x) few) ∙ (ap (number_at w16) parts ∙ number16.again (length s.names) (flat_map short_text s.names ++ y) fewer) in
    let is = ok_is (length r.names, flat_map short_text r.names ++ x) (length s.names, flat_map short_text s.names ++ y) both in
    let names = names_apart r.names s.names x y (ap (λ (p : ℕ × List ℕ). p.0) is) (ap (λ (p : ℕ × List ℕ). p.1) is) in
    (λ i. record { group = group.0 i; names = names.0 i }, names.1)

-- ---- what a question tells

module _ (q : QuestionValue) where
  few_askers : HasText question_kind q → askers_of q < 2 ^ 16
  few_askers h = (let few = few_of_names q.hello.roster.names h.is_value.hello.member.names in omega (arith, few))

  told_is : told_text q ≡ roster_text q.hello.roster ++ brief_text q.digest
  unfolding told_text
  told_is = refl

told_apart : (q r : QuestionValue) → HasText question_kind q → HasText question_kind r → told_text q ≡ told_text r → TellTheSame q r
told_apart q r one other e =
    let rosters = roster_apart q.hello.roster r.hello.roster (brief_text q.digest) (brief_text r.digest) (few_askers q one) (few_askers r other) (sym (told_is q) ∙ (e ∙ told_is r)) in
    let n = askers_of q in
    let left : HasText (brief_kind n) q.digest = record { is_value = one.is_value.digest; within = brief_within q one.within } in
    let right : HasText (brief_kind n) r.digest = record {
      is_value = subst (λ (s : RosterValue). IsDigestOf (length s.names) r.digest) (sym rosters.0) other.is_value.digest;
      within = brief_within r other.within;
    } in
    let digests = briefs_apart n q.digest r.digest [] [] left right (ap (λ (t : List ℕ). t ++ []) rosters.1) in
    record { roster = rosters.0; digest = digests.0 }

pub equal_questions : EqualHashesTellEqualQuestions
unfolding question_hash
equal_questions q r one other same =
    elim (cases_Bool (bytes_eq (told_text q) (told_text r))) [
      | inl equal ↦ inl (told_apart q r one other ((bytes_eq-Decides (told_text q) (told_text r)).0 equal))
      | inr apart ↦ inr (record { differ = λ is. (let equal = (bytes_eq-Decides (told_text q) (told_text r)).1 is in absurd cc); same = same })
    ]

-- ---- states of one digest

one_life : (l m : Option Life) → life_rank l ≡ life_rank m → Agree l m → l ≡ m
one_life None None same agree = refl
one_life None (Some (Live f)) same agree = absurd (omega (arith, same))
one_life None (Some Dead) same agree = absurd (omega (arith, same))
one_life (Some (Live e)) None same agree = absurd (omega (arith, same))
one_life (Some (Live e)) (Some (Live f)) same agree = ap (λ x. Some (Live x)) agree
one_life (Some (Live e)) (Some Dead) same agree = absurd (omega (arith, same))
one_life (Some Dead) None same agree = absurd (omega (arith, same))
one_life (Some Dead) (Some (Live f)) same agree = absurd (omega (arith, same))
one_life (Some Dead) (Some Dead) same agree = refl

pub equal_states : EqualDigestsTellEqualStates
equal_states v w same compatible =
    let ranked = sym (ranks_of_digest v) ∙ (ap (λ (g : DigestValue). ranks_in g) same ∙ ranks_of_digest w) in
    same_value v w
    (same_coordinates (coordinates v) (coordinates w)
    (λ d. one_life (map.get v.lives d) (map.get w.lives d) (ap (λ (r : Ranks). r.rank d) ranked) (compatible.each_dot d))
    (λ q. ap (λ (g : DigestValue). number g.counts q) same))

pub equal_marks : EqualHashesTellEqualMarks
equal_marks v w one other same compatible =
    elim (equal_questions _ _ one other same) [
      | inl told ↦ inl (ap mark_of (equal_states v.state w.state told.digest compatible))
      | inr both ↦ inr both
    ]

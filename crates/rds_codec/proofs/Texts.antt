-- The texts of states, answers and snapshots, part after part.
use Rattle.std.proofs.Common.{◌≡◌, ℕ, ◌+◌, ◌≤◌, inl, inr, List, [], ◌++◌, length, Result, Ok, Err, refl, sym, ap, subst, ◌∙◌, length-append, arith}
use Rattle.std.specs.Prelude.{IsErrAnd, MatchResult, OnOk}
use Rattle.std.specs.Global.{Vec}
use Rattle.std.specs.List.{flat_map}
use Rattle.rds_names.specs.declared.fault.Fault.{Fault}
use Rattle.rds_life.specs.Life.{seen_of, live_rows}
use Rattle.rds_counts.specs.Counted.{Counted}
use Rattle.rds_state.specs.Value.{StateValue}
use Rattle.rds_state.specs.Fits.{ReplicaValue}
use Rattle.rds_bytes.specs.Spelling.{byte_text, short_text, member_text, dots_text, live_row_text, live_rows_text, counters_text, keyed_live_rows_text, keyed_counters_text}
use Rattle.rds_bytes.specs.TableTexts.{table_text, number_text}
use Rattle.rds_bytes.proofs.Sequences.{three_lengths, three_added}
use Rattle.rds_codec.specs.AnswerTexts.{answer_text_in}
use Rattle.rds_codec.specs.AnswerValues.{AnswerValue}
use Rattle.rds_codec.specs.CertificateTexts.{certificate_text}
use Rattle.rds_codec.specs.FormatWriting.{IsUnwrittenIn}
use Rattle.rds_codec.specs.Measured.{IsMeasured, IsUnmeasured, format_with}
use Rattle.rds_codec.specs.StateTexts.{magic_of, snapshot_text_in, table_in, body_text, state_text_in}
use Rattle.rds_codec.specs.Writing.{IsUnwritten}
use Rattle.rds_codec.specs.declared.formats.Format.{Format}
use Rattle.rds_codec.specs.declared.formats.Format.TheVariants.{One, Two}
use Rattle.rds_codec.specs.declared.limits.TheConstants.{LIMIT}
use Rattle.rds_codec.specs.declared.measured.Measured.{Measured}

pub OnOk-map : {T E : Type 0} {P Q : Type 0} (r : Result T E) → (P → Q) → OnOk r P → OnOk r Q
OnOk-map (Ok x) f p = f p
OnOk-map (Err e) f p = tt

-- ---- why a text isn't written

pub unwritten_in : (format : Format) (n : ℕ) (e : Fault) → IsUnwritten n e → IsUnwrittenIn format n e
unwritten_in One n e h = h
unwritten_in Two n e h = elim h [ inl memory ↦ inl memory.0 | inr long ↦ inr long ]

pub unmeasured_in : (format : Format) (n : ℕ) (e : Fault) → IsUnmeasured format e → IsUnwrittenIn format n e
unmeasured_in One n e h = absurd h
unmeasured_in Two n e h = inl h

-- a fault is handed on
pub refused_by : (Q : Vec ℕ → Type 0) (P : Fault → Type 0) (result : Result (Vec ℕ) Fault) (fault : Fault) → IsErrAnd result (λ e. e ≡ fault) → P fault → MatchResult result Q P
refused_by Q P (Ok bytes) fault is h = absurd is
refused_by Q P (Err e) fault is h = subst P (sym is) h

-- ---- a state of format 1

counters_same : (m : Counted) → counters_text m ≡ keyed_counters_text short_text m
unfolding counters_text keyed_counters_text
counters_same m = refl

pub one_length : (v : StateValue) (dots live counts : ℕ) → dots ≡ length (dots_text (seen_of v.lives)) → live ≡ length (flat_map live_row_text (live_rows v.lives))
    → counts ≡ length (counters_text v.counts) → dots + (4 + live) + counts ≡ length (state_text_in One v)
unfolding state_text_in body_text
one_length v dots live counts p q r =
    let d = dots_text (seen_of v.lives) in
    let l = live_rows_text (live_rows v.lives) in
    let m = keyed_counters_text short_text v.counts in
    let a = length-append d (l ++ m) in
    let b = length-append l m in
    let c = r ∙ ap length (counters_same v.counts) in
    omega (arith, a, b, p, q, c)

pub one_parts : (v : StateValue) (a b c d : List ℕ) → b ≡ a ++ dots_text (seen_of v.lives) → c ≡ b ++ live_rows_text (live_rows v.lives) → d ≡ c ++ counters_text v.counts → d ≡ a ++ state_text_in One v
unfolding state_text_in body_text
one_parts v a b c d p q r =
    three_added a b c d (dots_text (seen_of v.lives)) (live_rows_text (live_rows v.lives)) (keyed_counters_text short_text v.counts) p q
    (r ∙ ap (λ (t : List ℕ). c ++ t) (counters_same v.counts))

-- ---- a state of format 2

-- the live rows and the counters, by the numbers of the keys
abbrev pub numbered_rows_text : StateValue → List ℕ
numbered_rows_text v = keyed_live_rows_text (number_text (table_in v)) (live_rows v.lives)

abbrev pub numbered_counters_text : StateValue → List ℕ
numbered_counters_text v = keyed_counters_text (number_text (table_in v)) v.counts

pub two_length : (v : StateValue) → length (state_text_in Two v) ≡ length (table_text (table_in v)) + length (dots_text (seen_of v.lives)) + length (numbered_rows_text v) + length (numbered_counters_text v)
unfolding state_text_in body_text
two_length v =
    let table = table_text (table_in v) in
    let dots = dots_text (seen_of v.lives) in
    let rows = numbered_rows_text v in
    let counts = numbered_counters_text v in
    let a = length-append table (dots ++ (rows ++ counts)) in
    let b = length-append dots (rows ++ counts) in
    let c = length-append rows counts in
    omega (arith, a, b, c)

pub two_parts : (v : StateValue) (a b c d : List ℕ) → b ≡ a ++ table_text (table_in v) → c ≡ b ++ dots_text (seen_of v.lives) → d ≡ c ++ (numbered_rows_text v ++ numbered_counters_text v) → d ≡ a ++ state_text_in Two v
unfolding state_text_in body_text
two_parts v a b c d p q r = three_added a b c d (table_text (table_in v)) (dots_text (seen_of v.lives)) (numbered_rows_text v ++ numbered_counters_text v) p q r

-- ---- answers and snapshots in each format

module _ (format : Format) where
  pub answer_length : (a : AnswerValue) → length (answer_text_in format a) ≡ 1 + length (state_text_in format a.state) + length (certificate_text a.certificate)
  unfolding answer_text_in
  answer_length a = three_lengths (byte_text a.asker) (state_text_in format a.state) (certificate_text a.certificate)

  pub answer_parts : (v : AnswerValue) (a b c d : List ℕ) → b ≡ a ++ byte_text v.asker → c ≡ b ++ state_text_in format v.state → d ≡ c ++ certificate_text v.certificate → d ≡ a ++ answer_text_in format v
  unfolding answer_text_in
  answer_parts v a b c d p q r = three_added a b c d (byte_text v.asker) (state_text_in format v.state) (certificate_text v.certificate) p q r

  pub snapshot_parts : (v : ReplicaValue) (a b c d : List ℕ) → b ≡ a ++ magic_of format → c ≡ b ++ member_text v.roster v.own → d ≡ c ++ state_text_in format v.state → d ≡ a ++ snapshot_text_in format v
  unfolding snapshot_text_in
  snapshot_parts v a b c d p q r = three_added a b c d (magic_of format) (member_text v.roster v.own) (state_text_in format v.state) p q r

pub snapshot_length : (format : Format) (v : ReplicaValue) → length (snapshot_text_in format v) ≡ 4 + length (member_text v.roster v.own) + length (state_text_in format v.state)
unfolding snapshot_text_in
snapshot_length One v = three_lengths (magic_of One) (member_text v.roster v.own) (state_text_in One v.state)
snapshot_length Two v = three_lengths (magic_of Two) (member_text v.roster v.own) (state_text_in Two v.state)

-- ---- what was measured, in the format that it was measured for

module _ (format : Format) (v : StateValue) (m : Measured) (is : IsMeasured v m) (same : format_with m.keys ≡ format) where
  pub state_measured : m.text_length ≡ length (state_text_in format v)
  state_measured = is.exact ∙ ap (λ (f : Format). length (state_text_in f v)) same

  pub answer_measured : (a : AnswerValue) (n : ℕ) → a.state ≡ v → n ≡ 1 + m.text_length + length (certificate_text a.certificate) → n ≡ length (answer_text_in format a)
  answer_measured a n state sum =
      let e = state_measured ∙ ap (λ (w : StateValue). length (state_text_in format w)) (sym state) in
      let len = answer_length format a in
      omega (arith, e, len, sum)

-- what was written into no bytes
pub written_in : (format other : Format) (text : Format → List ℕ) (old new : List ℕ) → other ≡ format → old ≡ [] → new ≡ old ++ text other → length (text other) ≤ LIMIT
    → (new ≡ text format) × (length (text format) ≤ LIMIT)
written_in format other text old new same none added within =
    (added ∙ ap (λ (t : List ℕ). t ++ text other) none ∙ ap text same, subst (λ (f : Format). length (text f) ≤ LIMIT) same within)

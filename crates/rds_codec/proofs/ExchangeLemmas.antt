-- What goes by bytes between friends comes as it was sent.
use Rattle.std.proofs.Common.{◌≡◌, ◌+◌, ℕ, ◌<◌, ◌≤◌, inl, inr, List, length, Result, Ok, Err, refl, sym, ap, subst, ◌∙◌, arith}
use Rattle.std.specs.Prelude.{IfOk, IfErr, IsErrAnd}
use Rattle.std.specs.Global.{Vec}
use Rattle.std.proofs.lemmas.List.{length-append}
use Rattle.rds_names.specs.Roster.{Begins, RosterValue, OneBegins}
use Rattle.rds_names.specs.declared.fault.Fault.{Fault}
use Rattle.rds_names.specs.declared.fault.Fault.TheVariants.{WrongGroup, WrongRoster}
use Rattle.rds_life.specs.Life.{seen_of}
use Rattle.rds_life.proofs.Views.{contains-seen_of}
use Rattle.rds_state.specs.Coordinates.{Coordinates, AtMost, join}
use Rattle.rds_state.specs.Fits.{Fits, ReplicaValue}
use Rattle.rds_state.specs.Value.{StateValue, coordinates, size}
use Rattle.rds_state.specs.Ahead.{TakeGives}
use Rattle.rds_state.specs.Friends.{AreFriends}
use Rattle.rds_state.specs.Grown.{TakeWithGives}
use Rattle.rds_state.proofs.FitsLemmas.{fits_more}
use Rattle.rds_delta.specs.declared.row.Row.{Row}
use Rattle.rds_delta.specs.Claims.{IsCertificate}
use Rattle.rds_delta.specs.Digested.{DigestValue, digest_of, ranks_in}
use Rattle.rds_delta.specs.Least.{IsAbove, least}
use Rattle.rds_delta.specs.Ranks.{Ranks, ranks}
use Rattle.rds_delta.proofs.Digests.{ranks_of_digest}
use Rattle.rds_delta.proofs.Exchanges.{least_fits, least_is_taken}
use Rattle.rds_delta.proofs.LeastLaws.{grown_delta, least_above}
use Rattle.rds_codec.specs.AnswerTexts.{IsAnswerOf, answer, answer_kind}
use Rattle.rds_codec.specs.AnswerValues.{AnswerValue}
use Rattle.rds_codec.specs.declared.limits.TheConstants.{LIMIT}
use Rattle.rds_codec.specs.Decoding.{GivesOrMemory, IsTextOf, Decodes}
use Rattle.rds_codec.specs.DigestTexts.{DigestFits, IsDigestOf, digest_text, digest_kind}
use Rattle.rds_codec.specs.Exchanged.{CanExchange, CanRead, IsAnswerTo, IsAskOf, IsCertified, IsLongAnswerIn, IsLongDigest, IsLost, IsRefusal, IsReplyIn, Untaken, replicas_of_both}
use Rattle.rds_codec.specs.Kinds.{Kind}
use Rattle.rds_codec.specs.FormatTexts.{answer_text_in}
use Rattle.rds_codec.specs.FormatWriting.{EncodesIn}
use Rattle.rds_codec.specs.declared.formats.Format.{Format}
use Rattle.rds_codec.specs.declared.formats.Format.TheVariants.{One, Two}
use Rattle.rds_bytes.specs.Values.{AreDotsOf}
use Rattle.rds_codec.specs.Writing.{Encodes, IsUnwritten}
use Rattle.rds_codec.proofs.Replicas.{state_fits}

-- ---- a text of a value is read as it, unless memory runs out

pub is_read : {V : Type 0} (kind : Kind V) (v : V) (bytes : List ℕ) (result : Result V Fault) → Decodes kind bytes result → kind.is_value v → bytes ≡ kind.text v → length (kind.text v) ≤ LIMIT → GivesOrMemory result (Ok v)
is_read kind v bytes result decodes is e le = decodes.found v (subst (λ (t : List ℕ). length t ≤ LIMIT) (sym e) le) (record { is_value = is; spelled = e })

-- the limit that bytes keep is kept by the text that they are
pub within_text : (bytes text : List ℕ) → bytes ≡ text → length bytes ≤ LIMIT → length text ≤ LIMIT
within_text bytes text e within = subst (λ (t : List ℕ). length t ≤ LIMIT) e within

pub read_ok : {V : Type 0} (v : V) (result : Result V Fault) (Q : V → Type 0) → GivesOrMemory result (Ok v) → Q v → IfOk result Q
read_ok {V} v result Q h q = elim h [
  | inl e ↦ subst (λ (r : Result V Fault). IfOk r Q) (sym e) q
  | inr e ↦ subst (λ (r : Result V Fault). IfOk r Q) (sym e) tt
]

pub read_err : {V : Type 0} (v : V) (result : Result V Fault) (IsLong : Type 0) → GivesOrMemory result (Ok v) → IfErr result (IsLost IsLong)
read_err {V} v result IsLong h = elim h [
  | inl e ↦ subst (λ (r : Result V Fault). IfErr r (IsLost IsLong)) (sym e) tt
  | inr e ↦ subst (λ (r : Result V Fault). IfErr r (IsLost IsLong)) (sym e) (inl refl)
]

-- what is read from a text has that text
pub brought : {V : Type 0} (kind : Kind V) (text bytes : List ℕ) (result : Result V Fault) → bytes ≡ text → Decodes kind bytes result → IfOk result (IsTextOf kind text)
brought kind text bytes (Ok v) e decodes = subst (λ (t : List ℕ). IsTextOf kind t v) e decodes.value.1
brought kind text bytes (Err f) e decodes = tt

-- and is within the limit
pub brought_within : {V : Type 0} (kind : Kind V) (text bytes : List ℕ) (result : Result V Fault) → bytes ≡ text → Decodes kind bytes result → IfOk result (λ _. length text ≤ LIMIT)
brought_within kind text bytes (Ok v) e decodes = subst (λ (t : List ℕ). length t ≤ LIMIT) e decodes.value.0
brought_within kind text bytes (Err f) e decodes = tt

pub read_within : {V : Type 0} (kind : Kind V) (bytes : List ℕ) (result : Result V Fault) → Decodes kind bytes result → IfOk result (λ v. length (kind.text v) ≤ LIMIT)
read_within kind bytes (Ok v) decodes = within_text bytes (kind.text v) decodes.value.1.spelled decodes.value.0
read_within kind bytes (Err f) decodes = tt

-- an answer that was read fits
pub read_fits : (replicas : ℕ) (bytes : List ℕ) (result : Result AnswerValue Fault) → Decodes (answer_kind replicas) bytes result → IfOk result (λ a. Fits replicas (coordinates a.state))
read_fits replicas bytes (Ok a) decodes = state_fits replicas a.state decodes.value.1.is_value.state
read_fits replicas bytes (Err e) decodes = tt

-- ---- a text that isn't written

pub unwritten : (n : ℕ) (fault : Fault) (IsLong : Type 0) → (LIMIT < n → IsLong) → IsUnwritten n fault → IsLost IsLong fault
unwritten n fault IsLong long h = elim h [ inl m ↦ inl m.0 | inr l ↦ inr (l.0, long l.1) ]

-- ---- what fits

pub digest_fits : (replicas : ℕ) (v : StateValue) → Fits replicas (coordinates v) → DigestFits replicas (digest_of v)
digest_fits replicas v fits = record { dots = λ d h. fits.dots d (sym (contains-seen_of v.lives d) ∙ h); numbers = fits.numbers }

-- ---- the text of a digest

module _ (v : StateValue) (digest : DigestValue) (is : digest ≡ digest_of v) where
  asked_fits : (replicas : ℕ) → Fits replicas (coordinates v) → DigestFits replicas digest
  asked_fits replicas fits = subst (DigestFits replicas) (sym is) (digest_fits replicas v fits)

  pub is_ask : (r : Result (Vec ℕ) Fault) → Encodes (digest_text digest) r
      → ((n : ℕ) → DigestFits n digest → AreDotsOf n digest.seen) → ((n : ℕ) → DigestFits n digest → IsDigestOf n digest)
      → IfOk r (λ bytes. IsAskOf v bytes.items)
  is_ask (Ok bytes) text dots value = record {
    text = text.0 ∙ ap digest_text is;
    within = subst (λ (t : List ℕ). length t ≤ LIMIT) (sym text.0) text.1;
    dots = λ n fits. subst (λ (d : DigestValue). AreDotsOf n d.seen) is (dots n (asked_fits n fits));
    again = λ n fits. subst (IsDigestOf n) is (value n (asked_fits n fits));
  }
  is_ask (Err e) text dots value = tt

  pub no_ask : (r : Result (Vec ℕ) Fault) → Encodes (digest_text digest) r → IfErr r (IsLost (IsLongDigest v))
  no_ask (Ok bytes) text = tt
  no_ask (Err e) text = unwritten (length (digest_text digest)) e (IsLongDigest v) (λ long. subst (λ (d : DigestValue). LIMIT < length (digest_text d)) is long) text

-- ---- a fault that is handed on

pub lost : {T : Type 0} (result : Result T Fault) (fault : Fault) (IsLong : Type 0) → IsErrAnd result (λ e. e ≡ fault) → IsLost IsLong fault → IfErr result (IsLost IsLong)
lost (Ok x) fault IsLong is h = tt
lost (Err e) fault IsLong is h = subst (IsLost IsLong) (sym is) h

-- ---- where two rosters meet

-- one that begins another has no more names
begins_length : (r s : RosterValue) → Begins r s → length r.names ≤ length s.names
begins_length r s b =
    let is : length s.names ≡ length r.names + length b.1.0 = ap length b.1.1 ∙ length-append r.names b.1.0 in
    omega (arith, is)

-- what is taken is taken as ever
pub taken_as_ever : (r s : RosterValue) (a : StateValue) (own : ℕ) (d : StateValue) (result : Result (Unit {0}) Fault) → OneBegins r s → TakeWithGives r s a own d result → TakeGives a own d result
taken_as_ever r s a own d (Ok x) meet gives = gives.1
taken_as_ever r s a own d (Err WrongGroup) meet gives = absurd (gives (elim meet [ inl b ↦ b.0 | inr b ↦ sym b.0 ]))
taken_as_ever r s a own d (Err WrongRoster) meet gives = absurd (gives.1 meet)
taken_as_ever r s a own d (Err f) meet gives = gives.1

-- ---- what is answered

module _ (digest : DigestValue) (asker : ℕ) (held : StateValue) (a : AnswerValue) (is : IsAnswerTo digest asker held a) where
  pub answer_fits : (replicas : ℕ) → Fits replicas (coordinates held) → Fits replicas (coordinates a.state)
  answer_fits replicas fits = subst (Fits replicas) (sym is.delta) (least_fits replicas (coordinates held) (ranks_in digest) fits)

  pub answer_is_above : IsAbove (coordinates a.state) (ranks_in digest)
  answer_is_above = subst (λ (c : Coordinates). IsAbove c (ranks_in digest)) (sym is.delta) (least_above (coordinates held) (ranks_in digest))

  -- to the one that asked, whatever it has become, it does what the whole state does
  pub answer_joins : (asked mine : StateValue) → digest ≡ digest_of asked → AtMost (coordinates asked) (coordinates mine) → join (coordinates mine) (coordinates a.state) ≡ join (coordinates mine) (coordinates held)
  answer_joins asked mine e grown =
      let delta : coordinates a.state ≡ least (coordinates held) (ranks (coordinates asked)) = is.delta ∙ ap (least (coordinates held)) (ap ranks_in e ∙ ranks_of_digest asked) in
      ap (join (coordinates mine)) delta ∙ grown_delta (coordinates held) (coordinates asked) (coordinates mine) grown

  -- and a friend takes it, unless memory runs out
  pub answer_is_taken : (left : ℕ) (r t : RosterValue) (mine : StateValue) (result : Result (Unit {0}) Fault) (IsLong : Type 0) → OneBegins r t → AreFriends left (coordinates held) asker (coordinates mine) → TakeWithGives r t mine asker a.state result → IfErr result (IsLost IsLong)
  answer_is_taken left r t mine result IsLong meet friends gives = elim (least_is_taken left asker held mine a.state (ranks_in digest) result friends is.delta (taken_as_ever r t mine asker a.state result meet gives)) [
    | inl e ↦ subst (λ (r : Result (Unit {0}) Fault). IfErr r (IsLost IsLong)) (sym e) tt
    | inr e ↦ subst (λ (r : Result (Unit {0}) Fault). IfErr r (IsLost IsLong)) (sym e) (inl refl)
  ]

-- ---- the text of an answer

-- why encoding in a format writes nothing
unwritten_in : (format : Format) (text : List ℕ) (fault : Fault) (IsLong : Type 0) → (LIMIT < length text → IsLong) → EncodesIn format text (Err fault) → IsLost IsLong fault
unwritten_in One text fault IsLong long h = unwritten (length text) fault IsLong long h
unwritten_in Two text fault IsLong long h = elim h [ inl m ↦ inl m | inr l ↦ inr (l.0, long l.1) ]

module _ (format : Format) (digest : DigestValue) (asker : ℕ) (held delta : StateValue) (rows : List Row) (is : IsAnswerTo digest asker held (answer asker delta rows)) where
  pub is_reply : (bytes : Vec ℕ) (components : ℕ) → EncodesIn format (answer_text_in format (answer asker delta rows)) (Ok bytes) → components ≡ size delta
      → ((n : ℕ) → Fits n (coordinates delta) → AreDotsOf n (seen_of delta.lives))
      → ((n : ℕ) (peer : Ranks) → asker < n → Fits n (coordinates delta) → IsAbove (coordinates delta) peer → IsCertificate peer delta rows → IsAnswerOf n (answer asker delta rows))
      → IsReplyIn format digest asker held bytes.items components
  is_reply bytes components text sized dots again = record {
    value = answer asker delta rows;
    answers = is;
    text = text.0;
    within = subst (λ (t : List ℕ). length t ≤ LIMIT) (sym text.0) text.1;
    sized = sized;
    dots = λ n fits. dots n (answer_fits digest asker held (answer asker delta rows) is n fits);
    again = λ n below fits. again n (ranks_in digest) below (answer_fits digest asker held (answer asker delta rows) is n fits) (answer_is_above digest asker held (answer asker delta rows) is) is.certificate;
  }

  pub no_reply : (e : Fault) → EncodesIn format (answer_text_in format (answer asker delta rows)) (Err e) → IsLost (IsLongAnswerIn format digest asker held) e
  no_reply e encodes =
      unwritten_in format (answer_text_in format (answer asker delta rows)) e (IsLongAnswerIn format digest asker held) (λ long. record { value = answer asker delta rows; answers = is; long = long }) encodes

-- ---- a take

-- the same fact of what equals them
fits_here : (n m : ℕ) (v w : StateValue) → n ≡ m → w ≡ v → Fits m (coordinates v) → Fits n (coordinates w)
fits_here n m v w e k fits = subst (λ (x : ℕ). Fits x (coordinates w)) (sym e) (subst (λ (x : StateValue). Fits m (coordinates x)) (sym k) fits)

-- what was asked, and what was answered to it, of the replicas themselves
pub record IsAsked (answerer asked mine : ReplicaValue) (digest : DigestValue) (a : AnswerValue) : Type 0 where
  pub same : digest ≡ digest_of asked.state
  pub answers : IsAnswerTo digest mine.own answerer.state a

pub asked_of : (n own : ℕ) (answerer asked mine : ReplicaValue) (told held : StateValue) (digest : DigestValue) (a : AnswerValue) → n ≡ replicas_of_both answerer mine → own ≡ mine.own → own < length mine.roster.names
    → told ≡ asked.state → held ≡ answerer.state → Fits (length answerer.roster.names) (coordinates answerer.state)
    → (Fits n (coordinates told) → digest ≡ digest_of told)
    → (own < n → Fits n (coordinates held) → IsAnswerTo digest own held a)
    → CanRead answerer asked mine → IsAsked answerer asked mine digest a
asked_of n own answerer asked mine told held digest a many is_own below told_is held_is held_fits asks answers can =
    let both = replicas_of_both answerer mine in
    let fits : Fits both (coordinates answerer.state) = fits_more (length answerer.roster.names) both (coordinates answerer.state) (omega arith) held_fits in
    let here : IsAnswerTo digest own held a = answers (omega (arith, many, below)) (fits_here n both answerer.state held many held_is fits) in
    record {
      same = asks (fits_here n both asked.state told many told_is can) ∙ ap digest_of told_is;
      answers = subst (λ (k : ℕ). IsAnswerTo digest k answerer.state a) is_own (subst (λ (s : StateValue). IsAnswerTo digest own s a) held_is here);
    }

-- what the take of the answer refuses is a refusal of the exchange
pub untaken : (answerer asked mine : ReplicaValue) (digest : DigestValue) (a : AnswerValue) (fault : Fault) → IsAsked answerer asked mine digest a
    → (a.asker ≡ mine.own → IsCertified digest a → TakeWithGives {T = Unit {0}} mine.roster answerer.roster mine.state mine.own a.state (Err fault)) → IsRefusal answerer asked mine fault
untaken answerer asked mine digest a fault told gives =
    let is = told.answers in
    Untaken a (subst (λ (d : DigestValue). IsAnswerTo d mine.own answerer.state a) told.same is) (gives is.asked (answer_is_above digest mine.own answerer.state a is, is.certificate))

-- friends whose rosters meet read each other
pub can_read : (answerer asked mine : ReplicaValue) → Fits (length asked.roster.names) (coordinates asked.state) → CanExchange answerer asked mine → CanRead answerer asked mine
can_read answerer asked mine fits can =
    let le = begins_length asked.roster mine.roster can.asked_roster in
    fits_more (length asked.roster.names) (replicas_of_both answerer mine) (coordinates asked.state) (omega (arith, le)) fits

-- the same text of the same replicas
pub checked_text : (asked : StateValue) (n m : ℕ) (told : StateValue) (digest : DigestValue) → n ≡ m → told ≡ asked
    → IsTextOf (digest_kind n) (digest_text (digest_of told)) digest → IsTextOf (digest_kind m) (digest_text (digest_of asked)) digest
checked_text asked n m told digest many is text =
    subst (λ (k : ℕ). IsTextOf (digest_kind k) (digest_text (digest_of asked)) digest) many (subst (λ (s : StateValue). IsTextOf (digest_kind n) (digest_text (digest_of s)) digest) is text)

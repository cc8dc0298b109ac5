-- Steps of a feed.
use Rattle.std.proofs.Common.{◌≡◌, ℕ, ◌-◌, ◌<◌, ◌≤◌, ◌⊎◌, inl, inr, Bool, true, false, cond, ltb, eqb, List, [], ◌++◌, length, Result, Ok, Err, refl, sym, ap, ◌∙◌, subst, append_assoc, arith, length-append}
use Rattle.std.proofs.lemmas.Bool.{cases_lt, le-ltb, lt-ltb, ne_eqb}
use Rattle.std.proofs.lemmas.List.{append-nil, get_or_append_left, nil_from_length}
use Rattle.std.proofs.Math.Seq.{get_or-append_right}
use Rattle.rds_names.specs.declared.fault.Fault.{Fault}
use Rattle.rds_names.specs.declared.fault.Fault.TheVariants.{Memory, Cut, Extra, TooLong}
use Rattle.rds_feeds.specs.declared.unfinished.Progress.{Progress}
use Rattle.rds_feeds.specs.declared.unfinished.Progress.TheVariants.{More, Whole}
use Rattle.rds_feeds.specs.Pieces as pieces
use Rattle.rds_bytes.specs.Reading.{Reader, Reads, Fails, ◌>>=◌}
use Rattle.rds_codec.specs.Decoding.{Decodes, all_of}
use Rattle.rds_codec.specs.Kinds.{Kind}
use Rattle.rds_keep.specs.Feeding.{DecodesTexts, FeedValue, EachIsByte, decoding, read_on, read_behind, ending, StandsFor, AddsPiece, RefusesPiece, GoesOn, Ends}
use Rattle.rds_codec.specs.declared.limits.TheConstants.{LIMIT}

module _ {U V : Type 0} (finish : U → Reader V) where
  joined : (held block bytes more : List ℕ) → bytes ≡ held ++ block → held ++ (block ++ more) ≡ bytes ++ more
  joined held block bytes more is = sym (append_assoc held block more) ∙ ap (λ (t : List ℕ). t ++ more) (sym is)

  -- ---- a block

  pub block_read : (u : U) (held block bytes after rest : List ℕ) (next : Progress U V) → bytes ≡ held ++ block → rest ≡ after
      → pieces.ReadsOn finish (λ more. finish u (bytes ++ more)) next after → GoesOn finish (More u) held block next rest
  block_read u held block bytes after rest (More n) is same r more =
      ap (finish u) (joined held block bytes more is) ∙ r.0 more ∙ ap (λ (t : List ℕ). finish n (t ++ more)) (sym same)
  block_read u held block bytes after rest (Whole v) is same r more =
      ap (finish u) (joined held block bytes more is) ∙ r more ∙ ap (λ (t : List ℕ). read_on finish (Whole v) (t ++ more)) (sym same)

  refused_all : (read : Reader V) (bytes : List ℕ) (e : Fault) → read bytes ≡ Err e → all_of read bytes ≡ Err e
  refused_all read bytes e is = rw is refl

  pub block_refused : (u : U) (held block bytes : List ℕ) (e : Fault) → bytes ≡ held ++ block
      → pieces.RefusesAlready (λ more. finish u (bytes ++ more)) e → Ends finish (More u) held block e
  block_refused u held block bytes e is r = elim r [
    | inl memory ↦ inl memory
    | inr never ↦ inr (λ more. refused_all (finish u) (held ++ (block ++ more)) e (ap (finish u) (joined held block bytes more is) ∙ never.1 more))
  ]

  -- the value is whole, and bytes are behind it
  pub block_extra : (u : U) (held block bytes behind : List ℕ) (v : V) → bytes ≡ held ++ block → ((more : List ℕ) → finish u (bytes ++ more) ≡ Ok (v, behind ++ more)) → 0 < length behind
      → Ends finish (More u) held block Extra
  block_extra u held block bytes behind v is reads some = inr (λ more.
      (let at : finish u (held ++ (block ++ more)) ≡ Ok (v, behind ++ more) = ap (finish u) (joined held block bytes more is) ∙ reads more in
      let left : eqb (length (behind ++ more)) 0 ≡ false = ne_eqb (length (behind ++ more)) 0 (omega (arith, some, length-append behind more)) in
      rw (at, left) refl))

  -- the value is whole, and nothing is behind it
  pub block_whole : (u : U) (held block bytes behind rest : List ℕ) (v : V) → bytes ≡ held ++ block → ((more : List ℕ) → finish u (bytes ++ more) ≡ Ok (v, behind ++ more)) → length behind ≡ 0 → rest ≡ []
      → GoesOn finish (More u) held block (Whole v) rest
  block_whole u held block bytes behind rest v is reads none empty =
      block_read u held block bytes behind rest (Whole v) is (empty ∙ sym (nil_from_length behind none)) reads

  -- ---- a piece

  -- what was read so far goes on as what was there at first
  pub record IsReadSoFar (first : Progress U V) (held piece : List ℕ) (now : Progress U V) (rest bytes : List ℕ) : Type 0 where
    pub same : (more : List ℕ) → read_on finish first (held ++ (piece ++ more)) ≡ read_on finish now (rest ++ (bytes ++ more))

  -- ---- the end

  abbrev ended : V → List ℕ → Result V Fault
  ended v after = cond (eqb (length after) 0) (Ok v) (Err Extra)

  pub as_it_is : (r : Result V Fault) → Reads (λ v. v) r r
  as_it_is (Ok v) = refl
  as_it_is (Err Memory) = tt
  as_it_is (Err _) = refl

  fails : (e : Fault) (r : Result V Fault) → (e ≡ Memory) ⊎ (r ≡ Err e) → Fails e r
  fails Memory r h = tt
  fails Cut r h = elim h [ inl memory ↦ absurd cc | inr is ↦ is ]
  fails e r h = elim h [ inl memory ↦ subst (λ (x : Fault). Fails x r) (sym memory) tt | inr is ↦ is ]

  pub whole_ends : (v : V) (after : List ℕ) (r : Result V Fault) → r ≡ ended v after → Reads (λ w. w) r (all_of (read_on finish (Whole v)) after)
  whole_ends v after r is = subst (λ (x : Result V Fault). Reads (λ w. w) r x) is (as_it_is r)

  here : (u : U) (rest : List ℕ) → finish u (rest ++ []) ≡ finish u rest
  here u rest = ap (finish u) (append-nil rest)

  pub read_whole_ends : (u : U) (rest : List ℕ) (v : V) (after : List ℕ) (r : Result V Fault) → ((more : List ℕ) → finish u (rest ++ more) ≡ Ok (v, after ++ more))
      → r ≡ ended v after → Reads (λ w. w) r (all_of (read_on finish (More u)) rest)
  read_whole_ends u rest v after r reads is =
      let at : finish u rest ≡ Ok (v, after) = sym (here u rest) ∙ reads [] ∙ ap (λ (t : List ℕ). read_on finish (Whole v) t) (append-nil after) in
      rw at (whole_ends v after r is)

  pub cut_ends : (u n : U) (rest after : List ℕ) → ((more : List ℕ) → finish u (rest ++ more) ≡ finish n (after ++ more)) → finish n after ≡ Err Cut
      → all_of (read_on finish (More u)) rest ≡ Err Cut
  cut_ends u n rest after reads cut = refused_all (finish u) rest Cut (sym (here u rest) ∙ reads [] ∙ here n after ∙ cut)

  pub refused_ends : (u : U) (rest : List ℕ) (e : Fault) → pieces.RefusesAlready (λ more. finish u (rest ++ more)) e → Reads {X = V} (λ w. w) (Err e) (all_of (read_on finish (More u)) rest)
  refused_ends u rest e r = fails e (all_of (finish u) rest) (elim r [ inl memory ↦ inl memory | inr never ↦ inr (refused_all (finish u) rest e (sym (here u rest) ∙ never.1 [])) ])

  pub ends_as : (reader : Reader V) (came : List ℕ) (feed : FeedValue U V) (p : Progress U V) (r : Result V Fault) → feed.progress ≡ Ok p
      → Reads (λ w. w) r (all_of (read_on finish p) feed.rest) → StandsFor finish reader feed came → Reads (λ w. w) r (decoding reader came)
  ends_as reader came feed p r is reads stands =
      let room : ltb feed.left 0 ≡ false = le-ltb feed.left 0 (omega arith) in
      let all : ending finish feed [] ≡ all_of (read_on finish p) feed.rest = rw (room, is, append-nil feed.rest) refl in
      let at : decoding reader came ≡ all_of (read_on finish p) feed.rest = ap (decoding reader) (sym (append-nil came)) ∙ stands.same [] ∙ all in
      subst (λ (x : Result V Fault). Reads (λ w. w) r x) (sym at) reads

  -- ---- a piece that is fed

  pub bytes-append : (a b : List ℕ) → EachIsByte a → EachIsByte b → EachIsByte (a ++ b)
  bytes-append a b p q i = elim (cases_lt i (length a)) [
    | inl lt ↦ rw (get_or_append_left a b 0 i lt) (p i)
    | inr le ↦ rw (get_or-append_right a b i 0 le) (q (i - length a))
  ]

  -- the same bytes are too many, before the piece and behind it
  room_left : (left : ℕ) (piece more : List ℕ) → length piece ≤ left → ltb left (length (piece ++ more)) ≡ ltb (left - length piece) (length more)
  room_left left piece more fits = elim (cases_lt (left - length piece) (length more)) [
    | inl lt ↦ lt-ltb left (length (piece ++ more)) (omega (arith, length-append piece more)) ∙ sym (lt-ltb (left - length piece) (length more) lt)
    | inr le ↦ le-ltb left (length (piece ++ more)) (omega (arith, length-append piece more)) ∙ sym (le-ltb (left - length piece) (length more) le)
  ]

  abbrev ended_of : Result (V × List ℕ) Fault → Result V Fault
  ended_of r = r >>= λ x. ended x.0 x.1

  module _ (old : FeedValue U V) (p : Progress U V) (held piece : List ℕ) (is : old.progress ≡ Ok p) (rest_is : old.rest ≡ held) (fits : length piece ≤ old.left) where
    -- what it ends as, once the piece has come
    comes : (reader : Reader V) (came : List ℕ) → StandsFor finish reader old came → (more : List ℕ)
        → decoding reader ((came ++ piece) ++ more) ≡ cond (ltb (old.left - length piece) (length more)) (Err TooLong) (ended_of (read_on finish p (held ++ (piece ++ more))))
    comes reader came stands more =
        ap (decoding reader) (append_assoc came piece more) ∙ stands.same (piece ++ more)
        ∙ ap (λ (b : Bool). cond b (Err TooLong) (all_of (read_behind finish old.progress old.rest) (piece ++ more))) (room_left old.left piece more fits)
        ∙ ap (λ (o : Result (Progress U V) Fault). cond (ltb (old.left - length piece) (length more)) (Err TooLong) (all_of (read_behind finish o old.rest) (piece ++ more))) is
        ∙ ap (λ (t : List ℕ). cond (ltb (old.left - length piece) (length more)) (Err TooLong) (all_of (read_behind finish (Ok p) t) (piece ++ more))) rest_is

    pub piece_adds : (next : Progress U V) (rest : List ℕ) → EachIsByte piece → GoesOn finish p held piece next rest
        → AddsPiece finish old (record { progress = Ok next; rest = rest; left = old.left - length piece }) piece
    piece_adds next rest bytes goes reader came stands = record {
      going = refl;
      bytes = bytes-append came piece stands.bytes bytes;
      room = omega (arith, stands.room, length-append came piece);
      same = λ more. comes reader came stands more
          ∙ ap (λ (r : Result (V × List ℕ) Fault). cond (ltb (old.left - length piece) (length more)) (Err TooLong) (ended_of r)) (goes more);
    }

    pub piece_refuses : (e : Fault) → Ends finish p held piece e → RefusesPiece finish old piece e
    piece_refuses e ends = elim ends [
      | inl memory ↦ inl memory
      | inr never ↦ inr (λ reader came stands. (
          let room : ltb (old.left - length piece) 0 ≡ false = le-ltb (old.left - length piece) 0 (omega arith) in
          record {
            now = ap (decoding reader) (sym (append-nil (came ++ piece))) ∙ comes reader came stands [] ∙ rw room (never []);
            ever = λ more within.
                (let left : ltb (old.left - length piece) (length more) ≡ false =
                le-ltb (old.left - length piece) (length more) (omega (arith, within, stands.room, length-append came piece, length-append (came ++ piece) more)) in
                comes reader came stands more ∙ rw left (never more));
          }))
    ]

  pub piece_too_long : (old : FeedValue U V) (piece : List ℕ) → old.left < length piece → RefusesPiece finish old piece TooLong
  piece_too_long old piece long = inr (λ reader came stands.
      (let over : ltb LIMIT (length (came ++ piece)) ≡ true = lt-ltb LIMIT (length (came ++ piece)) (omega (arith, long, stands.room, length-append came piece)) in
      record {
        now = rw over refl;
        ever = λ more within. absurd (omega (arith, long, within, stands.room, length-append came piece, length-append (came ++ piece) more));
      }))

  -- a feed of what is read so
  pub stands_by : (reader : Reader V) (u : U) (feed : FeedValue U V) → ((bytes : List ℕ) → finish u bytes ≡ reader bytes)
      → StandsFor finish (finish u) feed [] → StandsFor finish reader feed []
  stands_by reader u feed reads stands = record {
    going = stands.going;
    bytes = stands.bytes;
    room = stands.room;
    same = λ more. ap (λ (r : Result (V × List ℕ) Fault). cond (ltb LIMIT (length more)) (Err TooLong) (ended_of r)) (sym (reads more)) ∙ stands.same more;
  }

  pub ends_as_text : (kind : Kind V) (reader : Reader V) (came : List ℕ) (feed : FeedValue U V) (r : Result V Fault) → DecodesTexts kind reader
      → StandsFor finish reader feed came → Reads (λ w. w) r (decoding reader came) → Decodes kind came r
  ends_as_text kind reader came feed r law stands reads =
      let within : length came ≤ LIMIT = omega (arith, stands.room) in
      let short : ltb LIMIT (length came) ≡ false = le-ltb LIMIT (length came) within in
      law.decodes came r stands.bytes within (rw short at reads)

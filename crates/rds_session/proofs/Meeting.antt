-- The whole talk of two sessions, and each prefix of it.
use Rattle.std.proofs.Common.{◌≡◌, ◌≢◌, ◌≤◌, ℕ, Bool, true, false, cond, List, [], ◌∷◌, ◌++◌, length, Option, Some, None, Ok, refl, sym, ap, ◌∙◌, subst, arith, ◌⊎◌, inl, inr}
use Rattle.std.specs.List.{AllByRecursion}
use Rattle.std.specs.Str.{bytes_eq}
use Rattle.std.proofs.lemmas.List.{append-nil}
use Rattle.std.proofs.lemmas.Slice.Eq.{bytes_eq-Decides}
use mathlib.Core.Bool.{false≢true}
use Rattle.rds_names.specs.Roster.{RosterValue, OneBegins}
use Rattle.rds_names.specs.declared.fault.Fault.TheVariants.{Forked}
use Rattle.rds_state.specs.Fits.{ReplicaValue}
use Rattle.rds_codec.specs.DigestTexts.{digest_text}
use Rattle.rds_codec.specs.declared.limits.TheConstants.{LIMIT}
use Rattle.rds_delta.specs.Digested.{DigestValue, digest_of}
use Rattle.rds_delta.proofs.Digests.{live_inside}
use Rattle.rds_state.specs.declared.mark.Mark.{Mark}
use Rattle.rds_session.specs.declared.talk.Side.TheVariants.{Client, Server}
use Rattle.rds_session.specs.declared.step.Ended.{Ended}
use Rattle.rds_session.specs.declared.step.Ended.TheVariants.{Going, Done, Failed}
use Rattle.rds_answers.specs.Checked.{least_state}
use Rattle.rds_session.specs.declared.version.Version.{Version}
use Rattle.rds_answers.specs.Hashes.{digest_hash}
use Rattle.rds_session.specs.Judging.{ForDigest, ForWhole, ForDelta, ForBye, Said, Greets, Learns, Shares, Misses, Receives, Finishes, Forks, verdict, longer_than, replies_of}
use Rattle.rds_session.specs.Meeting.{AgreeWhereTold, IsBeginningOf, CanMeet, CollideIn, IsItsDelta, Hear, HearAll, HaveEnded, HaveReceived, IsServed, ReceiveDeltas, BothEnd, BothTellForks, ServesEach, last_mark, client_words, server_words}
use Rattle.rds_session.specs.ByMessages.{talk}
use Rattle.rds_session.specs.Messages.{hello_message, behind_message, digest_message, digest_said, hash_message, delta_message, done_message}
use Rattle.rds_session.specs.Marked.{same_mark}
use Rattle.rds_session.specs.Received.{Delivery}
use Rattle.rds_session.specs.Session.{Standing, Sent, fresh, then_more, after_said, ended_after, received_after, run_bytes, opening, after_opening, So_far, course}
use Rattle.rds_session.specs.Steps.{IsOver}
use Rattle.rds_session.specs.Versions.{delta_format, says_hashes}
use Rattle.rds_session.specs.Stream.{Splits}
use Rattle.rds_session.proofs.Course.{run_follows, IsOrderly}
use Rattle.rds_session.proofs.Plays.{Turn, Talks, IsPlay, Fits, says, texts, texts_are, opened_by, one_talks, talks_then, answers, words, client_at, server_at, beginnings, whole, client_comes, server_comes, server_talks}
use Rattle.rds_session.proofs.Runs.{run-append}
use Rattle.rds_session.proofs.Talking.{by_messages}
use Rattle.rds_session.proofs.Told.{IsTold, ending, speaker, client_speaks, server_speaks, hello_accepted, digest_accepted, whole_accepted, heard_so, behind_answer, hash_accepted, hash_first, hash_room, same_digest, delta_accepted, done_accepted, its_least}
use Rattle.rds_session.proofs.Endings.{agree_turned, are_alike, ending_agreed, ending_forked}

-- ---- texts that are compared

eq_bytes : (x y : List ℕ) → bytes_eq x y ≡ true → x ≡ y
eq_bytes x y is = (bytes_eq-Decides x y).0 is

bytes_eq_of : (x y : List ℕ) → x ≡ y → bytes_eq x y ≡ true
bytes_eq_of x y is = (bytes_eq-Decides x y).1 is

other_bytes : (x y : List ℕ) → bytes_eq x y ≡ false → x ≢ y
other_bytes x y is e = false≢true (sym is ∙ bytes_eq_of x y e)

other_turned : (x y : List ℕ) → bytes_eq x y ≡ false → bytes_eq y x ≡ false
other_turned x y is = by (bytes_eq y x) refl
  where
    by : (b : Bool) → bytes_eq y x ≡ b → b ≡ false
    by true e = absurd (other_bytes x y is (sym (eq_bytes y x e)))
    by false e = refl

-- ---- standings

abbrev client : Version → ReplicaValue → Standing
client version a = record (fresh (Client version) a) { begun = true }

abbrev server : ReplicaValue → Standing
server b = record (fresh Server b) { begun = true }

-- what a side receives of the other
abbrev delivered : Version → ReplicaValue → ReplicaValue → Said
delivered version own peer = Receives (least_state peer.state (digest_of own.state)) (longer_than own.roster peer.roster) (last_mark version own peer)

-- a side that heard the other's HELLO, that learnt its digest, that has its delta, and that heard its last word
abbrev greeted : Standing → Version → ReplicaValue → ReplicaValue → Standing
greeted s version own peer = after_said s (Greets (speaker version own peer))

abbrev learnt_so : Standing → Version → ReplicaValue → ReplicaValue → DigestValue → Standing
learnt_so s version own peer digest = record (greeted s version own peer) { turn = ForDelta (speaker version own peer) digest }

abbrev learnt : Standing → Version → ReplicaValue → ReplicaValue → Standing
learnt s version own peer = learnt_so s version own peer (digest_of peer.state)

abbrev told : Standing → Version → ReplicaValue → ReplicaValue → Standing
told s version own peer = after_said (learnt s version own peer) (delivered version own peer)

abbrev finished : Standing → Version → ReplicaValue → ReplicaValue → Standing
finished s version own peer = after_said (told s version own peer) (ending (last_mark version own peer) (last_mark version peer own))

-- a server that missed the other's digest
abbrev missed : Standing → Version → ReplicaValue → ReplicaValue → Standing
missed s version own peer = record (greeted s version own peer) { turn = ForWhole (speaker version own peer) }

-- ---- words

abbrev delta_to : Version → ReplicaValue → ReplicaValue → List ℕ
delta_to version from to = delta_message from (delta_format version) to.own (digest_of to.state)

abbrev last_word : Version → ReplicaValue → ReplicaValue → List (List ℕ)
last_word version own peer = done_message (last_mark version own peer) ∷ []

abbrev last_words : Version → ReplicaValue → ReplicaValue → List (List ℕ)
last_words version own peer = delta_to version own peer ∷ last_word version own peer

done_fits : (mark : Option Mark) → Fits (done_message mark)
done_fits None = omega arith
done_fits (Some mark) = omega arith

other_way : {r s : RosterValue} → OneBegins r s → OneBegins s r
other_way h = elim h [ inl own ↦ inr own | inr other ↦ inl other ]

client_told_by : (version : Version) (a b : ReplicaValue) → CanMeet version a b → IsTold version a b
client_told_by version a b h = record { roster = h.roster; others = λ e. h.others (sym e); text = h.b_text; own_text = h.a_text; room = h.b_room }

server_told_by : (version : Version) (a b : ReplicaValue) → CanMeet version a b → IsTold version b a
server_told_by version a b h = record { roster = other_way h.roster; others = h.others; text = h.a_text; own_text = h.b_text; room = h.a_room }

-- a server answers the last word either way; a client doesn't
said_last : (said : Said) (mark : Option Mark) → (said ≡ Finishes) ⊎ (said ≡ Forks) → (s : Standing) → s.side ≡ Server → s.turn ≡ ForBye mark
    → replies_of s.side s.kept s.turn said ≡ done_message mark ∷ []
said_last said mark is s side turn = elim is [ inl done ↦ rw (side, turn, done) refl | inr forks ↦ rw (side, turn, forks) refl ]

ends_so : (own mark : Option Mark) → (ending own mark ≡ Finishes) ⊎ (ending own mark ≡ Forks)
ends_so None mark = inl refl
ends_so (Some own) None = inl refl
ends_so (Some own) (Some mark) = by (same_mark own mark)
  where
    by : (same : Bool) → (cond same Finishes Forks ≡ Finishes) ⊎ (cond same Finishes Forks ≡ Forks)
    by true = inl refl
    by false = inr refl

-- the last word ends the session
ended_by_it : (ended : Ended) (own mark : Option Mark) → IsOver (ended_after ended (ending own mark))
ended_by_it ended own mark = elim (ends_so own mark) [ inl done ↦ rw done tt | inr forks ↦ rw forks tt ]

-- and takes nothing from what was received
received_last : (own mark : Option Mark) (received : Option Delivery) → received_after received (ending own mark) ≡ received
received_last own mark received = elim (ends_so own mark) [ inl done ↦ rw done refl | inr forks ↦ rw forks refl ]

-- ---- what each hears, message by message

module _ (version : Version) (a b : ReplicaValue) (h : CanMeet version a b) where
  abbrev c0 : Standing
  c0 = client version a

  abbrev s0 : Standing
  s0 = server b

  client_greeted : Talks c0 (hello_message b version ∷ []) (greeted c0 version a b) []
  client_greeted =
      one_talks c0 (hello_message b version) (Greets (speaker version a b)) [] refl refl h.b_room.hello
      (hello_accepted (Client version) version a b (client_speaks version) (client_told_by version a b h)) refl tt

  server_greeted : Talks s0 (hello_message a version ∷ []) (greeted s0 version b a) []
  server_greeted =
      one_talks s0 (hello_message a version) (Greets (speaker version b a)) [] refl refl h.a_room.hello
      (hello_accepted Server version b a (server_speaks version) (server_told_by version a b h)) refl tt

  client_told : Talks (learnt c0 version a b) (delta_to version b a ∷ []) (told c0 version a b) (last_words version a b)
  client_told =
      one_talks (learnt c0 version a b) (delta_to version b a) (delivered version a b) (last_words version a b) refl refl h.b_room.delta
      (delta_accepted version a b (digest_of b.state) (client_told_by version a b h)) refl (h.a_room.delta, (done_fits (last_mark version a b), tt))

  client_done : Talks (told c0 version a b) (last_word version b a) (finished c0 version a b) []
  client_done =
      one_talks (told c0 version a b) (done_message (last_mark version b a)) (ending (last_mark version a b) (last_mark version b a)) [] refl refl (done_fits (last_mark version b a))
      (done_accepted a (last_mark version a b) (last_mark version b a) (are_alike version a b b a))
      refl tt

  server_done : (digest : DigestValue) → Talks (learnt_so s0 version b a digest) (last_words version a b) (finished s0 version b a) (last_word version b a)
  server_done digest =
      let s3 = told s0 version b a in
      let said = ending (last_mark version b a) (last_mark version a b) in
      talks_then (learnt_so s0 version b a digest) s3 (finished s0 version b a) (delta_to version a b ∷ []) (last_word version a b) [] (last_word version b a)
      (one_talks (learnt_so s0 version b a digest) (delta_to version a b) (delivered version b a) [] refl refl h.a_room.delta (delta_accepted version b a digest (server_told_by version a b h)) refl tt)
      (one_talks s3 (done_message (last_mark version a b)) said (last_word version b a) refl refl (done_fits (last_mark version a b))
      (done_accepted b (last_mark version b a) (last_mark version a b) (are_alike version b a a b))
      (said_last said (last_mark version b a) (ends_so (last_mark version b a) (last_mark version a b)) s3 refl refl) (done_fits (last_mark version b a), tt))

  -- ---- each says its digest once

  -- what is known of how they say it: by these messages, which are accepted so
  record Once (of_client of_server : List ℕ) (client_act server_act : Said) : Type 0 where
    client_fits : Fits of_client
    server_fits : Fits of_server
    client_hears : verdict a (ForDigest (speaker version a b)) of_server ≡ Ok client_act
    client_says : replies_of (Client version) a (ForDigest (speaker version a b)) client_act ≡ []
    client_learns : after_said (greeted c0 version a b) client_act ≡ learnt c0 version a b
    server_hears : verdict b (ForDigest (speaker version b a)) of_client ≡ Ok server_act
    server_says : replies_of Server b (ForDigest (speaker version b a)) server_act ≡ hello_message b version ∷ of_server ∷ delta_to version b a ∷ []
    server_learns : after_said (greeted s0 version b a) server_act ≡ learnt s0 version b a

  abbrev once : List ℕ → List Turn
  once of_server =
      record { server = learnt s0 version b a; answer = hello_message b version ∷ of_server ∷ delta_to version b a ∷ []; client = told c0 version a b; words = last_words version a b }
      ∷ record { server = finished s0 version b a; answer = last_word version b a; client = finished c0 version a b; words = [] } ∷ []

  module _ (of_client of_server : List ℕ) (client_act server_act : Said) (is : Once of_client of_server client_act server_act) where
    client_learnt : Talks (greeted c0 version a b) (of_server ∷ []) (learnt c0 version a b) []
    client_learnt =
        subst (λ (t : Standing). Talks (greeted c0 version a b) (of_server ∷ []) t []) is.client_learns
        (one_talks (greeted c0 version a b) of_server client_act [] refl refl is.server_fits is.client_hears is.client_says tt)

    server_learnt : Talks (greeted s0 version b a) (of_client ∷ []) (learnt s0 version b a) (hello_message b version ∷ of_server ∷ delta_to version b a ∷ [])
    server_learnt =
        subst (λ (t : Standing). Talks (greeted s0 version b a) (of_client ∷ []) t (hello_message b version ∷ of_server ∷ delta_to version b a ∷ [])) is.server_learns
        (one_talks (greeted s0 version b a) of_client server_act (hello_message b version ∷ of_server ∷ delta_to version b a ∷ [])
        refl refl is.client_fits is.server_hears is.server_says (h.b_room.hello, (is.server_fits, (h.b_room.delta, tt))))

    once_played : IsPlay c0 s0 (hello_message a version ∷ of_client ∷ []) (once of_server)
    once_played = (
      talks_then s0 (greeted s0 version b a) (learnt s0 version b a) (hello_message a version ∷ []) (of_client ∷ []) [] (hello_message b version ∷ of_server ∷ delta_to version b a ∷ [])
          server_greeted server_learnt,
      (
        talks_then c0 (greeted c0 version a b) (told c0 version a b) (hello_message b version ∷ []) (of_server ∷ delta_to version b a ∷ []) [] (last_words version a b)
            client_greeted
            (talks_then (greeted c0 version a b) (learnt c0 version a b) (told c0 version a b) (of_server ∷ []) (delta_to version b a ∷ []) [] (last_words version a b) client_learnt client_told),
        (server_done (digest_of a.state), (client_done, (refl, ended_by_it Going (last_mark version a b) (last_mark version b a)))),
      ),
    )

  -- ---- the server misses the client's digest, and both say it whole

  abbrev twice : List Turn
  twice =
      record { server = missed s0 version b a; answer = hello_message b version ∷ digest_message version b ∷ []; client = learnt c0 version a b; words = behind_message version a (digest_of b.state) ∷ [] }
      ∷ record { server = learnt_so s0 version b a (heard_so version b.state (digest_of a.state)); answer = delta_to version b a ∷ []; client = told c0 version a b; words = last_words version a b }
      ∷ record { server = finished s0 version b a; answer = last_word version b a; client = finished c0 version a b; words = [] } ∷ []

  module _ (says : says_hashes version ≡ true) (other : bytes_eq (digest_hash (digest_of a.state)) (digest_hash (digest_of b.state)) ≡ false) where
    hash_missed : Talks (greeted s0 version b a) (hash_message a ∷ []) (missed s0 version b a) (hello_message b version ∷ digest_message version b ∷ [])
    hash_missed =
        one_talks (greeted s0 version b a) (hash_message a) (Misses (speaker version b a)) (hello_message b version ∷ digest_message version b ∷ [])
        refl refl (hash_first version b a h.a_room says) (hash_accepted version b a false says (hash_first version a b h.b_room says) (server_told_by version a b h) other) refl (h.b_room.hello, (h.b_room.digest, tt))

    digest_heard : Talks (greeted c0 version a b) (digest_message version b ∷ []) (learnt c0 version a b) (behind_message version a (digest_of b.state) ∷ [])
    digest_heard =
        one_talks (greeted c0 version a b) (digest_message version b) (Learns (speaker version a b) (digest_of b.state)) (behind_message version a (digest_of b.state) ∷ [])
        refl refl h.b_room.digest (digest_accepted version a b (client_told_by version a b h))
        (ap (λ (hashed : Bool). cond hashed (behind_message version a (digest_of b.state) ∷ []) []) says) (h.a_room.behind, tt)

    digest_answered : Talks (missed s0 version b a) (behind_message version a (digest_of b.state) ∷ []) (learnt_so s0 version b a (heard_so version b.state (digest_of a.state))) (delta_to version b a ∷ [])
    digest_answered =
        one_talks (missed s0 version b a) (behind_message version a (digest_of b.state)) (Learns (speaker version b a) (heard_so version b.state (digest_of a.state))) (delta_to version b a ∷ [])
        refl refl h.a_room.behind (whole_accepted version b a (server_told_by version a b h))
        (ap (λ (m : List ℕ). m ∷ []) (behind_answer version b (digest_of a.state) (live_inside a.state.lives) (delta_format version) a.own)) (h.b_room.delta, tt)

    twice_played : IsPlay c0 s0 (hello_message a version ∷ hash_message a ∷ []) twice
    twice_played = (
      talks_then s0 (greeted s0 version b a) (missed s0 version b a) (hello_message a version ∷ []) (hash_message a ∷ []) [] (hello_message b version ∷ digest_message version b ∷ []) server_greeted hash_missed,
      (
        talks_then c0 (greeted c0 version a b) (learnt c0 version a b) (hello_message b version ∷ []) (digest_message version b ∷ []) [] (behind_message version a (digest_of b.state) ∷ []) client_greeted digest_heard,
        (
          digest_answered,
          (
            client_told,
            (server_done (heard_so version b.state (digest_of a.state)), (client_done, (refl, ended_by_it Going (last_mark version a b) (last_mark version b a)))),
          ),
        ),
      ),
    )

  -- ---- the two ways

  -- without hashes each says its digest whole
  wholes : says_hashes version ≡ false → Once (digest_message version a) (digest_message version b) (Learns (speaker version a b) (digest_of b.state)) (Learns (speaker version b a) (digest_of a.state))
  wholes none = record {
    client_fits = h.a_room.digest;
    server_fits = h.b_room.digest;
    client_hears = digest_accepted version a b (client_told_by version a b h);
    client_says = ap (λ (hashed : Bool). cond hashed (behind_message version a (digest_of b.state) ∷ []) []) none;
    client_learns = refl;
    server_hears = digest_accepted version b a (server_told_by version a b h);
    server_says = refl;
    server_learns = refl;
  }

  -- where they have one digest, each says it by its hash
  hashes : says_hashes version ≡ true → bytes_eq (digest_hash (digest_of a.state)) (digest_hash (digest_of b.state)) ≡ true → bytes_eq (digest_hash (digest_of b.state)) (digest_hash (digest_of a.state)) ≡ true
      → digest_of a.state ≡ digest_of b.state → Once (hash_message a) (hash_message b) (Shares (speaker version a b) (digest_of a.state)) (Shares (speaker version b a) (digest_of b.state))
  hashes says same turned one = record {
    client_fits = hash_first version b a h.a_room says;
    server_fits = hash_first version a b h.b_room says;
    client_hears = hash_accepted version a b true says (hash_first version b a h.a_room says) (client_told_by version a b h) turned;
    client_says = refl;
    client_learns = ap (λ (g : DigestValue). record (greeted c0 version a b) { turn = ForDelta (speaker version a b) g }) one;
    server_hears = hash_accepted version b a true says (hash_first version a b h.b_room says) (server_told_by version a b h) same;
    server_says = ap (λ (g : DigestValue). hello_message b version ∷ hash_message b ∷ delta_message b (delta_format version) a.own g ∷ []) (sym one);
    server_learns = ap (λ (g : DigestValue). record (greeted s0 version b a) { turn = ForDelta (speaker version b a) g }) (sym one);
  }

-- the turns that two sessions take, of all that each says
record Played (version : Version) (a b : ReplicaValue) : Type 0 where
  turns : List Turn
  opening_is : List (List ℕ)
  opens : opening (Client version) a ≡ opening_is
  fit : AllByRecursion Fits opening_is
  play : IsPlay (client version a) (server b) opening_is turns
  client_ends : client_at (client version a) turns ≡ finished (client version a) version a b
  server_ends : server_at (server b) turns ≡ finished (server b) version b a
  client_said : words opening_is turns ≡ client_words version a b
  server_said : answers turns ≡ server_words version b a

module _ (version : Version) (a b : ReplicaValue) (h : CanMeet version a b) where
  by_wholes : says_hashes version ≡ false → Played version a b
  by_wholes none = record {
    turns = once version a b h (digest_message version b);
    opening_is = hello_message a version ∷ digest_message version a ∷ [];
    opens = ap (λ (hashed : Bool). hello_message a version ∷ digest_said hashed version a ∷ []) none;
    fit = (h.a_room.hello, (h.a_room.digest, tt));
    play = once_played version a b h (digest_message version a) (digest_message version b) (Learns (speaker version a b) (digest_of b.state)) (Learns (speaker version b a) (digest_of a.state)) (wholes version a b h none);
    client_ends = refl;
    server_ends = refl;
    client_said = rw none refl;
    server_said = rw none refl;
  }

  by_hashes : says_hashes version ≡ true → bytes_eq (digest_hash (digest_of a.state)) (digest_hash (digest_of b.state)) ≡ true → bytes_eq (digest_hash (digest_of b.state)) (digest_hash (digest_of a.state)) ≡ true
      → digest_of a.state ≡ digest_of b.state → Played version a b
  by_hashes says same turned one = record {
    turns = once version a b h (hash_message b);
    opening_is = hello_message a version ∷ hash_message a ∷ [];
    opens = ap (λ (hashed : Bool). hello_message a version ∷ digest_said hashed version a ∷ []) says;
    fit = (h.a_room.hello, (hash_first version b a h.a_room says, tt));
    play = once_played version a b h (hash_message a) (hash_message b) (Shares (speaker version a b) (digest_of a.state)) (Shares (speaker version b a) (digest_of b.state)) (hashes version a b h says same turned one);
    client_ends = refl;
    server_ends = refl;
    client_said = rw (says, same) refl;
    server_said = rw (says, turned) refl;
  }

  by_both : says_hashes version ≡ true → bytes_eq (digest_hash (digest_of a.state)) (digest_hash (digest_of b.state)) ≡ false → bytes_eq (digest_hash (digest_of b.state)) (digest_hash (digest_of a.state)) ≡ false
      → Played version a b
  by_both says other turned = record {
    turns = twice version a b h;
    opening_is = hello_message a version ∷ hash_message a ∷ [];
    opens = ap (λ (hashed : Bool). hello_message a version ∷ digest_said hashed version a ∷ []) says;
    fit = (h.a_room.hello, (hash_first version b a h.a_room says, tt));
    play = twice_played version a b h says other;
    client_ends = refl;
    server_ends = refl;
    client_said = rw (says, other) refl;
    server_said = rw (says, turned) refl;
  }

  hash_turned : bytes_eq (digest_hash (digest_of a.state)) (digest_hash (digest_of b.state)) ≡ true → bytes_eq (digest_hash (digest_of b.state)) (digest_hash (digest_of a.state)) ≡ true
  hash_turned same =
      bytes_eq_of (digest_hash (digest_of b.state)) (digest_hash (digest_of a.state)) (sym (eq_bytes (digest_hash (digest_of a.state)) (digest_hash (digest_of b.state)) same))

  -- equal hashes are those of one digest, or of two texts
  by_equal : says_hashes version ≡ true → bytes_eq (digest_hash (digest_of a.state)) (digest_hash (digest_of b.state)) ≡ true → (one : Bool)
      → bytes_eq (digest_text (digest_of a.state)) (digest_text (digest_of b.state)) ≡ one → Played version a b ⊎ CollideIn version a b
  by_equal says same true is =
      let room : length (digest_text (digest_of b.state)) ≤ LIMIT = hash_room b (hash_first version a b h.b_room says) in
      let one = same_digest version b a (server_told_by version a b h) room (eq_bytes (digest_text (digest_of a.state)) (digest_text (digest_of b.state)) is) in
      inl (by_hashes says same (hash_turned same) one)
  by_equal says same false is = inr (record {
    hashes = says;
    collide = record {
      differ = other_bytes (digest_text (digest_of a.state)) (digest_text (digest_of b.state)) is;
      same = eq_bytes (digest_hash (digest_of a.state)) (digest_hash (digest_of b.state)) same;
    };
  })

  by_version : (hashed : Bool) → says_hashes version ≡ hashed → (same : Bool) → bytes_eq (digest_hash (digest_of a.state)) (digest_hash (digest_of b.state)) ≡ same → Played version a b ⊎ CollideIn version a b
  by_version false none same is = inl (by_wholes none)
  by_version true says true is = by_equal says is (bytes_eq (digest_text (digest_of a.state)) (digest_text (digest_of b.state))) refl
  by_version true says false is = inl (by_both says is (other_turned (digest_hash (digest_of a.state)) (digest_hash (digest_of b.state)) is))

  played : Played version a b ⊎ CollideIn version a b
  played = by_version (says_hashes version) refl (bytes_eq (digest_hash (digest_of a.state)) (digest_hash (digest_of b.state))) refl

-- ---- what is received

server_opens : (b : ReplicaValue) → after_opening (fresh Server b) ≡ (server b, [])
server_opens b = opened_by (fresh Server b) [] refl refl tt

-- what is received of a prefix is nothing, or what is received of the whole
received_of : (s : Standing) (x w : List ℕ) (d : Delivery) → IsOrderly s → IsBeginningOf x w → (run_bytes w s).0.received ≡ Some d → ((run_bytes x s).0.received ≡ None) ⊎ ((run_bytes x s).0.received ≡ Some d)
received_of s x w d orderly p whole =
    let mid = (run_bytes x s).0 in
    let e : run_bytes w s ≡ then_more (run_bytes x s) (run_bytes p.0) = ap (λ (t : List ℕ). run_bytes t s) p.1 ∙ run-append x p.0 s in
    elim ((run_follows p.0 mid).received ((run_follows x s).orderly orderly)) [
      | inl none ↦ inl none
      | inr same ↦ inr (sym same ∙ ap (λ (q : Sent). q.0.received) (sym e) ∙ whole)
    ]

server_course : (b : ReplicaValue) (y : List ℕ) → course Server b (So_far y) ≡ then_more (server b, []) (run_bytes y)
unfolding course
server_course b y = ap (λ (p : Sent). then_more p (run_bytes y)) (server_opens b)

its_delta : (peer own : ReplicaValue) (received : Option Delivery) → (received ≡ None) ⊎ (received ≡ Some (least_state peer.state (digest_of own.state), longer_than own.roster peer.roster)) → IsItsDelta peer own received
its_delta peer own received h = elim h [ inl none ↦ inl none | inr is ↦ inr (its_least peer own received is) ]

-- at the end it is what the other has
received_done : (s : Standing) (version : Version) (own peer : ReplicaValue) → (finished s version own peer).received ≡ Some (least_state peer.state (digest_of own.state), longer_than own.roster peer.roster)
received_done s version own peer = received_last (last_mark version own peer) (last_mark version peer own) _

module _ (version : Version) (a b : ReplicaValue) (by : Played version a b) where
  client_course : (x : List ℕ) → course (Client version) a (So_far x) ≡ then_more (client version a, texts by.opening_is) (run_bytes x)
  unfolding course
  client_course x = ap (λ (p : Sent). then_more p (run_bytes x)) (opened_by (fresh (Client version) a) by.opening_is refl by.opens by.fit)

  client_whole : (run_bytes (texts (answers by.turns)) (client version a)).0 ≡ finished (client version a) version a b
  client_whole = client_comes by.turns (client version a) (server b) by.opening_is by.play ∙ by.client_ends

  server_whole : (run_bytes (texts (words by.opening_is by.turns)) (server b)).0 ≡ finished (server b) version b a
  server_whole = server_comes by.turns (client version a) (server b) by.opening_is by.play ∙ by.server_ends

  has_received : (x y : List ℕ) → Hear version a b x y → HaveReceived version a b x y
  unfolding says
  has_received x y hear =
      let heard = beginnings by.turns (client version a) (server b) by.opening_is x y by.play
      (subst (IsBeginningOf x) (ap (λ (p : Sent). p.1) (server_course b y)) hear.client)
      (subst (IsBeginningOf y) (ap (λ (p : Sent). p.1) (client_course x)) hear.server) in
      record {
        client = subst (IsItsDelta b a) (sym (ap (λ (p : Sent). p.0.received) (client_course x)))
            (its_delta b a _ (received_of (client version a) x (texts (answers by.turns)) (least_state b.state (digest_of a.state), longer_than a.roster b.roster) (inl refl) heard.0
            (ap (λ (s : Standing). s.received) client_whole ∙ received_done (client version a) version a b)));
        server = subst (IsItsDelta a b) (sym (ap (λ (p : Sent). p.0.received) (server_course b y)))
            (its_delta a b _ (received_of (server b) y (texts (words by.opening_is by.turns)) (least_state a.state (digest_of b.state), longer_than b.roster a.roster) (inl refl) heard.1
            (ap (λ (s : Standing). s.received) server_whole ∙ received_done (server b) version b a)));
      }

  -- both heard the whole talk, and end as the other's last word says
  both_done : (x y : List ℕ) (ended : Ended) → HearAll version a b x y
      → ended_after Going (ending (last_mark version a b) (last_mark version b a)) ≡ ended → ended_after Going (ending (last_mark version b a) (last_mark version a b)) ≡ ended
      → HaveEnded version a b x y ended
  unfolding says
  both_done x y ended all first second =
      let heard = whole by.turns (client version a) (server b) by.opening_is x y by.play
      (all.client ∙ ap (λ (p : Sent). p.1) (server_course b y))
      (all.server ∙ ap (λ (p : Sent). p.1) (client_course x)) in
      let client_end : (course (Client version) a (So_far x)).0 ≡ finished (client version a) version a b =
      ap (λ (p : Sent). p.0) (client_course x) ∙ ap (λ (t : List ℕ). (run_bytes t (client version a)).0) heard.0 ∙ client_whole in
      let server_end : (course Server b (So_far y)).0 ≡ finished (server b) version b a =
      ap (λ (p : Sent). p.0) (server_course b y) ∙ ap (λ (t : List ℕ). (run_bytes t (server b)).0) heard.1 ∙ server_whole in
      record {
        client = ap (λ (s : Standing). s.ended) client_end ∙ first;
        client_has = its_least b a _ (ap (λ (s : Standing). s.received) client_end ∙ received_done (client version a) version a b);
        server = ap (λ (s : Standing). s.ended) server_end ∙ second;
        server_has = its_least a b _ (ap (λ (s : Standing). s.received) server_end ∙ received_done (server b) version b a);
      }

  served : (x : List ℕ) → AgreeWhereTold version a b → Splits x (client_words version a b) [] → IsServed version a b x
  unfolding run_bytes
  served x agree splits =
      let talks = server_talks by.turns (client version a) (server b) by.opening_is by.play in
      let is : course Server b (So_far x) ≡ (finished (server b) version b a, texts (server_words version b a)) =
      by_messages Server b x (client_words version a b) [] splits
      ∙ ap (λ (o : Sent). then_more (then_more o (talk (client_words version a b))) (run_bytes [])) (server_opens b)
      ∙ ap (λ (ms : List (List ℕ)). then_more (talk ms (server b)) (run_bytes [])) (sym by.client_said)
      ∙ ap (λ (p : Sent). (p.0, p.1 ++ [])) talks
      ∙ ap (λ (s : Standing). (s, texts (answers by.turns) ++ [])) by.server_ends
      ∙ ap (λ (t : List ℕ). (finished (server b) version b a, t)) (append-nil (texts (answers by.turns)) ∙ ap texts by.server_said) in
      record {
        said = ap (λ (p : Sent). p.1) is ∙ texts_are (server_words version b a);
        server = ap (λ (p : Sent). p.0.ended) is ∙ ap (ended_after Going) (ending_agreed version b a (agree_turned version a b agree));
        server_has = its_least a b _ (ap (λ (p : Sent). p.0.received) is ∙ received_done (server b) version b a);
      }

-- ---- the laws

or_collide : {A B C : Type 0} → A ⊎ C → (A → B) → B ⊎ C
or_collide h f = elim h [ inl is ↦ inl (f is) | inr collide ↦ inr collide ]

pub receive_deltas : ReceiveDeltas
receive_deltas version a b x y h hear = or_collide (played version a b h) (λ by. has_received version a b by x y hear)

pub both_end : BothEnd
both_end version a b x y h agree all = or_collide (played version a b h) (λ by. both_done version a b by x y Done all
    (ap (ended_after Going) (ending_agreed version a b agree))
    (ap (ended_after Going) (ending_agreed version b a (agree_turned version a b agree))))

pub both_tell : BothTellForks
both_tell version a b x y h tells other all = or_collide (played version a b h) (λ by. both_done version a b by x y (Failed Forked) all
    (ap (ended_after Going) (ending_forked version a b tells other))
    (ap (ended_after Going) (ending_forked version b a tells (λ e. other (sym e)))))

pub serves_each : ServesEach
serves_each version a b x h agree splits = or_collide (played version a b h) (λ by. served version a b by x agree splits)

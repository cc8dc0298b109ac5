-- What is typed behind `run`, among which there are peers.
use Rattle.std.proofs.Common.{◌≡◌, Bool, true, false, List, [], ◌∷◌, ◌++◌, codes, map, Option, Some, None, refl, sym, ap, subst, inl, inr, ◌∙◌}
use Rattle.std.specs.Prelude.{if◌then◌else◌, option_map, slice_get}
use Rattle.std.specs.Str.{bytes_eq}
use Rattle.std.proofs.lemmas.List.{append-nil}
use Rattle.clap.specs.Words.{Text}
use Rattle.rds_names.specs.Conditions.{and_left, and_right}
use Rattle.rds_words.specs.Entered.{Names}
use Rattle.rds_words.specs.Raw.{access_words, log_words, peer_words}
use Rattle.rds_words.specs.Typed.{AreAllowed, AreTyped, AtMostOne, HaveOptionsOf, IsRest, Options, Part, typed_flag, typed_option, typed_word, values_among, words_among}
use Rattle.rds_words.specs.WithOptions.{is_there}
use Rattle.rds_words.specs.Written.{AreData, is_data}
use Rattle.rds_words.proofs.OptionPlans.{run_plan, run_takes}
use Rattle.rds_words.proofs.PlanMeant.{means}

abbrev peer_parts : List Text → List Part
peer_parts peers = map (λ peer. typed_option (codes "--peer") peer) peers

abbrev access_parts : Option Text → Bool → List Part
access_parts None false = []
access_parts None true = typed_flag (codes "--open") ∷ []
access_parts (Some token) false = typed_option (codes "--token-file") token ∷ []
access_parts (Some token) true = typed_option (codes "--token-file") token ∷ typed_flag (codes "--open") ∷ []

abbrev run_options : Options
run_options = run_plan.with_options.options

abbrev log_parts : Bool → List Part
log_parts true = typed_flag (codes "--log") ∷ []
log_parts false = []

-- the parts behind the peers, which say who may come, and whether requests are told
abbrev last_parts : Option Text → Bool → Bool → List Part
last_parts token open_to_all log = access_parts token open_to_all ++ log_parts log

-- the words of the task that they name
abbrev last_words : Option Text → Bool → Bool → List Text
last_words token open_to_all log = access_words token open_to_all ++ log_words log

-- what these parts have
record AreLast (token : Option Text) (open_to_all log : Bool) : Type 0 where
  typed : (rest : List Text) → AreTyped (last_parts token open_to_all log) rest (access_words token open_to_all ++ (log_words log ++ rest))
  have : HaveOptionsOf run_options (last_parts token open_to_all log)
  no_words : words_among (last_parts token open_to_all log) ≡ []
  no_http : values_among (codes "--http") (last_parts token open_to_all log) ≡ []
  no_peer : values_among (codes "--peer") (last_parts token open_to_all log) ≡ []
  no_every : values_among (codes "--every") (last_parts token open_to_all log) ≡ []
  token_once : AtMostOne (values_among (codes "--token-file") (last_parts token open_to_all log))
  open_once : AtMostOne (values_among (codes "--open") (last_parts token open_to_all log))
  log_once : AtMostOne (values_among (codes "--log") (last_parts token open_to_all log))
  token_is : slice_get (values_among (codes "--token-file") (last_parts token open_to_all log)) 0 ≡ token
  open_is : is_there (values_among (codes "--open") (last_parts token open_to_all log)) ≡ open_to_all
  log_is : is_there (values_among (codes "--log") (last_parts token open_to_all log)) ≡ log

are_last : (token : Option Text) (open_to_all log : Bool) → AreLast token open_to_all log
are_last None false false = record { typed = λ rest. refl; have = tt; no_words = refl; no_http = refl; no_peer = refl; no_every = refl; token_once = tt; open_once = tt; log_once = tt; token_is = refl; open_is = refl; log_is = refl }
are_last None false true = record { typed = λ rest. (rest, refl, refl); have = (refl, tt); no_words = refl; no_http = refl; no_peer = refl; no_every = refl; token_once = tt; open_once = tt; log_once = tt; token_is = refl; open_is = refl; log_is = refl }
are_last None true false = record { typed = λ rest. (rest, refl, refl); have = (refl, tt); no_words = refl; no_http = refl; no_peer = refl; no_every = refl; token_once = tt; open_once = tt; log_once = tt; token_is = refl; open_is = refl; log_is = refl }
are_last None true true = record { typed = λ rest. (codes "--log" ∷ rest, refl, (rest, refl, refl)); have = (refl, (refl, tt)); no_words = refl; no_http = refl; no_peer = refl; no_every = refl; token_once = tt; open_once = tt; log_once = tt; token_is = refl; open_is = refl; log_is = refl }
are_last (Some token) false false = record { typed = λ rest. (rest, inr refl, refl); have = (refl, tt); no_words = refl; no_http = refl; no_peer = refl; no_every = refl; token_once = tt; open_once = tt; log_once = tt; token_is = refl; open_is = refl; log_is = refl }
are_last (Some token) false true = record { typed = λ rest. (codes "--log" ∷ rest, inr refl, (rest, refl, refl)); have = (refl, (refl, tt)); no_words = refl; no_http = refl; no_peer = refl; no_every = refl; token_once = tt; open_once = tt; log_once = tt; token_is = refl; open_is = refl; log_is = refl }
are_last (Some token) true false = record { typed = λ rest. (codes "--open" ∷ rest, inr refl, (rest, refl, refl)); have = (refl, (refl, tt)); no_words = refl; no_http = refl; no_peer = refl; no_every = refl; token_once = tt; open_once = tt; log_once = tt; token_is = refl; open_is = refl; log_is = refl }
are_last (Some token) true true = record { typed = λ rest. (codes "--open" ∷ codes "--log" ∷ rest, inr refl, (codes "--log" ∷ rest, refl, (rest, refl, refl))); have = (refl, (refl, (refl, tt))); no_words = refl; no_http = refl; no_peer = refl; no_every = refl; token_once = tt; open_once = tt; log_once = tt; token_is = refl; open_is = refl; log_is = refl }

-- peers before other parts
module _ (others : List Part) where
  peers_typed : (peers rest words : List Text) → AreTyped others rest words → AreTyped (peer_parts peers ++ others) rest (peer_words peers ++ words)
  peers_typed [] rest words typed = typed
  peers_typed (peer ∷ peers) rest words typed = (peer_words peers ++ words, inr refl, peers_typed peers rest words typed)

  peers_have : (peers : List Text) → HaveOptionsOf run_options others → HaveOptionsOf run_options (peer_parts peers ++ others)
  peers_have [] have = have
  peers_have (peer ∷ peers) have = (refl, peers_have peers have)

  peers_no_words : (peers : List Text) → words_among (peer_parts peers ++ others) ≡ words_among others
  peers_no_words [] = refl
  peers_no_words (peer ∷ peers) = peers_no_words peers

  peers_past : (name : Text) → bytes_eq (codes "--peer") name ≡ false → (peers : List Text) → values_among name (peer_parts peers ++ others) ≡ values_among name others
  peers_past name differs [] = refl
  peers_past name differs (peer ∷ peers) =
      ap (λ (b : Bool). (if b then peer ∷ [] else []) ++ values_among name (peer_parts peers ++ others)) differs ∙ peers_past name differs peers

  peers_are : (peers : List Text) → values_among (codes "--peer") others ≡ [] → values_among (codes "--peer") (peer_parts peers ++ others) ≡ peers
  peers_are [] none = none
  peers_are (peer ∷ peers) none = ap (λ (ps : List Text). peer ∷ ps) (peers_are peers none)

module _ (http every : Text) (peers : List Text) (token : Option Text) (open_to_all log : Bool) where
  abbrev last : AreLast token open_to_all log
  last = are_last token open_to_all log

  abbrev behind_every : List Part
  behind_every = peer_parts peers ++ last_parts token open_to_all log

  abbrev options : List Part
  options = typed_option (codes "--http") http ∷ typed_option (codes "--every") every ∷ behind_every

  none_past : (name : Text) → bytes_eq (codes "--peer") name ≡ false → values_among name (last_parts token open_to_all log) ≡ [] → values_among name behind_every ≡ []
  none_past name differs none = peers_past (last_parts token open_to_all log) name differs peers ∙ none

  options_allowed : AreAllowed run_options (λ name. values_among name options)
  options_allowed = (
    subst (λ (vs : List Text). AtMostOne (http ∷ vs)) (sym (none_past (codes "--http") refl last.no_http)) tt,
    (
      tt,
      (
        subst (λ (vs : List Text). AtMostOne (every ∷ vs)) (sym (none_past (codes "--every") refl last.no_every)) tt,
        (
          subst AtMostOne (sym (peers_past (last_parts token open_to_all log) (codes "--token-file") refl peers)) last.token_once,
          (
            subst AtMostOne (sym (peers_past (last_parts token open_to_all log) (codes "--open") refl peers)) last.open_once,
            (subst AtMostOne (sym (peers_past (last_parts token open_to_all log) (codes "--log") refl peers)) last.log_once, tt),
          ),
        ),
      ),
    ),
  )

  options_have : HaveOptionsOf run_options options
  options_have = (refl, (refl, peers_have (last_parts token open_to_all log) peers last.have))

  no_words_among : words_among options ≡ []
  no_words_among = peers_no_words (last_parts token open_to_all log) peers ∙ last.no_words

  says : (file : Text) (given : List Text) → given ≡ file ∷ []
      → run_plan.with_options.words_for given (λ name. values_among name options) ≡ Some (file ∷ http ∷ every ∷ (peer_words peers ++ last_words token open_to_all log))
  says file given is =
      let peers_found = peers_are (last_parts token open_to_all log) peers last.no_peer in
      let token_found = ap (λ (vs : List Text). slice_get vs 0) (peers_past (last_parts token open_to_all log) (codes "--token-file") refl peers) ∙ last.token_is in
      let open_found = ap is_there (peers_past (last_parts token open_to_all log) (codes "--open") refl peers) ∙ last.open_is in
      let log_found = ap is_there (peers_past (last_parts token open_to_all log) (codes "--log") refl peers) ∙ last.log_is in
      λ i. Some (is i ++ http ∷ every ∷ (peer_words (peers_found i) ++ last_words (token_found i) (open_found i) (log_found i)))

  run_names : (called : Text) (behind after rest : List Text) (file : Text) (front : List Part) → AreTyped (front ++ options) rest behind → IsRest after rest
      → ((name : Text) → values_among name (front ++ options) ≡ values_among name options) → HaveOptionsOf run_options (front ++ options)
      → words_among (front ++ options) ++ after ≡ file ∷ []
      → Names (called ∷ codes "run" ∷ behind) (codes "run" ∷ file ∷ http ∷ every ∷ (peer_words peers ++ last_words token open_to_all log))
  run_names called behind after rest file front typed is same have words =
      let meant = (means run_plan run_takes called behind).1 (file ∷ []) (λ name. values_among name options) (
        record {
          parts = front ++ options;
          after = after;
          rest = rest;
          are_typed = typed;
          is_rest = is;
          have_options = have;
          allowed = subst (λ (vs : Text → List Text). AreAllowed run_options vs) (λ i name. sym (same name) i) options_allowed;
          given_are = sym words;
          values_are = λ name. sym (same name);
        },
        refl,
      ) in
      (meant.0, meant.1 ∙ ap (option_map (λ words. codes "run" ∷ words)) (says file (file ∷ []) refl))

  pub run_named : (name file : Text) → AreData (file ∷ http ∷ every ∷ [])
      → Names (name ∷ codes "run" ∷ file ∷ codes "--http" ∷ http ∷ codes "--every" ∷ every ∷ (peer_words peers ++ last_words token open_to_all log))
      (codes "run" ∷ file ∷ http ∷ every ∷ (peer_words peers ++ last_words token open_to_all log))
  run_named name file are =
      run_names name _ [] [] file (typed_word file ∷ []) (
        _,
        refl,
        and_left (is_data file) _ are,
        (
          _,
          inl (refl, and_left (is_data http) _ (and_right (is_data file) _ are)),
          (
            _,
            inl (refl, and_left (is_data every) _ (and_right (is_data http) _ (and_right (is_data file) _ are))),
            peers_typed (last_parts token open_to_all log) peers [] (last_words token open_to_all log)
                (subst (AreTyped (last_parts token open_to_all log) []) (ap (λ (ws : List Text). access_words token open_to_all ++ ws) (append-nil (log_words log))) (last.typed [])),
          ),
        ),
      )
      (inl (refl, refl)) (λ n. refl) options_have (ap (λ (ws : List Text). file ∷ (ws ++ [])) no_words_among)

  pub run_dashed : (name file : Text)
      → Names (name ∷ codes "run" ∷ (codes "--http=" ++ http) ∷ (codes "--every=" ++ every) ∷ (peer_words peers ++ (access_words token open_to_all ++ (log_words log ++ codes "--" ∷ file ∷ []))))
      (codes "run" ∷ file ∷ http ∷ every ∷ (peer_words peers ++ last_words token open_to_all log))
  run_dashed name file =
      run_names name _ (file ∷ []) (codes "--" ∷ file ∷ []) file [] (
        _,
        inr refl,
        (
          _,
          inr refl,
          peers_typed (last_parts token open_to_all log) peers (codes "--" ∷ file ∷ []) (access_words token open_to_all ++ (log_words log ++ codes "--" ∷ file ∷ [])) (last.typed (codes "--" ∷ file ∷ [])),
        ),
      )
      (inr refl) (λ n. refl) options_have (ap (λ (ws : List Text). ws ++ file ∷ []) no_words_among)

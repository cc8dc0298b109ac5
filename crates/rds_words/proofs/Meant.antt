-- Words mean what is spelled, and other words are refused.
use Rattle.std.proofs.Common.{◌≡◌, ◌⊎◌, ◌∙◌, Bool, List, [], ◌∷◌, true, false, Option, Some, option_map, refl, sym, subst, inl, inr}
use Rattle.std.specs.Prelude.{⊤, find, if◌then◌else◌}
use Rattle.std.specs.Str.{bytes_eq}
use Rattle.std.proofs.lemmas.Slice.Eq.{bytes_eq-Decides}
use Rattle.clap.specs.Words.{Text}
use Rattle.rds_words.specs.Entered.{Names, mistakes_in}
use Rattle.rds_words.specs.Spelling.{AreSpelled, AreWordsOf, Count, IsGivenWords, OtherCommandsAreRefused, OtherWordsAreRefused, OtherWordsWithoutOptions, WordsMeanTheirSpelling, WordsWithoutOptions, counts, option_counts}
use Rattle.rds_words.specs.WithOptions.{MeansWithOptions, OptionsMeanTheirSpelling, with_options}
use Rattle.rds_words.proofs.ClearPlan.{clear_plan, clear_takes}
use Rattle.rds_words.proofs.Counting.{refused_isnt}
use Rattle.rds_words.proofs.OptionCommands as options
use Rattle.rds_words.proofs.OtherCommands.{command_or_not}
use Rattle.rds_words.proofs.OptionPlans as plans
use Rattle.rds_words.proofs.PlainCommands as plain
use Rattle.rds_words.proofs.PlainForms.{IsKnown, IsPlain, known}
use Rattle.rds_words.proofs.PlanMeant.{means}
use Rattle.rds_words.proofs.Splitting.{HasOption, mistaken_alike, named_alike, option_mistaken, split}
use Rattle.rds_words.proofs.WatchPlan.{watch_is, watch_plan, watch_takes}

same_words : {command : Text} {a b : List Text} → ◌≡◌ {A = Option (List Text)} (Some (command ∷ a)) (Some (command ∷ b)) → a ≡ b
same_words e = cc

module _ (command : Text) (count : Count) (is : IsKnown command count) where
  given_names : (called : Text) (given behind words : List Text) → AreSpelled given behind → IsGivenWords count given words → Names (called ∷ command ∷ behind) (command ∷ words)
  given_names called given behind words spelled counted =
      let named = is.counted.named called given words counted in (
        mistaken_alike called command is.shape given behind is.is spelled ∙ named.0,
        named_alike called command is.shape given behind is.is spelled ∙ named.1,
      )

  given_counted : (called : Text) (given behind : List Text) → AreSpelled given behind → mistakes_in (called ∷ command ∷ behind) ≡ [] → (words : List Text) × IsGivenWords count given words
  given_counted called given behind spelled none =
      is.counted.counted called given (sym (mistaken_alike called command is.shape given behind is.is spelled) ∙ none)

  named_counted : (called : Text) (given behind words : List Text) → AreSpelled given behind → Names (called ∷ command ∷ behind) (command ∷ words) → IsGivenWords count given words
  named_counted called given behind words spelled names =
      let found = given_counted called given behind spelled names.0 in
      subst (IsGivenWords count given) (same_words (sym (given_names called given behind found.0 spelled found.1).1 ∙ names.1)) found.1

module _ (command : Text) (count : Count) (is : IsPlain command count) where
  unmistaken_by : (called : Text) (behind : List Text) → mistakes_in (called ∷ command ∷ behind) ≡ [] → ((given : List Text) × AreSpelled given behind) ⊎ HasOption behind
      → (words : List Text) × AreWordsOf count behind words
  unmistaken_by called behind none (inl spelled) =
      let counted = given_counted command count is.known called spelled.0 behind spelled.1 none in
      (counted.0, (spelled.0, spelled.1, counted.1))
  unmistaken_by called behind none (inr option) =
      refused_isnt _ (option_mistaken called command is.known.shape behind is.known.is is.requests option) none

  unmistaken : (called : Text) (behind : List Text) → mistakes_in (called ∷ command ∷ behind) ≡ [] → (words : List Text) × AreWordsOf count behind words
  unmistaken called behind none = unmistaken_by called behind none (split behind)

  spelled_names : (called : Text) (behind words : List Text) → AreWordsOf count behind words → Names (called ∷ command ∷ behind) (command ∷ words)
  spelled_names called behind words of = given_names command count is.known called of.0 behind words of.1 of.2

  named_spelled : (called : Text) (behind words : List Text) → Names (called ∷ command ∷ behind) (command ∷ words) → AreWordsOf count behind words
  named_spelled called behind words names =
      let found = unmistaken called behind names.0 in
      subst (AreWordsOf count behind) (same_words (sym (spelled_names called behind found.0 found.1).1 ∙ names.1)) found.1

-- ---- all commands

module _ {X : Type 0} (P : Text → X → Type 0) where
  abbrev Each : List (Text × X) → Type 0
  Each [] = ⊤
  Each (c ∷ cs) = P c.0 c.1 × Each cs

  abbrev under : List (Text × X) → Text → Option X
  under cs command = option_map (λ c. c.1) (find (λ c. bytes_eq c.0 command) cs)

  found_here : (command name : Text) (x here : X) (rest : Option X) → P name here → (rest ≡ Some x → P command x) → (b : Bool)
      → bytes_eq name command ≡ b → (if b then Some here else rest) ≡ Some x → P command x
  found_here command name x here rest is on true e found =
      subst (λ (n : Text). P n x) ((bytes_eq-Decides name command).0 e) (subst (λ (k : X). P name k) (same found) is)
    where
      same : {a b : X} → ◌≡◌ {A = Option X} (Some a) (Some b) → a ≡ b
      same e = cc
  found_here command name x here rest is on false e found = on found

  found_in : (cs : List (Text × X)) → Each cs → (command : Text) (x : X) → under cs command ≡ Some x → P command x
  found_in [] each command x found = absurd cc
  found_in (c ∷ cs) each command x found =
      found_here command c.0 x c.1 (under cs command) each.0 (found_in cs each.1 command x) (bytes_eq c.0 command) refl (head (bytes_eq c.0 command) found)
    where
      head : (b : Bool) → option_map (λ (d : Text × X). d.1) (if b then Some c else find (λ d. bytes_eq d.0 command) cs) ≡ Some x
          → (if b then Some c.1 else under cs command) ≡ Some x
      head true e = e
      head false e = e

each_plain : Each IsPlain counts
each_plain = (
  plain.grow_plain,
  (
    plain.inc_plain,
    (
      plain.dec_plain,
      (
        plain.edit_lines_plain,
        (
          plain.dump_plain,
          (
            plain.compact_plain,
            (
              plain.pair_plain,
              (
                plain.ask_plain,
                (
                  plain.answer_plain,
                  (
                    plain.take_plain,
                    (
                      plain.merge_plain,
                      (
                        plain.status_plain,
                        (
                          plain.check_plain,
                          (
                            plain.conflicts_plain,
                            (
                              plain.diff_plain,
                              (plain.join_plain, (plain.sim_plain, (plain.files_plain, (plain.faults_plain, tt)))),
                            ),
                          ),
                        ),
                      ),
                    ),
                  ),
                ),
              ),
            ),
          ),
        ),
      ),
    ),
  ),
)

each_known : Each IsKnown option_counts
each_known = (known _ _ _ plans.set_is options.set_counted, (known _ _ _ plans.add_is options.add_counted, (known _ _ _ plans.del_is options.del_counted, (known _ _ _ plans.get_is options.get_counted, (known _ _ _ plans.show_is options.show_counted, (known _ _ _ plans.sync_is options.sync_counted, (known _ _ _ plans.serve_is options.serve_counted, (known _ _ _ plans.run_is options.run_counted, (known _ _ _ watch_is options.watch_counted, tt)))))))))

each_with_options : Each MeansWithOptions with_options
each_with_options = (means plans.init_plan plans.init_takes, (means plans.set_plan plans.set_takes, (means plans.add_plan plans.add_takes, (means plans.del_plan plans.del_takes, (means clear_plan clear_takes, (means plans.get_plan plans.get_takes, (means plans.show_plan plans.show_takes, (means plans.sync_plan plans.sync_takes, (means plans.serve_plan plans.serve_takes, (means plans.run_plan plans.run_takes, (means watch_plan watch_takes, tt)))))))))))

-- ---- the laws

pub words_spelled : WordsMeanTheirSpelling
words_spelled called command count is behind words =
    let command_is = found_in IsPlain counts each_plain command count is in
    (named_spelled command count command_is called behind words, spelled_names command count command_is called behind words)

pub others_refused : OtherWordsAreRefused
others_refused called command count is behind other none =
    let found = unmistaken command count (found_in IsPlain counts each_plain command count is) called behind none in
    other found.0 found.1

pub words_without_options : WordsWithoutOptions
words_without_options called command count is given behind spelled words =
    let command_is = found_in IsKnown option_counts each_known command count is in
    (named_counted command count command_is called given behind words spelled, given_names command count command_is called given behind words spelled)

pub others_without_options : OtherWordsWithoutOptions
others_without_options called command count is given behind spelled other none =
    let found = given_counted command count (found_in IsKnown option_counts each_known command count is) called given behind spelled none in
    other found.0 found.1

pub options_spelled : OptionsMeanTheirSpelling
options_spelled command c is = found_in MeansWithOptions with_options each_with_options command c is

pub no_command_refused : OtherCommandsAreRefused
no_command_refused entered other none = elim (command_or_not entered) [ inl has ↦ other has | inr is ↦ refused_isnt _ is none ]

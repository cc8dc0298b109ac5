-- How many words commands take.
use Rattle.std.proofs.Common.{◌≡◌, List, [], ◌∷◌, codes, refl, inl, inr, arith}
use Rattle.clap.specs.Words.{Kinds, Text}
use Rattle.rds_words.specs.Entered.{Names, mistakes_in}
use Rattle.rds_words.specs.Spelling.{Count, IsGivenWords, at_least, before, exactly, or_root}
use Rattle.rds_words.proofs.Refusing.{IsRefused}

-- behind two dashes a command takes so many words, and no others
pub record IsCountedCommand (command : Text) (count : Count) : Type 0 where
  pub named : (called : Text) (given words : List Text) → IsGivenWords count given words → Names (called ∷ command ∷ codes "--" ∷ given) (command ∷ words)
  pub counted : (called : Text) (given : List Text) → mistakes_in (called ∷ command ∷ codes "--" ∷ given) ≡ [] → (words : List Text) × IsGivenWords count given words

pub refused_isnt : {P : Type 0} (k : Kinds) → IsRefused k → k ≡ [] → P
unfolding IsRefused
refused_isnt [] is none = absurd is
refused_isnt (k ∷ ks) is none = absurd cc

abbrev pub dashed : Text → Text → List Text → List Text
dashed called command given = called ∷ command ∷ codes "--" ∷ given

abbrev pub IsNamed : Text → List Text → Type 0
IsNamed command given = (called : Text) → Names (dashed called command given) (command ∷ given)

-- a path that is left out is the root
abbrev pub IsNamedRoot : Text → Text → Type 0
IsNamedRoot command a = (called : Text) → Names (dashed called command (a ∷ [])) (command ∷ a ∷ [] ∷ [])

abbrev pub IsMistaken : Text → List Text → Type 0
IsMistaken command given = (called : Text) → IsRefused (mistakes_in (dashed called command given))

-- exactly 0

pub takes_none : (command : Text) → (IsNamed command [])
    → ((a : Text) (more : List Text) → IsMistaken command (a ∷ more)) → IsCountedCommand command (exactly 0)
takes_none command name over = record { named = named; counted = counted }
  where
    named : (called : Text) (given words : List Text) → IsGivenWords (exactly 0) given words → Names (dashed called command given) (command ∷ words)
    named called [] words is = rw is.1 (name called)
    named called (a ∷ more) words is = absurd (omega (arith, is.0))

    counted : (called : Text) (given : List Text) → mistakes_in (dashed called command given) ≡ [] → (words : List Text) × IsGivenWords (exactly 0) given words
    counted called [] none = ([], (refl, refl))
    counted called (a ∷ more) none = refused_isnt _ (over a more called) none

-- exactly 1

pub takes_one : (command : Text) → ((a : Text) → IsNamed command (a ∷ []))
    → (IsMistaken command [])
    → ((a b : Text) (more : List Text) → IsMistaken command (a ∷ b ∷ more)) → IsCountedCommand command (exactly 1)
takes_one command name f0 over = record { named = named; counted = counted }
  where
    named : (called : Text) (given words : List Text) → IsGivenWords (exactly 1) given words → Names (dashed called command given) (command ∷ words)
    named called [] words is = absurd (omega (arith, is.0))
    named called (a ∷ []) words is = rw is.1 (name a called)
    named called (a ∷ b ∷ more) words is = absurd (omega (arith, is.0))

    counted : (called : Text) (given : List Text) → mistakes_in (dashed called command given) ≡ [] → (words : List Text) × IsGivenWords (exactly 1) given words
    counted called [] none = refused_isnt _ (f0 called) none
    counted called (a ∷ []) none = ((a ∷ []), (refl, refl))
    counted called (a ∷ b ∷ more) none = refused_isnt _ (over a b more called) none

-- exactly 2

pub takes_two : (command : Text) → ((a b : Text) → IsNamed command (a ∷ b ∷ []))
    → (IsMistaken command [])
    → ((a : Text) → IsMistaken command (a ∷ []))
    → ((a b c : Text) (more : List Text) → IsMistaken command (a ∷ b ∷ c ∷ more)) → IsCountedCommand command (exactly 2)
takes_two command name f0 f1 over = record { named = named; counted = counted }
  where
    named : (called : Text) (given words : List Text) → IsGivenWords (exactly 2) given words → Names (dashed called command given) (command ∷ words)
    named called [] words is = absurd (omega (arith, is.0))
    named called (a ∷ []) words is = absurd (omega (arith, is.0))
    named called (a ∷ b ∷ []) words is = rw is.1 (name a b called)
    named called (a ∷ b ∷ c ∷ more) words is = absurd (omega (arith, is.0))

    counted : (called : Text) (given : List Text) → mistakes_in (dashed called command given) ≡ [] → (words : List Text) × IsGivenWords (exactly 2) given words
    counted called [] none = refused_isnt _ (f0 called) none
    counted called (a ∷ []) none = refused_isnt _ (f1 a called) none
    counted called (a ∷ b ∷ []) none = ((a ∷ b ∷ []), (refl, refl))
    counted called (a ∷ b ∷ c ∷ more) none = refused_isnt _ (over a b c more called) none

-- exactly 3

pub takes_three : (command : Text) → ((a b c : Text) → IsNamed command (a ∷ b ∷ c ∷ []))
    → (IsMistaken command [])
    → ((a : Text) → IsMistaken command (a ∷ []))
    → ((a b : Text) → IsMistaken command (a ∷ b ∷ []))
    → ((a b c d : Text) (more : List Text) → IsMistaken command (a ∷ b ∷ c ∷ d ∷ more)) → IsCountedCommand command (exactly 3)
takes_three command name f0 f1 f2 over = record { named = named; counted = counted }
  where
    named : (called : Text) (given words : List Text) → IsGivenWords (exactly 3) given words → Names (dashed called command given) (command ∷ words)
    named called [] words is = absurd (omega (arith, is.0))
    named called (a ∷ []) words is = absurd (omega (arith, is.0))
    named called (a ∷ b ∷ []) words is = absurd (omega (arith, is.0))
    named called (a ∷ b ∷ c ∷ []) words is = rw is.1 (name a b c called)
    named called (a ∷ b ∷ c ∷ d ∷ more) words is = absurd (omega (arith, is.0))

    counted : (called : Text) (given : List Text) → mistakes_in (dashed called command given) ≡ [] → (words : List Text) × IsGivenWords (exactly 3) given words
    counted called [] none = refused_isnt _ (f0 called) none
    counted called (a ∷ []) none = refused_isnt _ (f1 a called) none
    counted called (a ∷ b ∷ []) none = refused_isnt _ (f2 a b called) none
    counted called (a ∷ b ∷ c ∷ []) none = ((a ∷ b ∷ c ∷ []), (refl, refl))
    counted called (a ∷ b ∷ c ∷ d ∷ more) none = refused_isnt _ (over a b c d more called) none

-- at least 2

pub takes_names : (command : Text) → ((a b : Text) (more : List Text) → IsNamed command (a ∷ b ∷ more))
    → (IsMistaken command [])
    → ((a : Text) → IsMistaken command (a ∷ [])) → IsCountedCommand command (at_least 2)
takes_names command name f0 f1 = record { named = named; counted = counted }
  where
    named : (called : Text) (given words : List Text) → IsGivenWords (at_least 2) given words → Names (dashed called command given) (command ∷ words)
    named called [] words is = absurd (omega (arith, is.0))
    named called (a ∷ []) words is = absurd (omega (arith, is.0))
    named called (a ∷ b ∷ more) words is = rw is.1 (name a b more called)

    counted : (called : Text) (given : List Text) → mistakes_in (dashed called command given) ≡ [] → (words : List Text) × IsGivenWords (at_least 2) given words
    counted called [] none = refused_isnt _ (f0 called) none
    counted called (a ∷ []) none = refused_isnt _ (f1 a called) none
    counted called (a ∷ b ∷ more) none = (a ∷ b ∷ more, (omega arith, refl))

-- a file, and a path, which may be left out

pub takes_part : (command : Text) → ((a b : Text) → IsNamed command (a ∷ b ∷ [])) → ((a : Text) → IsNamedRoot command a)
    → (IsMistaken command [])
    → ((a b c : Text) (more : List Text) → IsMistaken command (a ∷ b ∷ c ∷ more)) → IsCountedCommand command (or_root 2)
takes_part command name root f0 over = record { named = named; counted = counted }
  where
    named : (called : Text) (given words : List Text) → IsGivenWords (or_root 2) given words → Names (dashed called command given) (command ∷ words)
    named called [] words (inl is) = absurd (omega (arith, is.0))
    named called [] words (inr is) = absurd (omega (arith, is.0))
    named called (a ∷ []) words (inl is) = absurd (omega (arith, is.0))
    named called (a ∷ []) words (inr is) = rw is.1 (root a called)
    named called (a ∷ b ∷ []) words (inl is) = rw is.1 (name a b called)
    named called (a ∷ b ∷ []) words (inr is) = absurd (omega (arith, is.0))
    named called (a ∷ b ∷ c ∷ more) words (inl is) = absurd (omega (arith, is.0))
    named called (a ∷ b ∷ c ∷ more) words (inr is) = absurd (omega (arith, is.0))

    counted : (called : Text) (given : List Text) → mistakes_in (dashed called command given) ≡ [] → (words : List Text) × IsGivenWords (or_root 2) given words
    counted called [] none = refused_isnt _ (f0 called) none
    counted called (a ∷ []) none = (a ∷ [] ∷ [], inr (refl, refl))
    counted called (a ∷ b ∷ []) none = (a ∷ b ∷ [], inl (refl, refl))
    counted called (a ∷ b ∷ c ∷ more) none = refused_isnt _ (over a b c more called) none

-- two, behind which options are left out

pub takes_two_before : (command : Text) (left_out : List Text) → ((a b : Text) (called : Text) → Names (dashed called command (a ∷ b ∷ [])) (command ∷ a ∷ b ∷ left_out))
    → (IsMistaken command [])
    → ((a : Text) → IsMistaken command (a ∷ []))
    → ((a b c : Text) (more : List Text) → IsMistaken command (a ∷ b ∷ c ∷ more)) → IsCountedCommand command (before 2 left_out)
takes_two_before command left_out name f0 f1 over = record { named = named; counted = counted }
  where
    named : (called : Text) (given words : List Text) → IsGivenWords (before 2 left_out) given words → Names (dashed called command given) (command ∷ words)
    named called [] words is = absurd (omega (arith, is.0))
    named called (a ∷ []) words is = absurd (omega (arith, is.0))
    named called (a ∷ b ∷ []) words is = rw is.1 (name a b called)
    named called (a ∷ b ∷ c ∷ more) words is = absurd (omega (arith, is.0))

    counted : (called : Text) (given : List Text) → mistakes_in (dashed called command given) ≡ [] → (words : List Text) × IsGivenWords (before 2 left_out) given words
    counted called [] none = refused_isnt _ (f0 called) none
    counted called (a ∷ []) none = refused_isnt _ (f1 a called) none
    counted called (a ∷ b ∷ []) none = (a ∷ b ∷ left_out, (refl, refl))
    counted called (a ∷ b ∷ c ∷ more) none = refused_isnt _ (over a b c more called) none

-- one, behind which options are left out

pub takes_one_before : (command : Text) (left_out : List Text) → ((a called : Text) → Names (dashed called command (a ∷ [])) (command ∷ a ∷ left_out))
    → (IsMistaken command [])
    → ((a b : Text) (more : List Text) → IsMistaken command (a ∷ b ∷ more)) → IsCountedCommand command (before 1 left_out)
takes_one_before command left_out name f0 over = record { named = named; counted = counted }
  where
    named : (called : Text) (given words : List Text) → IsGivenWords (before 1 left_out) given words → Names (dashed called command given) (command ∷ words)
    named called [] words is = absurd (omega (arith, is.0))
    named called (a ∷ []) words is = rw is.1 (name a called)
    named called (a ∷ b ∷ more) words is = absurd (omega (arith, is.0))

    counted : (called : Text) (given : List Text) → mistakes_in (dashed called command given) ≡ [] → (words : List Text) × IsGivenWords (before 1 left_out) given words
    counted called [] none = refused_isnt _ (f0 called) none
    counted called (a ∷ []) none = (a ∷ left_out, (refl, refl))
    counted called (a ∷ b ∷ more) none = refused_isnt _ (over a b more called) none

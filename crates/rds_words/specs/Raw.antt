-- What is chosen by options where a command's words have several forms.
use Rattle.std.specs.Prelude.{Bool, true, false, List, [], ◌∷◌, ◌++◌, Option, Some, None, codes, map}
use Rattle.clap.specs.Words.{Text}

-- which values `get` prints, by which of its options are given: `--raw`, `--reg`, `--set`, `--counter`. Two of the last
-- three together name none
abbrev pub raw_words : Bool → Bool → Bool → Bool → Option (List Text)
raw_words false false false false = Some []
raw_words true false false false = Some (codes "--raw" ∷ [])
raw_words raw true false false = Some (codes "--reg" ∷ [])
raw_words raw false true false = Some (codes "--set" ∷ [])
raw_words raw false false true = Some (codes "--counter" ∷ [])
raw_words raw true true counter = None
raw_words raw true false true = None
raw_words raw false true true = None

-- the words of `init`: a file, a group, an own name and names; or, where `--from` says from which file, a file and an own
-- name
abbrev pub init_words : List Text → Option Text → Option (List Text)
init_words (file ∷ group ∷ own ∷ name ∷ names) None = Some (file ∷ group ∷ own ∷ name ∷ names)
init_words (file ∷ group ∷ own ∷ []) None = None
init_words (file ∷ own ∷ []) None = None
init_words (file ∷ []) None = None
init_words [] None = None
init_words (file ∷ group ∷ own ∷ names) (Some from) = None
init_words (file ∷ own ∷ []) (Some from) = Some (file ∷ own ∷ (codes "--from=" ++ from) ∷ [])
init_words (file ∷ []) (Some from) = None
init_words [] (Some from) = None

-- the words of `clear`: a file and a path; or, where `--all` says that it is the whole document, a file alone, behind
-- which the root's empty path stands
abbrev pub clear_words : Text → Option Text → Bool → Option (List Text)
clear_words file (Some path) false = Some (file ∷ path ∷ [])
clear_words file None true = Some (file ∷ [] ∷ codes "--all" ∷ [])
clear_words file (Some path) true = None
clear_words file None false = None

-- the peers that a site meets
abbrev pub peer_words : List Text → List Text
peer_words peers = map (λ peer. codes "--peer=" ++ peer) peers

-- who may come to a site: who knows the token in this file, where there is one, and whether other machines may
abbrev pub access_words : Option Text → Bool → List Text
access_words None false = []
access_words None true = codes "--open" ∷ []
access_words (Some token) false = (codes "--token-file=" ++ token) ∷ []
access_words (Some token) true = (codes "--token-file=" ++ token) ∷ codes "--open" ∷ []

-- the token that a node is shown, where one is
abbrev pub token_words : Option Text → List Text
token_words None = []
token_words (Some token) = (codes "--token-file=" ++ token) ∷ []

-- whether a site tells each request
abbrev pub log_words : Bool → List Text
log_words true = codes "--log" ∷ []
log_words false = []

-- the words, with the option that writes only what changes something
abbrev pub changed_words : Bool → List Text → List Text
changed_words true words = words ++ codes "--if-changed" ∷ []
changed_words false words = words

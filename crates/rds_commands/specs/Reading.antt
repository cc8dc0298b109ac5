-- Texts that are read of the standard input.
use Rattle.std.specs.Prelude.{◌≡◌, ◌+◌, ℕ, Bool, true, List, take, Option, IfSome, codes}
use Rattle.std.specs.Str.{bytes_eq}
use Rattle.rds_codec.specs.declared.limits.TheConstants.{LIMIT}

-- the word is that of the input and the output
abbrev pub is_piped : List ℕ → Bool
is_piped word = bytes_eq word (codes "-")

-- as much of an input as is read of a text: all of it, or one byte more than a text may have
abbrev pub text_read : List ℕ → List ℕ
text_read input = take (LIMIT + 1) input

-- where the word is that of the input, and it is known what that held, this is what was read of it
abbrev pub IsReadOfInput : Option (List ℕ) → List ℕ → List ℕ → Type 0
IsReadOfInput held word text = is_piped word ≡ true → IfSome held (λ input. text ≡ text_read input)

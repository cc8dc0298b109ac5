-- Rows appended one after another.
use Rattle.std.proofs.Common.{◌≡◌, List, ◌++◌, append_assoc, ◌∙◌}

pub appends : {A : Type 0} (xs ys zs rest all : List A) → xs ++ (ys ++ (zs ++ rest)) ≡ all → ((xs ++ ys) ++ zs) ++ rest ≡ all
appends xs ys zs rest all h = append_assoc (xs ++ ys) zs rest ∙ append_assoc xs ys (zs ++ rest) ∙ h

-- A torn end that is cut off.
use Rattle.std.proofs.Common.{◌≡◌, ℕ, ◌≤◌, List, length, take, Bool, false, Option, Some, None, IfSome, Result, Ok, Err, OnErr, refl, sym, ◌∙◌, ap, subst, arith, take-take, length-take, inl, inr}
use Rattle.std.specs.Prelude.{option_map}
use Rattle.std.proofs.lemmas.List.{take_all}
use Rattle.std.proofs.lemmas.Bool.{cases_lt}
use Rattle.rds_journal.specs.Device.{Cut, Only}
use Rattle.rds_journal.specs.Appending.{IsEnd, IsCutBack}

pub on_err : {T E : Type 0} (result : Result T E) (P : Type 0) → P → OnErr result P
on_err (Ok x) P p = tt
on_err (Err e) P p = p

abbrev Seen : Type 0
Seen = Option (List ℕ)

pub as_before : (end : ℕ) (is_torn : Bool) (old new : Seen) → IfSome old (IsEnd end is_torn) → new ≡ old → IfSome old (λ file. IsCutBack file end new)
as_before end is_torn None new ends e = tt
as_before end is_torn (Some file) new ends e = (length file, ends.within, e ∙ ap (λ (l : List ℕ). Some l) (sym (take_all (length file) file (omega arith))))

pub cut_back : (end : ℕ) (old mid new : Seen) → mid ≡ option_map (take end) old → new ≡ mid → IfSome old (λ file. IsCutBack file end new)
cut_back end None mid new cut e = tt
cut_back end (Some file) mid new cut e = (end, omega arith, e ∙ cut)

pub cut_lasts : (end : ℕ) (old mid : Seen) (before after : List ℕ → Type 0) → mid ≡ option_map (take end) old → IfSome mid (λ file. Only file after)
    → IfSome old (λ file. Only file before → Only (take end file) after)
cut_lasts end None mid before after cut only = tt
cut_lasts end (Some file) mid before after cut only = λ _. (let is : IfSome (Some (take end file)) (λ file. Only file after) = subst (λ (s : Seen). IfSome s (λ file. Only file after)) cut only in is)

front_is_all : (end : ℕ) (is_torn : Bool) (file : List ℕ) → is_torn ≡ false → IsEnd end is_torn file → file ≡ take end file
front_is_all end is_torn file whole ends = let is : end ≡ length file = ends.whole whole in sym (take_all end file (omega arith))

pub is_whole : (end : ℕ) (is_torn : Bool) (old : Seen) → is_torn ≡ false → IfSome old (IsEnd end is_torn) → old ≡ option_map (take end) old
is_whole end is_torn None whole ends = refl
is_whole end is_torn (Some file) whole ends = ap (λ (l : List ℕ). Some l) (front_is_all end is_torn file whole ends)

pub whole_lasts : (end : ℕ) (is_torn : Bool) (old : Seen) (before : List ℕ → Type 0) → is_torn ≡ false → IfSome old (IsEnd end is_torn)
    → IfSome old (λ file. Only file before → Only (take end file) before)
whole_lasts end is_torn None before whole ends = tt
whole_lasts end is_torn (Some file) before whole ends = λ only. subst (λ (l : List ℕ). Only l before) (front_is_all end is_torn file whole ends) only

pub uncut : (end : ℕ) (file : List ℕ) → Cut end file file
uncut end file = record { no_shorter = omega arith; front = take_all (length file) file (omega arith) }

pub cut_length : (end : ℕ) (old new : List ℕ) → Cut end old new → length new ≤ length old
cut_length end old new cut = omega (arith, ap length cut.front, length-take (length new) old)

cut_to : (end : ℕ) (old new : List ℕ) → Cut end old new → end ≤ length new → take end new ≡ take end old
cut_to end old new cut le = ap (take end) (sym cut.front) ∙ take-take end (length new) old le

pub cut_front : (end : ℕ) (old new : List ℕ) → Cut end old new → take end new ≡ take end old
cut_front end old new cut =
    elim (cases_lt (length old) end) [
      | inl lt ↦ ap (take end) (sym cut.front ∙ take_all (length new) old (omega (arith, cut.no_shorter)))
      | inr le ↦ cut_to end old new cut (omega (arith, cut.no_shorter))
    ]

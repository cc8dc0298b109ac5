-- What an append leaves behind the end of the whole records.
use Rattle.std.proofs.Common.{◌≡◌, ℕ, ◌≤◌, ◌+◌, List, ◌++◌, length, take, drop, Bool, Option, Some, None, IfSome, sym, ◌∙◌, ap, subst, arith, take-take, length-take, append-nil, inl, inr}
use Rattle.std.specs.Prelude.{option_map}
use Rattle.std.proofs.lemmas.List.{take_all, drop_all}
use Rattle.rds_journal.specs.Device.{written, Cut, OutcomesFollow, IsWrittenShort, Only, Torn}
use Rattle.rds_journal.specs.Appending.{appended, IsCutBack, IsEnd, IsUnappended, KeepsFront, LeavesEnd}
use Rattle.rds_journal.proofs.Cutting.{cut_length, cut_front}

abbrev Seen : Type 0
Seen = Option (List ℕ)

-- ---- what is seen

-- how long the file is that is cut there
cut_size : (end : ℕ) (file : List ℕ) → end ≤ length file → length (take end file) ≡ end
cut_size end file le = omega (arith, length-take end file)

pub reaches : (end : ℕ) (is_torn : Bool) (old mid : Seen) → IfSome old (IsEnd end is_torn) → mid ≡ option_map (take end) old → IfSome mid (λ file. end ≤ length file)
reaches end is_torn None mid ends is = subst (λ (s : Seen). IfSome s (λ file. end ≤ length file)) (sym is) tt
reaches end is_torn (Some file) mid ends is =
    let size = cut_size end file ends.within in
    let here : IfSome (Some (take end file)) (λ file. end ≤ length file) = omega arith in
    subst (λ (s : Seen). IfSome s (λ file. end ≤ length file)) (sym is) here

-- bytes that are written at the end of a file that is cut there
written_at_end : (end : ℕ) (file bytes : List ℕ) → end ≤ length file → written (take end file) end bytes ≡ appended file end bytes
written_at_end end file bytes le =
    let size = cut_size end file le in
    ap (λ (l : List ℕ). l ++ bytes ++ drop (end + length bytes) (take end file)) (take_all end (take end file) (omega arith))
    ∙ ap (λ (l : List ℕ). take end file ++ bytes ++ l) (drop_all (end + length bytes) (take end file) (omega arith))
    ∙ append-nil (take end file ++ bytes)

pub is_appended : (end : ℕ) (is_torn : Bool) (bytes : List ℕ) (old mid new : Seen) → IfSome old (IsEnd end is_torn) → mid ≡ option_map (take end) old
    → new ≡ option_map (λ file. written file end bytes) mid → new ≡ option_map (λ file. appended file end bytes) old
is_appended end is_torn bytes None mid new ends cut put = put ∙ ap (option_map (λ file. written file end bytes)) cut
is_appended end is_torn bytes (Some file) mid new ends cut put =
    put ∙ (ap (option_map (λ file. written file end bytes)) cut ∙ ap (λ (l : List ℕ). Some l) (written_at_end end file bytes ends.within))

pub stays_cut : (end : ℕ) (bytes : List ℕ) (old new : Seen) → IfSome old (λ file. IsCutBack file end new) → IfSome old (λ file. IsUnappended file end bytes new)
stays_cut end bytes None new back = tt
stays_cut end bytes (Some file) new back = inl back

pub is_short : (end : ℕ) (is_torn : Bool) (bytes : List ℕ) (old mid new : Seen) → IfSome old (IsEnd end is_torn) → mid ≡ option_map (take end) old
    → IfSome mid (λ file. IsWrittenShort file end bytes new) → IfSome old (λ file. IsUnappended file end bytes new)
is_short end is_torn bytes None mid new ends cut short = tt
is_short end is_torn bytes (Some file) mid new ends cut short =
    let part : IfSome (Some (take end file)) (λ file. IsWrittenShort file end bytes new) = subst (λ (s : Seen). IfSome s (λ file. IsWrittenShort file end bytes new)) cut short in
    inr (part.0, part.1, part.2 ∙ ap (λ (l : List ℕ). Some l) (written_at_end end file (take part.0 bytes) ends.within))

pub appended_lasts : (end : ℕ) (bytes : List ℕ) (old mid : Seen) (after : List ℕ → Type 0) → mid ≡ option_map (λ file. appended file end bytes) old
    → IfSome mid (λ file. Only file after) → IfSome old (λ file. Only (appended file end bytes) after)
appended_lasts end bytes None mid after is only = tt
appended_lasts end bytes (Some file) mid after is only =
    let here : IfSome (Some (appended file end bytes)) (λ file. Only file after) = subst (λ (s : Seen). IfSome s (λ file. Only file after)) is only in
    here

-- ---- what a crash leaves

pub cut_keeps : (end most : ℕ) (old new : List ℕ) → Cut end old new → KeepsFront end most old new
cut_keeps end most old new cut = record { front = cut_front end old new cut; bound = omega (arith, cut_length end old new cut) }

torn_keeps : (end most : ℕ) (old mid new : List ℕ) → Cut end old mid → Torn end most mid new → KeepsFront end most old new
torn_keeps end most old mid new cut torn = record {
  front = torn.before ∙ cut_front end old mid cut;
  bound = omega (arith, cut_length end old mid cut, torn.no_longer);
}

pub write_keeps : (end most : ℕ) (old mid new : List ℕ → Type 0) → OutcomesFollow (Cut end) old mid → OutcomesFollow (Torn end most) mid new
    → (c : List ℕ) → new c → (d : List ℕ) × old d × KeepsFront end most d c
write_keeps end most old mid new cut torn c left =
    let m = torn c left in
    let d = cut m.0 m.1 in
    (d.0, d.1, torn_keeps end most d.0 m.0 c d.2 m.2)

pub cut_leaves : (end most : ℕ) (file : List ℕ) (old : List ℕ → Type 0) → Only file old → (c : List ℕ) → ((d : List ℕ) × old d × Cut end d c) → LeavesEnd file end most c
cut_leaves end most file old only c from =
    let cut = subst (λ (d : List ℕ). Cut end d c) (only from.0 from.1) from.2 in
    record { front = cut_front end file c cut; behind = inl cut.front }

torn_leaves : (end most : ℕ) (file new : List ℕ) → Torn end most (take end file) new → LeavesEnd file end most new
torn_leaves end most file new torn = record {
  front = torn.before ∙ take-take end end file (omega arith);
  behind = inr (omega (arith, torn.no_longer, length-take end file));
}

pub write_leaves : (end most : ℕ) (file : List ℕ) (mid new : List ℕ → Type 0) → Only (take end file) mid → OutcomesFollow (Torn end most) mid new
    → (c : List ℕ) → new c → LeavesEnd file end most c
write_leaves end most file mid new only torn c left =
    let m = torn c left in
    torn_leaves end most file c (subst (λ (d : List ℕ). Torn end most d c) (only m.0 m.1) m.2)

-- ---- of a file that is known

pub known : {A : Type 0} (o : Option A) (P : A → Type 0) → ((x : A) → P x) → IfSome o P
known None P p = tt
known (Some x) P p = p x

pub each : {A : Type 0} (o : Option A) (P Q : A → Type 0) → ((x : A) → P x → Q x) → IfSome o P → IfSome o Q
each None P Q f p = tt
each (Some x) P Q f p = f x p

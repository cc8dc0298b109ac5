-- Rosters one of which begins the other, and the longer one.
use Rattle.std.proofs.Common.{◌≡◌, ℕ, ◌≤◌, Bool, true, false, ◌||◌, ◌↔◌, ◌⊎◌, ltb, List, length, drop, inl, inr, refl, sym, ap, ◌∙◌, arith, length-append}
use Rattle.std.specs.Bool.{Decides}
use Rattle.std.specs.List.{starts_with}
use Rattle.std.specs.Str.{bytes_eq}
use Rattle.std.proofs.lemmas.Bool.{cases_lt, lt-ltb, le-ltb}
use Rattle.std.proofs.lemmas.Bool.Decides.{same_from_decides}
use Rattle.std.proofs.lemmas.Slice.Eq.{bytes_eq-Decides, starts_is}
use Rattle.rds_names.specs.Roster.{RosterValue, AreFirst, OneBegins}
use Rattle.rds_state.specs.Fits.{ReplicaValue}
use Rattle.rds_session.specs.Judging.{longer_than, one_begins, replicas_of}
use Rattle.rds_session.specs.Received.{IsLongerIfThere}
use Rattle.rds_answers.proofs.Checks.{either, or_true}

-- names are the others' first ones exactly where the test says so
first_decides : (ns ms : List (List ℕ)) → Decides (starts_with bytes_eq ms ns) (AreFirst ns ms)
first_decides ns ms =
    let is = starts_is bytes_eq-Decides ms ns (starts_with bytes_eq ms ns) refl in
    (λ e. (drop (length ns) ms, is.0 e), λ first. is.1 first.0 first.1)

-- names are first ones of others, or those of these, exactly where the test says so
one_decides : (ns ms : List (List ℕ)) → Decides (one_begins ns ms) (AreFirst ns ms ⊎ AreFirst ms ns)
one_decides ns ms = (
  λ e. elim (either (starts_with bytes_eq ms ns) (starts_with bytes_eq ns ms) e) [ inl o ↦ inl ((first_decides ns ms).0 o) | inr o ↦ inr ((first_decides ms ns).0 o) ],
  λ h. elim h [
    | inl o ↦ ap (λ b. b || starts_with bytes_eq ns ms) ((first_decides ns ms).1 o)
    | inr o ↦ ap (λ b. starts_with bytes_eq ms ns || b) ((first_decides ms ns).1 o) ∙ or_true (starts_with bytes_eq ms ns)
  ],
)

-- of two rosters of one group, one begins the other exactly where its names are the other's first ones
pub names_begin : (r s : RosterValue) (one : Bool) → r.group ≡ s.group → (one ≡ true) ↔ OneBegins r s → one ≡ one_begins r.names s.names
names_begin r s one group exact =
    same_from_decides one (one_begins r.names s.names)
    (λ e. elim (exact.0 e) [ inl o ↦ inl o.1 | inr o ↦ inr o.1 ], λ h. exact.1 (elim h [ inl o ↦ inl (group, o) | inr o ↦ inr (sym group, o) ]))
    (one_decides r.names s.names)

pub group_is : (own other : RosterValue) → OneBegins own other → bytes_eq other.group own.group ≡ true
group_is own other h = (bytes_eq-Decides other.group own.group).1 (elim h [ inl o ↦ sym o.0 | inr o ↦ o.0 ])

pub one_begins_is : (own other : RosterValue) → OneBegins own other → one_begins other.names own.names ≡ true
one_begins_is own other h = (one_decides other.names own.names).1 (elim h [ inl o ↦ inr o.1 | inr o ↦ inl o.1 ])

-- where one begins the other, the own one begins the one with more names
pub longer_begins : (own other : RosterValue) → other.group ≡ own.group → one_begins other.names own.names ≡ true → IsLongerIfThere own (longer_than own other)
longer_begins own other group one =
    let n = length own.names in
    let m = length other.names in
    elim (cases_lt n m) [
      | inl less ↦
          let test : ltb n m ≡ true = lt-ltb _ _ less in
          let first : AreFirst own.names other.names = elim (either (starts_with bytes_eq own.names other.names) (starts_with bytes_eq other.names own.names) one) [
            | inl shorter ↦
                let f : AreFirst other.names own.names = (first_decides other.names own.names).0 shorter in
                absurd (omega (arith, less, ap length f.1, length-append other.names f.0))
            | inr is ↦ (first_decides own.names other.names).0 is
          ] in
          rw test (record { begins = (sym group, first); more = less })
      | inr most ↦ let test : ltb n m ≡ false = le-ltb _ _ most in rw test tt
    ]

-- how many replicas the longer of the two has
abbrev pub among : ReplicaValue → ReplicaValue → ℕ
among k from = replicas_of k (longer_than k.roster from.roster)

pub both_within : (k from : ReplicaValue) → (length from.roster.names ≤ among k from) × (length k.roster.names ≤ among k from)
both_within k from =
    let own = length k.roster.names in
    let other = length from.roster.names in
    elim (cases_lt own other) [
      | inl less ↦ let test : ltb own other ≡ true = lt-ltb _ _ less in rw test (omega arith, omega (arith, less))
      | inr most ↦ let test : ltb own other ≡ false = le-ltb _ _ most in rw test (omega (arith, most), omega arith)
    ]

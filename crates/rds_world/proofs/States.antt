-- Lives that agree, what a replica has of its own, and states that fit into a roster.
use Rattle.std.proofs.Common.{◌≡◌, ℕ, ◌<◌, true, max, refl, inl, inr, ◌⊎◌, arith, Option, Some, None}
use Rattle.std.specs.Prelude.{is_some}
use Rattle.rds_names.specs.declared.entry.Entry.{Entry}
use Rattle.rds_life.specs.Life.{Life, Live, Dead, IsNoLater, Agree, join_life}
use Rattle.rds_state.specs.Coordinates.{Coordinates, AtMost, AreCompatible, join}
use Rattle.rds_state.specs.Fits.{Fits}
use Rattle.rds_state.specs.Friends.{KnowsItsOwn}

pub by_life : {P : Type 0} (l : Option Life) → (l ≡ None → P) → ((e : Entry) → l ≡ Some (Live e) → P) → (l ≡ Some Dead → P) → P
by_life None a b c = a refl
by_life (Some (Live e)) a b c = b e refl
by_life (Some Dead) a b c = c refl

-- ---- lives that agree

pub agree_if : (l m : Option Life) → ((e f : Entry) → l ≡ Some (Live e) → m ≡ Some (Live f) → e ≡ f) → Agree l m
agree_if None m h = tt
agree_if (Some (Live e)) None h = tt
agree_if (Some (Live e)) (Some (Live f)) h = h e f refl refl
agree_if (Some (Live e)) (Some Dead) h = tt
agree_if (Some Dead) m h = tt

agree_same : (a : Option Life) → Agree a a
agree_same None = tt
agree_same (Some (Live e)) = refl
agree_same (Some Dead) = tt

pub compatible_same : (a : Coordinates) → AreCompatible a a
compatible_same a = record { each_dot = λ d. agree_same (a.life d) }

-- ---- what is seen

pub seen_later : (l m : Option Life) → IsNoLater l m → is_some l ≡ true → is_some m ≡ true
seen_later None m h s = cc
seen_later (Some (Live e)) None h s = absurd h
seen_later (Some (Live e)) (Some m) h s = refl
seen_later (Some Dead) None h s = absurd h
seen_later (Some Dead) (Some m) h s = refl

pub seen_either : (a b : Option Life) → is_some (join_life a b) ≡ true → (is_some a ≡ true) ⊎ (is_some b ≡ true)
seen_either None b s = inr s
seen_either (Some l) b s = inl refl

-- ---- what a replica has of its own

pub knows_same : (own : ℕ) (a : Coordinates) → KnowsItsOwn own a a
knows_same own a = record { dots = λ n s. s; numbers = λ q e. omega arith }

pub knows_grown : (own : ℕ) (a b : Coordinates) (c : Coordinates) → KnowsItsOwn own a c → AtMost a b → KnowsItsOwn own b c
knows_grown own a b c k h = record { dots = λ n s. seen_later _ _ (h.lives _) (k.dots n s); numbers = λ q e. omega (arith, k.numbers q e, h.numbers q) }

pub knows_join : (own : ℕ) (a b c : Coordinates) → KnowsItsOwn own a b → KnowsItsOwn own a c → KnowsItsOwn own a (join b c)
knows_join own a b c k h = record {
  dots = λ n s. elim (seen_either _ _ s) [ inl p ↦ k.dots n p | inr p ↦ h.dots n p ];
  numbers = λ q e. omega (arith, k.numbers q e, h.numbers q e);
}

pub knows_less : (own : ℕ) (a b c : Coordinates) → KnowsItsOwn own a b → AtMost c b → KnowsItsOwn own a c
knows_less own a b c k h = record { dots = λ n s. k.dots n (seen_later _ _ (h.lives _) s); numbers = λ q e. omega (arith, k.numbers q e, h.numbers q) }

-- ---- states of a roster's replicas alone

pub fits_join : (n : ℕ) (a b : Coordinates) → Fits n a → Fits n b → Fits n (join a b)
fits_join n a b f g = record {
  dots = λ d s. elim (seen_either _ _ s) [ inl p ↦ f.dots d p | inr p ↦ g.dots d p ];
  numbers = λ q lt. elim (one (a.number q) (b.number q) lt) [ inl p ↦ f.numbers q p | inr p ↦ g.numbers q p ];
}
  where
    one : (x y : ℕ) → 0 < max x y → (0 < x) ⊎ (0 < y)
    one x y h = grind arith

pub fits_below : (n : ℕ) (a b : Coordinates) → AtMost a b → Fits n b → Fits n a
fits_below n a b h f = record { dots = λ d s. f.dots d (seen_later _ _ (h.lives d) s); numbers = λ q lt. let k = h.numbers q in f.numbers q (omega arith) }

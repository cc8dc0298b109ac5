-- The order of one dot's lives, and the later of two.
use Rattle.std.proofs.Common.{◌≡◌, refl, sym, ap, ◌∙◌, Option, Some, None}
use Rattle.rds_life.specs.Life.{Life, Live, Dead, IsNoLater, Agree, join_life}

pub life_reflexive : (a : Option Life) → IsNoLater a a
life_reflexive None = tt
life_reflexive (Some (Live e)) = refl
life_reflexive (Some Dead) = tt

pub life_transitive : (a b c : Option Life) → IsNoLater a b → IsNoLater b c → IsNoLater a c
life_transitive None b c p q = tt
life_transitive (Some (Live e)) None c p q = absurd p
life_transitive (Some (Live e)) (Some (Live f)) None p q = absurd q
life_transitive (Some (Live e)) (Some (Live f)) (Some (Live g)) p q = p ∙ q
life_transitive (Some (Live e)) (Some (Live f)) (Some Dead) p q = tt
life_transitive (Some (Live e)) (Some Dead) None p q = absurd q
life_transitive (Some (Live e)) (Some Dead) (Some (Live g)) p q = absurd q
life_transitive (Some (Live e)) (Some Dead) (Some Dead) p q = tt
life_transitive (Some Dead) None c p q = absurd p
life_transitive (Some Dead) (Some (Live f)) c p q = absurd p
life_transitive (Some Dead) (Some Dead) c p q = q

pub life_antisymmetric : (a b : Option Life) → IsNoLater a b → IsNoLater b a → a ≡ b
life_antisymmetric None None p q = refl
life_antisymmetric None (Some (Live f)) p q = absurd q
life_antisymmetric None (Some Dead) p q = absurd q
life_antisymmetric (Some (Live e)) None p q = absurd p
life_antisymmetric (Some (Live e)) (Some (Live f)) p q = ap (λ x. Some (Live x)) p
life_antisymmetric (Some (Live e)) (Some Dead) p q = absurd q
life_antisymmetric (Some Dead) None p q = absurd p
life_antisymmetric (Some Dead) (Some (Live f)) p q = absurd p
life_antisymmetric (Some Dead) (Some Dead) p q = refl

pub life_left : (a b : Option Life) → IsNoLater a (join_life a b)
life_left None b = tt
life_left (Some (Live e)) None = refl
life_left (Some (Live e)) (Some (Live f)) = refl
life_left (Some (Live e)) (Some Dead) = tt
life_left (Some Dead) b = tt

pub life_right : (a b : Option Life) → Agree a b → IsNoLater b (join_life a b)
life_right None b h = life_reflexive b
life_right (Some (Live e)) None h = tt
life_right (Some (Live e)) (Some (Live f)) h = sym h
life_right (Some (Live e)) (Some Dead) h = tt
life_right (Some Dead) None h = tt
life_right (Some Dead) (Some (Live f)) h = tt
life_right (Some Dead) (Some Dead) h = tt

pub life_least : (a b c : Option Life) → IsNoLater a c → IsNoLater b c → IsNoLater (join_life a b) c
life_least None b c p q = q
life_least (Some (Live e)) None c p q = p
life_least (Some (Live e)) (Some (Live f)) c p q = p
life_least (Some (Live e)) (Some Dead) c p q = q
life_least (Some Dead) b c p q = p

pub life_commutes : (a b : Option Life) → Agree a b → join_life a b ≡ join_life b a
life_commutes None None h = refl
life_commutes None (Some (Live f)) h = refl
life_commutes None (Some Dead) h = refl
life_commutes (Some (Live e)) None h = refl
life_commutes (Some (Live e)) (Some (Live f)) h = ap (λ x. Some (Live x)) h
life_commutes (Some (Live e)) (Some Dead) h = refl
life_commutes (Some Dead) None h = refl
life_commutes (Some Dead) (Some (Live f)) h = refl
life_commutes (Some Dead) (Some Dead) h = refl

pub life_associates : (a b c : Option Life) → join_life (join_life a b) c ≡ join_life a (join_life b c)
life_associates None b c = refl
life_associates (Some (Live e)) None c = refl
life_associates (Some (Live e)) (Some (Live f)) None = refl
life_associates (Some (Live e)) (Some (Live f)) (Some (Live g)) = refl
life_associates (Some (Live e)) (Some (Live f)) (Some Dead) = refl
life_associates (Some (Live e)) (Some Dead) c = refl
life_associates (Some Dead) b c = refl

pub life_idempotent : (a : Option Life) → join_life a a ≡ a
life_idempotent None = refl
life_idempotent (Some (Live e)) = refl
life_idempotent (Some Dead) = refl

-- what agrees with both of two lives agrees with the later one
pub agree_joined : (l m k : Option Life) → Agree l k → Agree m k → Agree (join_life l m) k
agree_joined None m k p q = q
agree_joined (Some (Live e)) None k p q = p
agree_joined (Some (Live e)) (Some (Live f)) k p q = p
agree_joined (Some (Live e)) (Some Dead) k p q = q
agree_joined (Some Dead) m k p q = p

pub join_none : (o : Option Life) → join_life o None ≡ o
join_none None = refl
join_none (Some (Live e)) = refl
join_none (Some Dead) = refl

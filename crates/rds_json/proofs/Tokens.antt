-- The tokens of views.
use Rattle.std.proofs.Common.{◌≡◌, ◌∙◌, ap, sym, refl, ℕ, List, [], ◌∷◌, ◌++◌, codes, Some, None, append_assoc}
use Rattle.json.specs.Token.{Token, begin_object, end_object, key}
use Rattle.json.specs.Tree.{members_tokens}
use Rattle.serde_json.specs.Data.{Data, Members}
use Rattle.serde_json.specs.Written.{members_outline}
use Rattle.rds_tree.specs.Shown.{Shown, shows}
use Rattle.rds_tree.specs.Shows.{maps_in, regs_in, sets_in, counters_in}
use Rattle.rds_json.specs.Show.{data_of, maps_data, scalars_data, values_data}
use Rattle.rds_json.specs.Standing.{counter_standing, counter_data, standing_data, values_at}
use Rattle.rds_json.specs.Written.{counters_tokens, data_tokens}
use Rattle.rds_json.proofs.Ascending.{in_order}

-- the members of rows in their order, and the end of the object
abbrev pub rows_tokens : {V : Type 0} → (V → Data) → List (List ℕ × V) → List Token
rows_tokens shown rows = members_tokens (members_outline (in_order shown rows))

-- an object that begins goes on with its rows
pub begun : {V : Type 0} (shown : V → Data) (rows : List (List ℕ × V)) (ms : Members) (old new : List Token) → new ≡ old ++ begin_object ∷ [] → ms ≡ in_order shown rows
    → new ++ rows_tokens shown rows ≡ old ++ begin_object ∷ members_tokens (members_outline ms)
begun shown rows ms old new begins same =
    ap (λ ts. ts ++ rows_tokens shown rows) begins ∙ append_assoc old (begin_object ∷ []) (rows_tokens shown rows)
    ∙ ap (λ us. old ++ begin_object ∷ members_tokens (members_outline us)) (sym same)

view_tokens : (s : Shown) → data_tokens (data_of s)
    ≡ begin_object ∷ (counters_tokens (counters_in s) ++ key (codes "maps") ∷ (data_tokens (maps_data (maps_in s)) ++ key (codes "regs") ∷ (data_tokens (values_data (regs_in s))
    ++ key (codes "sets") ∷ (data_tokens (values_data (sets_in s)) ++ end_object ∷ []))))
view_tokens (shows maps regs sets None) = refl
view_tokens (shows maps regs sets (Some rows)) = refl

-- a part that begins with a token, and what follows it
part : (old : List Token) (t : Token) (ts rest : List Token) → ((old ++ t ∷ []) ++ ts) ++ rest ≡ old ++ t ∷ (ts ++ rest)
part old t ts rest = append_assoc (old ++ t ∷ []) ts rest ∙ append_assoc old (t ∷ []) (ts ++ rest)

parts : (old : List Token) (t u v w z : Token) (ts us vs ws : List Token) → ((((((((old ++ t ∷ []) ++ ts) ++ u ∷ []) ++ us) ++ v ∷ []) ++ vs) ++ w ∷ []) ++ ws) ++ z ∷ []
    ≡ old ++ t ∷ (ts ++ u ∷ (us ++ v ∷ (vs ++ w ∷ (ws ++ z ∷ []))))
parts old t u v w z ts us vs ws =
    part ((((((old ++ t ∷ []) ++ ts) ++ u ∷ []) ++ us) ++ v ∷ []) ++ vs) w ws (z ∷ []) ∙ part ((((old ++ t ∷ []) ++ ts) ++ u ∷ []) ++ us) v vs (w ∷ (ws ++ z ∷ []))
    ∙ part ((old ++ t ∷ []) ++ ts) u us (v ∷ (vs ++ w ∷ (ws ++ z ∷ []))) ∙ part old t ts (u ∷ (us ++ v ∷ (vs ++ w ∷ (ws ++ z ∷ []))))

-- a view whose parts are added one after the other
pub view_added : (s : Shown) (old a b c d e f g h new : List Token) → a ≡ old ++ begin_object ∷ [] → b ≡ a ++ counters_tokens (counters_in s) → c ≡ b ++ key (codes "maps") ∷ []
    → d ≡ c ++ data_tokens (maps_data (maps_in s)) → e ≡ d ++ key (codes "regs") ∷ [] → f ≡ e ++ data_tokens (values_data (regs_in s)) → g ≡ f ++ key (codes "sets") ∷ []
    → h ≡ g ++ data_tokens (values_data (sets_in s)) → new ≡ h ++ end_object ∷ [] → new ≡ old ++ data_tokens (data_of s)
view_added s old a b c d e f g h new p q r t u v w x y =
    rw (y, x, w, v, u, t, r, q, p) (parts old begin_object (key (codes "maps")) (key (codes "regs")) (key (codes "sets")) end_object (counters_tokens (counters_in s)) (data_tokens (maps_data (maps_in s))) (data_tokens (values_data (regs_in s))) (data_tokens (values_data (sets_in s)))
    ∙ ap (λ ts. old ++ ts) (sym (view_tokens s)))

standing_tokens : (k : List ℕ) (s : Shown) → data_tokens (standing_data k s)
    ≡ begin_object ∷ (key (codes "counter") ∷ (data_tokens (counter_data (counter_standing k (counters_in s))) ++ key (codes "reg") ∷ (data_tokens (scalars_data (values_at k (regs_in s)))
    ++ key (codes "set") ∷ (data_tokens (scalars_data (values_at k (sets_in s))) ++ end_object ∷ []))))
standing_tokens k (shows maps regs sets counters) = refl

-- what stands at a key, whose parts are added one after the other
pub standing_added : (k : List ℕ) (s : Shown) (old a b c d e f g new : List Token) → a ≡ old ++ begin_object ∷ [] → b ≡ a ++ key (codes "counter") ∷ []
    → c ≡ b ++ data_tokens (counter_data (counter_standing k (counters_in s))) → d ≡ c ++ key (codes "reg") ∷ [] → e ≡ d ++ data_tokens (scalars_data (values_at k (regs_in s)))
    → f ≡ e ++ key (codes "set") ∷ [] → g ≡ f ++ data_tokens (scalars_data (values_at k (sets_in s))) → new ≡ g ++ end_object ∷ [] → new ≡ old ++ data_tokens (standing_data k s)
standing_added k s old a b c d e f g new p q r t u v w x =
    let cs = data_tokens (counter_data (counter_standing k (counters_in s))) in
    let rs = data_tokens (scalars_data (values_at k (regs_in s))) in
    let ss = data_tokens (scalars_data (values_at k (sets_in s))) in
    let kc = key (codes "counter") in
    let kr = key (codes "reg") in
    let ks = key (codes "set") in
    let o = old ++ begin_object ∷ [] in
    rw (x, w, v, u, t, r, q, p) (part ((((o ++ kc ∷ []) ++ cs) ++ kr ∷ []) ++ rs) ks ss (end_object ∷ []) ∙ part ((o ++ kc ∷ []) ++ cs) kr rs (ks ∷ (ss ++ end_object ∷ []))
    ∙ part o kc cs (kr ∷ (rs ++ ks ∷ (ss ++ end_object ∷ []))) ∙ append_assoc old (begin_object ∷ []) (kc ∷ (cs ++ kr ∷ (rs ++ ks ∷ (ss ++ end_object ∷ []))))
    ∙ ap (λ ts. old ++ ts) (sym (standing_tokens k s)))

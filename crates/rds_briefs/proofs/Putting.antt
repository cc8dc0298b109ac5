-- Texts that are put together part after part.
use Rattle.std.proofs.Common.{◌≡◌, List, ℕ, [], ◌++◌, refl, sym, ◌∙◌, subst, append_assoc}
use Rattle.std.proofs.lemmas.List.{append-nil}
use Rattle.rds_briefs.specs.declared.text.Text.{Text}
use Rattle.rds_briefs.specs.Texts.{HoldsBriefText, Extends}

-- a part of the whole was put, and the rest is to come
pub record IsPutting (old now : Text) (rest whole : List ℕ) : Type 0 where
  pub said : List ℕ
  pub extends : Extends old now said
  pub joins : said ++ rest ≡ whole

pub put_begins : (x : Text) (whole : List ℕ) → IsPutting x x whole whole
put_begins x whole = record {
  said = [];
  extends = λ t h. subst (HoldsBriefText x) (sym (append-nil t)) h;
  joins =
      refl;
}

pub extends_then : (a b c : Text) (x y : List ℕ) → Extends a b x → Extends b c y → Extends a c (x ++ y)
extends_then a b c x y p q t h = subst (HoldsBriefText c) (append_assoc t x y) (q (t ++ x) (p t h))

pub put_more : (old now new : Text) (part rest whole : List ℕ) → IsPutting old now (part ++ rest) whole → Extends now new part → IsPutting old new rest whole
put_more old now new part rest whole is put =
    record { said = is.said ++ part; extends = extends_then old now new is.said part is.extends put; joins = append_assoc is.said part rest ∙ is.joins }

pub put_ends : (old now : Text) (whole : List ℕ) → IsPutting old now [] whole → Extends old now whole
put_ends old now whole is = subst (Extends old now) (sym (append-nil is.said) ∙ is.joins) is.extends

use Rattle.std.proofs.Common.{subst, sym, List, ℕ}
use Rattle.std.specs.Str.{IsUtf8}
use Rattle.rds_names.proofs.Ascii.{name_is_text}
use Rattle.rds_names.proofs.name.Name.as_str.Goals as goal

-- the bytes of a name are never refused
pub unreachable-requires : goal.unreachable-requires
unreachable-requires c = c.in-Err.ensures.cases.0 (subst (λ (bs : List ℕ). IsUtf8 bs) (sym c.as_bytes.ensures.bytes) (name_is_text c.args.self.now c.as_bytes.ensures.within))

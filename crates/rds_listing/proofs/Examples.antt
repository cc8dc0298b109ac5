-- Worked examples of the lines.
use Rattle.std.proofs.Common.{◌≡◌, [], ◌∷◌, pos, negsuc, codes, refl}
use Rattle.std.specs.Fmt.{digits}
use Rattle.std.specs.Prelude.{None, Some}
use Rattle.serde_json.proofs.OnLiterals.{serde_json_on_literals}
use Rattle.rds_names.specs.declared.entry.Kind.TheVariants.{Elem, Reg}
use Rattle.rds_names.specs.declared.scalar.Scalar.TheVariants as scalars
use Rattle.rds_state.specs.declared.command.Command.TheVariants.{Set}
use Rattle.rds_listing.specs.Conflicts.{conflict_line}
use Rattle.rds_listing.specs.Differences.{counter_line, leaf_at, only_line}
use Rattle.rds_listing.specs.Dump.{line_of_edit, edits_text, sum_edits}

conflict_example : conflict_line (record { path = codes "a" ∷ codes "b" ∷ []; kind = Reg; values = scalars.Int (pos 1) ∷ scalars.Text (codes "x") ∷ [] })
    ≡ codes "{\"path\":\"a/b\",\"values\":[1,\"x\"]}"
unfolding serde_json_on_literals digits
conflict_example = refl

set_example : line_of_edit (Set (codes "a" ∷ codes "b" ∷ []) (scalars.Text (codes "x"))) ≡ codes
    "[\"set\",\"a/b\",\"x\"]"
unfolding serde_json_on_literals digits
set_example = refl

-- a counter that stands at -3
below_zero_example : edits_text (sum_edits (codes "n") (negsuc 2)) ≡ codes "[\"dec\",\"n\",3]\n"
unfolding serde_json_on_literals digits
below_zero_example = refl

-- one that stands at 0
zero_example : edits_text (sum_edits (codes "n") (pos 0)) ≡ codes "[\"inc\",\"n\",1]\n[\"dec\",\"n\",1]\n"
unfolding serde_json_on_literals digits
zero_example = refl

-- one that stands above what an edit raises it by
many_example : edits_text (sum_edits (codes "n") (pos 281474976710656)) ≡ codes "[\"inc\",\"n\",281474976710655]\n[\"inc\",\"n\",1]\n"
unfolding serde_json_on_literals digits
many_example = refl

only_example : only_line (codes "first") (leaf_at (codes "a" ∷ codes "b" ∷ []) Elem (scalars.Int (pos 3)))
    ≡ codes "{\"only\":\"first\",\"path\":\"a/b\",\"kind\":\"set\",\"value\":3}"
unfolding serde_json_on_literals digits
only_example = refl

counter_example : counter_line (codes "n") (Some (pos 3)) None ≡ codes "{\"path\":\"n\",\"kind\":\"counter\",\"first\":3,\"second\":null}"
unfolding serde_json_on_literals digits
counter_example = refl

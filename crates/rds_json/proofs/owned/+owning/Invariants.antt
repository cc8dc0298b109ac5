use Rattle.std.proofs.Common.{◌≡◌, drop, map, option_map}
use Rattle.json.specs.Value as borrowed
use Rattle.serde_json.specs.Data.{no_members}
use Rattle.serde_json.specs.Read.{of_items, of_members}
use Rattle.serde_json.specs.View.{view, members_view}
use Rattle.rds_json.proofs.ReadItems.{before}
use Rattle.rds_json.proofs.owned.+owning.Given as goal

abbrev pub invariant-owned_items-loop-item : goal.invariant-owned_items-loop-item
invariant-owned_items-loop-item l =
    option_map (before (map view l.found.items)) (of_items (borrowed.items_view (drop l.item-index l.items))) ≡ of_items (borrowed.items_view l.items)

abbrev pub invariant-owned_members-loop-member : goal.invariant-owned_members-loop-member
invariant-owned_members-loop-member l =
    of_members (borrowed.members_view (drop l.member-index l.members)) (members_view l.found.entries) ≡ of_members (borrowed.members_view l.members) no_members
